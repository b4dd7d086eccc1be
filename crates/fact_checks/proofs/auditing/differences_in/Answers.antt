use Rattle.std.proofs.Common.{◌+◌, map, take, get_or, sym, subst, arith}
use Rattle.encoded_pointers.specs.PointerViews.{bases_of}
use Rattle.fact_checks.specs.declared.facts.ClaimedFacts.{ClaimedFacts}
use Rattle.fact_checks.specs.ClaimViews.{claim_of}
use Rattle.fact_checks.specs.Audits.{AreAudited}
use Rattle.fact_checks.proofs.AllClaims.{audited_all, audited_more}
use Rattle.fact_checks.proofs.Left.{order_split, unread}
use Rattle.fact_checks.proofs.auditing.differences_in.Goals as goal

pub loop-i-init : goal.loop-i-init
loop-i-init c = (0, c.requires.order, tt, λ fdes finds apart. (tt, c.new-differences.ensures.items))

pub loop-i-preserved : goal.loop-i-preserved
loop-i-preserved c =
    let xs = c.args.claims.now in
    let i = c.loop-i.i in
    let this : ClaimedFacts = get_or xs i unread in
    let inv = c.loop-i.invariant in
    let left = order_split claim_of xs i unread c.loop-i-test.true inv.0 inv.1 in (
      this.to,
      left.1,
      c.in_ok-add_claim.ensures.begun,
      λ fdes finds apart.
          let before = inv.3 fdes finds apart in
          let one = c.in_ok-add_claim.ensures.differences fdes finds apart before.0 in
          (one.0, subst (AreAudited (bases_of c.args.table.now.bases) fdes 0 (map claim_of (take (i + 1) xs))) (sym one.2) (audited_more (bases_of c.args.table.now.bases) fdes claim_of xs i unread _ one.1 c.loop-i-test.true before.1 one.3)),
    )

pub returns : goal.returns
returns c fdes finds apart = audited_all (bases_of c.args.table.now.bases) fdes claim_of 0 c.args.claims.now c.loop-i.i _ (omega arith) (c.loop-i.invariant.3 fdes finds apart).1
