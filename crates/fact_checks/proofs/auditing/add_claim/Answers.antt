use Rattle.std.proofs.Common.{None, Some, subst, sym}
use Rattle.encoded_pointers.specs.PointerViews.{bases_of}
use Rattle.eh_frame.specs.EntryViews.{fde_of}
use Rattle.fact_checks.specs.ClaimViews.{claim_of}
use Rattle.fact_checks.specs.Looking.{IsBegun, IsListed, IsListedAt}
use Rattle.fact_checks.proofs.OneClaim.{none_there, refused_there, rows_there}
use Rattle.fact_checks.proofs.auditing.add_claim.Goals as goal

pub returns-in_default-clause-differences : goal.returns-in_default-clause-differences
returns-in_default-clause-differences c fdes finds apart listed =
    let none : IsListedAt fdes c.args.claim.now.from None = subst (IsListedAt fdes c.args.claim.now.from) c.in_default.is (c.begin_for.ensures.listed fdes finds listed) in (
      subst (IsListed fdes) (sym c.in_default.is) tt,
      _,
      c.in_ok-put_whole.ensures,
      none_there (bases_of c.args.table.now.bases) fdes apart (claim_of c.args.claim.now) c.requires.some c.args.place none,
    )

pub returns-in-Some-refusal-clause-differences : goal.returns-in-Some-refusal-clause-differences
returns-in-Some-refusal-clause-differences c fdes finds apart listed =
    let at : IsListedAt fdes c.args.claim.now.from (Some c.in-Some.begun) = subst (IsListedAt fdes c.args.claim.now.from) c.in-Some.is (c.begin_for.ensures.listed fdes finds listed) in (
      at.0,
      _,
      c.in_ok-put_whole-2.ensures,
      refused_there (bases_of c.args.table.now.bases) fdes apart (claim_of c.args.claim.now) c.requires.some c.args.place (fde_of c.in-Some.begun.fde) at.0 at.1 c.in-Some-refusal.mismatch c.in-Some-refusal.ensures,
    )

pub returns-clause-differences : goal.returns-clause-differences
returns-clause-differences c fdes finds apart listed =
    let at : IsListedAt fdes c.args.claim.now.from (Some c.in-Some.begun) = subst (IsListedAt fdes c.args.claim.now.from) c.in-Some.is (c.begin_for.ensures.listed fdes finds listed) in
    let begun : IsBegun (bases_of c.args.table.now.bases) c.begin_for.new.walk c.args.claim.now.from (Some c.in-Some.begun) = subst (IsBegun (bases_of c.args.table.now.bases) c.begin_for.new.walk c.args.claim.now.from) c.in-Some.is c.begin_for.ensures.begun in
    let found = c.in_ok-add_differences.ensures.differences in (
      at.0,
      found.0,
      found.1,
      rows_there (bases_of c.args.table.now.bases) fdes apart (claim_of c.args.claim.now) c.requires.some c.args.place (fde_of c.in-Some.begun.fde) at.0 at.1 c.in_default-refusal.ensures c.in-Some.begun.at found.0 begun.1 found.2,
    )
