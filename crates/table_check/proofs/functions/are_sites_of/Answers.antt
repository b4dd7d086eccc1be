use Rattle.std.proofs.Common.{◌≡◌, List, length, refl, sym, subst, arith}
use Rattle.unwind_definitions.specs.Function.{AreWithin, MayAsk, Range, Site}
use Rattle.unwinding_frames.specs.declared.language_table.EhAction.TheVariants as code
use Rattle.table_check.specs.declared.claims.ClaimedSite.{ClaimedSite}
use Rattle.table_check.specs.ClaimViews.{function_of, site_of}
use Rattle.table_check.proofs.Deciding.{decides_no, decides_not, decides_yes}
use Rattle.table_check.proofs.GoneThrough.{all_at, all_done, all_more}
use Rattle.table_check.proofs.Reduced.{map_twice, so_far_all, so_far_more, so_far_not}
use Rattle.table_check.proofs.functions.are_sites_of.Goals as goal
use Rattle.table_check.proofs.functions.are_sites_of.Goals.{then-range-from-via-then-range-from, then-range-from-via-else-range-from+then-range, then-range-from-via-else-range-from+else-range+then-claim-range}

abbrev unread : ClaimedSite
unread = record { range = record { from = 0; to = 0 }; action = code.None }

abbrev range_at : ClaimedSite → Range
range_at s = (site_of s).range

pub returns-then-range-from : goal.returns-then-range-from
returns-then-range-from c =
    let xs : List ClaimedSite = c.args.sites.now in
    decides_no (λ is. so_far_not range_at c.args.claim.now.start c.args.claim.now.end xs c.loop-site.from c.loop-site.site-index unread c.loop-site-test.true c.loop-site.invariant.0
    (λ within. let x = within.0 in let y = within.1 in let z = within.2 in
    elim c.then-range-from.branch [
      | then-range-from-via-then-range-from w ↦ (let h = w.if-range-from.true in omega (arith, x, h))
      | then-range-from-via-else-range-from+then-range w ↦ (let h = w.if-range.true in omega (arith, y, h))
      | then-range-from-via-else-range-from+else-range+then-claim-range w ↦ (let h = w.if-claim-range.true in omega (arith, z, h))
    ])
    (subst (AreWithin c.args.claim.now.start c.args.claim.now.end) (map_twice site_of (λ (s : Site). s.range) xs) is.ranges))

pub returns-then-not-may_ask : goal.returns-then-not-may_ask
returns-then-not-may_ask c =
    let f = function_of c.args.claim.now in
    let xs : List ClaimedSite = c.args.sites.now in
    decides_no (λ is. decides_not c.may_ask.result (c.may_ask.ensures f refl refl) c.if-not-may_ask.true (all_at site_of (λ (s : Site). MayAsk f s.action) xs c.loop-site.site-index unread c.loop-site-test.true is.actions))

pub loop-site-preserved : goal.loop-site-preserved
loop-site-preserved c =
    let f = function_of c.args.claim.now in
    let xs : List ClaimedSite = c.args.sites.now in (
      so_far_more range_at c.args.claim.now.start c.args.claim.now.end xs c.loop-site.from c.loop-site.site-index unread c.loop-site-test.true c.loop-site.invariant.0 (c.if-range-from.false, c.if-range.false, c.if-claim-range.false),
      all_more site_of (λ (s : Site). MayAsk f s.action) xs c.loop-site.site-index unread c.loop-site-test.true c.loop-site.invariant.1 ((c.may_ask.ensures f refl refl).0 c.if-not-may_ask.false),
    )

pub returns : goal.returns
returns c =
    let f = function_of c.args.claim.now in
    let xs : List ClaimedSite = c.args.sites.now in
    let all : c.loop-site.site-index ≡ length xs = let a = c.loop-site-test.false in let b = c.loop-site.auto.site-index-end in omega (arith, a, b) in
    decides_yes (record {
      ranges = subst (AreWithin c.args.claim.now.start c.args.claim.now.end) (sym (map_twice site_of (λ (s : Site). s.range) xs)) (so_far_all range_at c.args.claim.now.start c.args.claim.now.end xs c.loop-site.from c.loop-site.site-index all c.loop-site.invariant.0);
      actions = all_done site_of (λ (s : Site). MayAsk f s.action) xs c.loop-site.site-index c.loop-site-test.false c.loop-site.invariant.1;
    })
