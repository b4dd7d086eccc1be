use Rattle.std.proofs.Common.{◌≡◌, ◌+◌, List, length, sym, ap, subst, arith}
use Rattle.unwind_definitions.specs.Function.{AreWithin, Range}
use Rattle.table_check.specs.declared.claims.Claim.{Claim}
use Rattle.table_check.specs.ClaimViews.{function_of}
use Rattle.table_check.specs.Ranges.{IsWithin, LeavesFirst, extent_of}
use Rattle.table_check.proofs.Reduced.{SoFar, map_twice, so_far_all, so_far_fails, so_far_more}
use Rattle.table_check.proofs.ranges.first_out_of_place.Goals as goal
use Rattle.table_check.proofs.ranges.first_out_of_place.Goals.{then-claim-from-via-then-claim-from, then-claim-from-via-else-claim-from+then-claim, then-claim-from-via-else-claim-from+else-claim+then-end-claim}

abbrev range_at : Claim → Range
range_at x = extent_of (function_of x)

pub returns-then-claim-from : goal.returns-then-claim-from
returns-then-claim-from c =
    let xs : List Claim = c.args.claims.now in
    let this : Claim = c.index-claims-i.result in
    subst (λ l. LeavesFirst c.args.start c.args.end l c.loop-i.i) (sym (map_twice function_of extent_of xs))
    (so_far_fails range_at c.args.start c.args.end xs c.loop-i.from c.loop-i.i this c.loop-i-test.true c.loop-i.invariant
    (λ there. let within = subst (λ (x : Claim). IsWithin c.loop-i.from c.args.end (range_at x)) (sym c.index-claims-i.is) there in
    let x = within.0 in let y = within.1 in let z = within.2 in
    elim c.then-claim-from.branch [
      | then-claim-from-via-then-claim-from w ↦ (let h = w.if-claim-from.true in omega (arith, x, h))
      | then-claim-from-via-else-claim-from+then-claim w ↦ (let h = w.if-claim.true in omega (arith, y, h))
      | then-claim-from-via-else-claim-from+else-claim+then-end-claim w ↦ (let h = w.if-end-claim.true in omega (arith, z, h))
    ]))

pub loop-i-preserved : goal.loop-i-preserved
loop-i-preserved c =
    let xs : List Claim = c.args.claims.now in
    let this : Claim = c.index-claims-i.result in
    let there = subst (λ (x : Claim). IsWithin c.loop-i.from c.args.end (range_at x)) c.index-claims-i.is (c.if-claim-from.false, c.if-claim.false, c.if-end-claim.false) in
    subst (λ n. SoFar range_at c.args.start c.args.end xs n (c.loop-i.i + 1)) (sym (ap (λ (x : Claim). x.end) c.index-claims-i.is))
    (so_far_more range_at c.args.start c.args.end xs c.loop-i.from c.loop-i.i this c.loop-i-test.true c.loop-i.invariant there)

pub returns : goal.returns
returns c =
    let xs : List Claim = c.args.claims.now in
    let all : c.loop-i.i ≡ length xs = let a = c.loop-i-test.false in let b = c.loop-i.auto.i-end in omega (arith, a, b) in
    subst (AreWithin c.args.start c.args.end) (sym (map_twice function_of extent_of xs)) (so_far_all range_at c.args.start c.args.end xs c.loop-i.from c.loop-i.i all c.loop-i.invariant)
