use Rattle.std.proofs.Common.{not, sym, subst, ap, ◌∙◌, arith}
use Rattle.table_check.specs.declared.claims.Claim.{Claim}
use Rattle.table_check.specs.ClaimViews.{function_of}
use Rattle.table_check.specs.Marks.{IsMarked}
use Rattle.table_check.specs.Scanned.{IsDescribedAmong}
use Rattle.table_check.proofs.GoneThrough.{all_done, all_more, fails_here}
use Rattle.table_check.proofs.Marking.{is_noted, marked_at, none_is}
use Rattle.table_check.proofs.marks.first_missing.Goals as goal

pub returns-then-is_none : goal.returns-then-is_none
returns-then-is_none c image bases fdes marked =
    let this : Claim = c.index-claims-i.result in
    let here = subst (IsMarked image bases fdes) (sym c.index-claims-i.is) (marked_at image bases fdes c.args.claims.now c.loop-i.i this c.loop-i-test.true marked) in
    fails_here function_of (IsDescribedAmong fdes) c.args.claims.now c.loop-i.i this c.loop-i-test.true (c.loop-i.invariant image bases fdes marked) (λ is.
    none_is image bases fdes this (c.is_none.ensures ∙ ap not c.if-is_none.true) here (subst (λ (x : Claim). IsDescribedAmong fdes (function_of x)) (sym c.index-claims-i.is) is))

pub loop-i-preserved : goal.loop-i-preserved
loop-i-preserved c image bases fdes marked =
    let this : Claim = c.index-claims-i.result in
    let here = subst (IsMarked image bases fdes) (sym c.index-claims-i.is) (marked_at image bases fdes c.args.claims.now c.loop-i.i this c.loop-i-test.true marked) in
    all_more function_of (IsDescribedAmong fdes) c.args.claims.now c.loop-i.i this c.loop-i-test.true (c.loop-i.invariant image bases fdes marked)
    (subst (λ (x : Claim). IsDescribedAmong fdes (function_of x)) c.index-claims-i.is (is_noted image bases fdes this (c.is_none.ensures ∙ ap not c.if-is_none.false) here))

pub returns : goal.returns
returns c image bases fdes marked = let more = c.loop-i-test.false in all_done function_of (IsDescribedAmong fdes) c.args.claims.now c.loop-i.i (omega (arith, more)) (c.loop-i.invariant image bases fdes marked)
