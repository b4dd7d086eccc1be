use Rattle.std.proofs.Common.{sym, subst, arith}
use Rattle.table_check.specs.declared.claims.Claim.{Claim}
use Rattle.table_check.specs.ClaimViews.{function_of}
use Rattle.table_check.specs.Descriptions.{HasCode}
use Rattle.table_check.specs.Marks.{IsMarked}
use Rattle.table_check.specs.Scanned.{IsDescribedAmong}
use Rattle.table_check.proofs.Deciding.{decides_not}
use Rattle.table_check.proofs.GoneThrough.{all_at, all_done, all_more, fails_here}
use Rattle.table_check.proofs.Marking.{marked_at}
use Rattle.table_check.proofs.marks.first_other_program.Goals as goal

pub returns-then-not-has_code : goal.returns-then-not-has_code
returns-then-not-has_code c image bases fdes apart marked all =
    let cs = c.args.claims.now in
    let this : Claim = c.index-claims-i.result in
    let i = c.loop-i.i in
    let here = subst (IsMarked image bases fdes) (sym c.index-claims-i.is) (marked_at image bases fdes cs i this c.loop-i-test.true marked) in
    let some = subst (λ (x : Claim). IsDescribedAmong fdes (function_of x)) (sym c.index-claims-i.is) (all_at function_of (IsDescribedAmong fdes) cs i this c.loop-i-test.true all) in
    fails_here function_of (HasCode image bases fdes) cs i this c.loop-i-test.true (c.loop-i.invariant image bases fdes apart marked all) (λ is.
    decides_not c.has_code.result (c.has_code.ensures image bases fdes apart here some) c.if-not-has_code.true (subst (λ (x : Claim). HasCode image bases fdes (function_of x)) (sym c.index-claims-i.is) is))

pub loop-i-preserved : goal.loop-i-preserved
loop-i-preserved c image bases fdes apart marked all =
    let cs = c.args.claims.now in
    let this : Claim = c.index-claims-i.result in
    let i = c.loop-i.i in
    let here = subst (IsMarked image bases fdes) (sym c.index-claims-i.is) (marked_at image bases fdes cs i this c.loop-i-test.true marked) in
    let some = subst (λ (x : Claim). IsDescribedAmong fdes (function_of x)) (sym c.index-claims-i.is) (all_at function_of (IsDescribedAmong fdes) cs i this c.loop-i-test.true all) in
    all_more function_of (HasCode image bases fdes) cs i this c.loop-i-test.true (c.loop-i.invariant image bases fdes apart marked all)
    (subst (λ (x : Claim). HasCode image bases fdes (function_of x)) c.index-claims-i.is ((c.has_code.ensures image bases fdes apart here some).0 c.if-not-has_code.false))

pub returns : goal.returns
returns c image bases fdes apart marked all =
    let more = c.loop-i-test.false in
    all_done function_of (HasCode image bases fdes) c.args.claims.now c.loop-i.i (omega (arith, more)) (c.loop-i.invariant image bases fdes apart marked all)
