use Rattle.std.proofs.Common.{None, refl, ◌∙◌, arith, get_or, length-set}
use Rattle.table_check.specs.declared.claims.Claim.{Claim}
use Rattle.table_check.proofs.Marking.{all_unmarked, set_same, unmarked_more, with_description}
use Rattle.table_check.proofs.marks.forget_descriptions.Goals as goal

pub loop-i-preserved : goal.loop-i-preserved
loop-i-preserved c =
    let inv = c.loop-i.invariant in
    let cs = c.loop-i.claims in
    let d = c.index-claims-i.result in
    let there = c.loop-i-test.true in let long = inv.0 in
    let new : Claim = with_description (get_or cs c.loop-i.i d) None in (
      length-set cs c.loop-i.i new ∙ inv.0,
      set_same cs c.loop-i.i new d (omega (arith, there, long)) refl ∙ inv.1,
      unmarked_more cs c.loop-i.i new refl (omega (arith, there, long)) inv.2,
    )

pub returns-clause-none : goal.returns-clause-none
returns-clause-none c =
    let inv = c.loop-i.invariant in
    let done = c.loop-i-test.false in let long = inv.0 in
    all_unmarked c.loop-i.claims (λ k d lt. inv.2 k d (omega (arith, lt, long, done)))
