use Rattle.std.proofs.Common.{◌≤◌, ◌+◌, ◌∙◌, length, sym, arith}
use Rattle.std.proofs.lemmas.Bool.{eqb-true}
use Rattle.core_file.proofs.NoteLemmas.{fewer_left, whole_empty}
use Rattle.core_file.proofs.notes.are_whole_notes.Goals as goal

pub loop-rest-smaller : goal.loop-rest-smaller
loop-rest-smaller c =
    let fewer : length c.in-Some.after.now + 12 ≤ length c.loop-rest.rest.now = fewer_left _ _ (sym c.in-Some.ensures) in
    omega arith

pub returns : goal.returns
returns c = sym (whole_empty c.loop-rest.rest.now (eqb-true _ _ (sym c.loop-rest-test.ensures))) ∙ c.loop-rest.invariant
