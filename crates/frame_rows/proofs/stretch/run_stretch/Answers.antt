use Rattle.std.proofs.Common.{arith}
use Rattle.std.proofs.lemmas.Result.{err_from_is_err_and}
use Rattle.unwind_definitions.specs.Instructions.{Coding}
use Rattle.frame_rows.specs.InstructionViews.{coding_in}
use Rattle.frame_rows.specs.Stretches.{left_of}
use Rattle.frame_rows.proofs.TurnSteps.{turn_cannot, turn_ran, turn_leads, turn_ends}
use Rattle.frame_rows.proofs.stretch.run_stretch.Goals as goal

pub returns-in_err-take_turn-clause-ends : goal.returns-in_err-take_turn-clause-ends
returns-in_err-take_turn-clause-ends c start run rep =
    let now = c.loop-next.invariant.1 start run rep in
    let coding : Coding = coding_in c.args.coding in
    let p = err_from_is_err_and c.from_residual.result c.from_residual.ensures.1 in
    rw (p.1, p.2) (turn_cannot start run (left_of coding c.args.instructions.now) now.0 (left_of coding c.loop-next.instructions) now.2 _ _ _ (c.in_err-take_turn.ensures.turns start now.0 now.1))

pub loop-next-smaller : goal.loop-next-smaller
loop-next-smaller c = let less = rw c.in-Ran.is at c.in_ok-take_turn.ensures.fewer in omega (arith, less)

pub loop-next-preserved : goal.loop-next-preserved
loop-next-preserved c = (
  let less = rw c.in-Ran.is at c.in_ok-take_turn.ensures.fewer in let before = c.loop-next.invariant.0 in omega (arith, less),
  λ start run rep.
      let now = c.loop-next.invariant.1 start run rep in
      let coding : Coding = coding_in c.args.coding in
      let turns = rw c.in-Ran.is at (c.in_ok-take_turn.ensures.turns start now.0 now.1) in
      turn_ran start run (left_of coding c.args.instructions.now) now.0 (left_of coding c.loop-next.instructions) now.2 _ _ turns,
  λ flag.
      let moves = (rw c.in-Ran.is at c.in_ok-take_turn.ensures.moves) flag in
      let before = c.loop-next.invariant.2 moves.0 in
      (before.0, λ m. before.1 (moves.1 m)),
  λ rows k. c.in_ok-take_turn.ensures.rows rows (c.loop-next.invariant.3 rows k),
)

pub returns-in-LeadsOn-clause-ends : goal.returns-in-LeadsOn-clause-ends
returns-in-LeadsOn-clause-ends c start run rep =
    let now = c.loop-next.invariant.1 start run rep in
    let coding : Coding = coding_in c.args.coding in
    let turns = rw c.in-LeadsOn.is at (c.in_ok-take_turn.ensures.turns start now.0 now.1) in
    turn_leads start run (left_of coding c.args.instructions.now) now.0 (left_of coding c.loop-next.instructions) now.2 _ _ _ turns

pub returns-in-LeadsOn-clause-fewer : goal.returns-in-LeadsOn-clause-fewer
returns-in-LeadsOn-clause-fewer c =
    let less = rw c.in-LeadsOn.is at c.in_ok-take_turn.ensures.fewer in let before = c.loop-next.invariant.0 in omega (arith, less)

pub returns-in-LeadsOn-clause-moves : goal.returns-in-LeadsOn-clause-moves
returns-in-LeadsOn-clause-moves c flag =
    let moves = (rw c.in-LeadsOn.is at c.in_ok-take_turn.ensures.moves) flag in
    let before = c.loop-next.invariant.2 moves.0 in
    (before.0, λ m. before.1 (moves.1 m))

pub returns-in-Ended-clause-ends : goal.returns-in-Ended-clause-ends
returns-in-Ended-clause-ends c start run rep =
    let now = c.loop-next.invariant.1 start run rep in
    let coding : Coding = coding_in c.args.coding in
    let turns = rw c.in-Ended.is at (c.in_ok-take_turn.ensures.turns start now.0 now.1) in
    turn_ends start run (left_of coding c.args.instructions.now) now.0 (left_of coding c.loop-next.instructions) now.2 _ (left_of coding c.take_turn.new.instructions) turns

pub returns-in-Ended-clause-moves : goal.returns-in-Ended-clause-moves
returns-in-Ended-clause-moves c flag =
    let moves = (rw c.in-Ended.is at c.in_ok-take_turn.ensures.moves) flag in
    let before = c.loop-next.invariant.2 moves.0 in
    (before.0, before.1 moves.1)
