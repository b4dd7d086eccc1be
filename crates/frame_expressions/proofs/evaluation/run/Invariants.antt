use Rattle.std.proofs.Common.{◌≡◌, length}
use Rattle.unwind_definitions.specs.Expressions.{answer_from, evaluation}
use Rattle.encoded_pointers.specs.CursorViews.{at}
use Rattle.frame_expressions.specs.Answers.{stack_of}
use Rattle.frame_expressions.proofs.Within.{IsPlace}
use Rattle.frame_expressions.proofs.evaluation.run.Given as goal

-- the answer from here, with the operations that are left, is the expression's
abbrev pub invariant-loop-input : goal.invariant-loop-input
invariant-loop-input g l = record {
  place : IsPlace l.expression (at l.input);
  long : l.end ≡ length l.expression;
  same : answer_from l.image (g.R.RegisterMap.columns l.registers) l.expression l.left (record { position = l.input.offset; stack = l.stack }) ≡ evaluation l.fn.image l.fn.expression (stack_of l.fn.initial) (g.R.RegisterMap.columns l.fn.registers);
}

abbrev pub decreases-loop-input : goal.decreases-loop-input
decreases-loop-input g l = l.left
