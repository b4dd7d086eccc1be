use Rattle.std.proofs.Common.{sym, subst}
use Rattle.unwind_definitions.specs.Caller.{Columns, StepFault}
use Rattle.std.proofs.Common.{List, ℕ}
use Rattle.unwinding_frames.specs.OneLine.{by_one, line_is, is_line}
use Rattle.unwinding_frames.specs.Passes.{Line, IsLine}
use Rattle.unwinding_frames.proofs.abi.laws.lines_are_one.Goals as goal

pub returns : goal.returns
returns c sees undoing asks limit words start line = (
  line_is sees undoing asks limit words start line,
  λ same. subst (λ (l : Line Columns StepFault (List ℕ)). IsLine (by_one sees undoing) asks limit words start l) (sym same) (is_line sees undoing asks limit words start),
)
