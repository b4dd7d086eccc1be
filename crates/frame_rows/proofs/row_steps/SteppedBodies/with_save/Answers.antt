use Rattle.std.proofs.Common.{List, Result, subst}
use Rattle.unwind_definitions.specs.declared.error.Error.{Error as Fault}
use Rattle.unwind_definitions.specs.Instructions.{Offset, Write}
use Rattle.frame_rows.specs.BodySteps.{MakesBody}
use Rattle.frame_rows.specs.RowValue.{RowValue}
use Rattle.frame_rows.proofs.BodySteps.{save_found}
use Rattle.frame_rows.proofs.row_steps.SteppedBodies.with_save.Goals as goal

pub returns-in-Some : goal.returns-in-Some
returns-in-Some c = subst (λ (b : List (Result RowValue Fault)). MakesBody b (Write c.args.register.0 (Offset c.args.offset)) c.args.place c.in-Some.step.now.to) c.self.view_is
    (save_found c.self.inside.bodies c.self.inside.saves c.args.place c.args.offset c.in-Some.step.now c.in-Some.ensures.step c.args.register.0 c.in-Some.ensures.register c.self.invariant.1)
