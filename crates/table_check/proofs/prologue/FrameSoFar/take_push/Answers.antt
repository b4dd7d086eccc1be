use Rattle.std.proofs.Common.{◌++◌, ◌∷◌, [], sym, subst}
use Rattle.std.specs.Prelude.{◌≢◌}
use Rattle.std.specs.List.{AllByRecursion}
use Rattle.unwind_definitions.specs.Prologue.{Push, Save, saves}
use Rattle.table_check.specs.Frames.{IsFrameAfter, callee_saved_of}
use Rattle.table_check.proofs.FrameSteps.{none_of_unsaved}
use Rattle.table_check.proofs.prologue.FrameSoFar.take_push.Goals as goal

pub returns-in-Some : goal.returns-in-Some
returns-in-Some c before was next =
    let q = callee_saved_of c.in-Some.register in
    let reg = c.in-Some.ensures in
    let none = none_of_unsaved q (saves before) (subst (λ r. AllByRecursion (λ (s : Save). s.register ≢ r) (saves before)) reg next.1) in
    subst (λ r. IsFrameAfter c.push.new.self (before ++ Push r ∷ [])) (sym reg) (c.push.ensures before was none)
