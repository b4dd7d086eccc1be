use Rattle.std.proofs.Common.{[], map, sym, subst}
use Rattle.table_check.specs.ClaimViews.{function_of, prologue_step_of}
use Rattle.table_check.specs.Frames.{MayGoOn}
use Rattle.table_check.specs.Running.{IsRunning}
use Rattle.table_check.proofs.Prologues.{goes_on_prologue}
use Rattle.table_check.proofs.programs.has_rows.Goals as goal

pub new-running-requires : goal.new-running-requires
new-running-requires c = subst (λ l. MayGoOn 0 [] (map prologue_step_of l)) (sym c.deref.ensures.value) (goes_on_prologue (function_of c.args.claim.now).prologue c.requires.function.prologue)

pub has_rows_from_start-requires-clause-running : goal.has_rows_from_start-requires-clause-running
has_rows_from_start-requires-clause-running c = subst (IsRunning c.new-running.result 0) c.deref.ensures.value c.new-running.ensures
