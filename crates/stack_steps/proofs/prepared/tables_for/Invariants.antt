use Rattle.std.proofs.Common.{take}
use Rattle.stack_steps.specs.AddedModule.{AreMade, IsTried}
use Rattle.stack_steps.proofs.prepared.tables_for.Given as goal

abbrev pub invariant-loop-added_module : goal.invariant-loop-added_module
invariant-loop-added_module l = AreMade l.image l.fn.most (take l.added_module-index l.added) l.made.items l.left × IsTried l.image l.left l.tried
