use Rattle.std.proofs.Common.{◌≡◌, drop, map}
use Rattle.stack_steps.specs.Growing.{all_prepared}
use Rattle.stack_steps.specs.AddedModule.{added_of}
use Rattle.stack_steps.proofs.prepared.are_prepared.Given as goal

abbrev pub invariant-loop-added_module : goal.invariant-loop-added_module
invariant-loop-added_module l = all_prepared (map added_of (drop l.added_module-index l.added)) ≡ all_prepared (map added_of l.added)
