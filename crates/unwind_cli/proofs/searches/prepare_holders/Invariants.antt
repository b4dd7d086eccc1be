use Rattle.stack_steps.specs.Preparing.{ChangesIndexes}
use Rattle.unwind_cli.proofs.searches.prepare_holders.Given as goal

abbrev pub invariant-loop-i : goal.invariant-loop-i
invariant-loop-i l = ChangesIndexes l.fn.space l.space
