use Rattle.std.specs.Prelude.{length}
use Rattle.pe_unwind_info.specs.Operations.{operations_left}
use Rattle.library_examples.proofs.windows.print_function.Given as goal

abbrev pub invariant-loop-operation : goal.invariant-loop-operation
invariant-loop-operation l = Unit {0}

abbrev pub decreases-loop-operation : goal.decreases-loop-operation
decreases-loop-operation l = length (operations_left l.operation-iterator)
