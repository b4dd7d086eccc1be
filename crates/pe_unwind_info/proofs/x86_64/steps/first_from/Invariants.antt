use Rattle.std.proofs.Common.{◌≡◌, length}
use Rattle.pe_unwind_info.specs.Operations.{operations_left}
use Rattle.pe_unwind_info.specs.Frame.{from_place}
use Rattle.pe_unwind_info.proofs.x86_64.steps.first_from.Given as goal

abbrev pub invariant-loop-place : goal.invariant-loop-place
invariant-loop-place l = from_place l.offset (operations_left l.fn.operations) ≡ from_place l.offset (operations_left l.operations)

abbrev pub decreases-loop-place : goal.decreases-loop-place
decreases-loop-place l = length (operations_left l.operations)
