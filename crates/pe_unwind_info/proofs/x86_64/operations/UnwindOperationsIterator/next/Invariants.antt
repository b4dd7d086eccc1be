use Rattle.std.proofs.Common.{◌≡◌, ◌≤◌, [], length}
use Rattle.pe_unwind_info.specs.Operations.{operations_of, operations_left}
use Rattle.pe_unwind_info.proofs.x86_64.operations.UnwindOperationsIterator.next.Given as goal

abbrev pub invariant-loop-prolog_offset : goal.invariant-loop-prolog_offset
invariant-loop-prolog_offset l = record {
  version : l.self.version ≡ l.fn.self.version;
  none_left : l.self.slots.now ≡ [];
  shorter : length l.slots ≤ length l.fn.self.slots.now;
  same : operations_left l.fn.self ≡ operations_of l.fn.self.version l.slots;
}

abbrev pub decreases-loop-prolog_offset : goal.decreases-loop-prolog_offset
decreases-loop-prolog_offset l = length l.slots
