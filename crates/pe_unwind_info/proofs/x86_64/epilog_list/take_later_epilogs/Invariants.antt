use Rattle.std.proofs.Common.{◌≡◌, ◌||◌, length}
use Rattle.pe_unwind_info.specs.Operations.{operations_left}
use Rattle.pe_unwind_info.specs.EpilogList.{leading_epilogs, after_epilogs, any_lists}
use Rattle.pe_unwind_info.proofs.x86_64.epilog_list.take_later_epilogs.Given as goal

abbrev pub invariant-loop-epilog : goal.invariant-loop-epilog
invariant-loop-epilog l = record {
  after : after_epilogs (operations_left l.fn.operations) ≡ after_epilogs (operations_left l.operations);
  listed : any_lists l.end l.size l.address (leading_epilogs (operations_left l.fn.operations)) ≡ (l.listed || any_lists l.end l.size l.address (leading_epilogs (operations_left l.operations)));
}

abbrev pub decreases-loop-epilog : goal.decreases-loop-epilog
decreases-loop-epilog l = length (operations_left l.operations)
