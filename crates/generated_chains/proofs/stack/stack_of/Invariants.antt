use Rattle.std.proofs.Common.{◌≡◌, ◌-◌, drop, reverse}
use Rattle.generated_chains.specs.Calls.{state_of, stack_bytes}
use Rattle.generated_chains.specs.Shown.{state_in}
use Rattle.generated_chains.proofs.stack.stack_of.Given as goal

abbrev pub invariant-loop-called : goal.invariant-loop-called
invariant-loop-called l = record {
  bytes : l.bytes.items ≡ reverse (stack_bytes l.fn.seed (drop (l.count - l.called) l.functions));
  state : state_in l.state ≡ state_of l.fn.seed (drop (l.count - l.called) l.functions);
}
