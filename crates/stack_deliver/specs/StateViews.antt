-- What contexts and deliveries show of the states that the definitions speak of.
use Rattle.std.specs.Prelude.{ℕ, map, slice_index, option_map}
use Rattle.unwind_definitions.specs.State.{State}
use Rattle.unwind_definitions.specs.Delivery as described
use Rattle.unwind_arch.specs.declared.x86_64.Context.{Context}
use Rattle.unwind_definitions.specs.Columns as column
use Rattle.stack_walks.specs.declared.room.Trail.{Trail}
use Rattle.stack_deliver.specs.declared.outcome.Outcome.{Outcome}
use Rattle.stack_deliver.specs.declared.outcome.Outcome.TheVariants.{Installed, EndOfStack, FatalPhase1, FatalPhase2}
use Rattle.stack_deliver.specs.StackDelivery.{DeliveryValue}

-- the return address, the stack pointer and the six registers that calls keep
abbrev pub state_of : Context → State
state_of c = record {
  ra = c.ra;
  sp = slice_index c.registers column.rsp;
  rbx = slice_index c.registers column.rbx;
  rbp = slice_index c.registers column.rbp;
  r12 = slice_index c.registers column.r12;
  r13 = slice_index c.registers column.r13;
  r14 = slice_index c.registers column.r14;
  r15 = slice_index c.registers column.r15;
}

-- where a handler is entered: the state, RAX and RDX
abbrev pub landing_of : Context → described.Landing
landing_of c = record { state = state_of c; rax = slice_index c.registers column.rax; rdx = slice_index c.registers column.rdx }

abbrev pub outcome_of : Outcome → described.Outcome
outcome_of Installed = described.Installed
outcome_of EndOfStack = described.EndOfStack
outcome_of FatalPhase1 = described.FatalPhase1
outcome_of FatalPhase2 = described.FatalPhase2

abbrev pub pair_of : Trail → ℕ × ℕ
pair_of t = (t.pad, t.sp)

abbrev pub delivery_shown : DeliveryValue → described.Delivery
delivery_shown d = record {
  visited = map state_of d.visited;
  trail = map pair_of d.trail;
  landing = option_map landing_of d.landing;
  outcome = outcome_of d.outcome;
}
