-- The walk of a sample: over the tables and the copy of its stack, from the registers of its thread. Where that is cut at its first frame,
-- over the slots of the registers that were popped there, too.
use Rattle.std.specs.Prelude.{ℕ, zero, suc, ◌==◌, Bool, true, false, List, [], Option, Some, None, Result, Ok, Err, slice_index, if◌then◌else◌}
use Rattle.unwind_definitions.specs.Columns as column
use Rattle.unwind_arch.specs.declared.x86_64.Context.{Context}
use Rattle.format_frames.specs.declared.machine.Stepped.{Stepped}
use Rattle.perf_data.specs.Registers.{RegisterWords, context_of}
use Rattle.perf_data.specs.Samples.{SampleValue}
use Rattle.stack_steps.specs.declared.error.DeliverError.{DeliverError}
use Rattle.stack_steps.specs.declared.error.DeliverError.TheVariants.{Unmapped}
use Rattle.stack_steps.specs.Growing.{over_image}
use Rattle.stack_steps.specs.Modules.{SpaceValue}
use Rattle.stack_steps.specs.Stepping.{step_of}
use Rattle.stack_walks.specs.declared.walk_end.EndReason.{EndReason}
use Rattle.stack_walks.specs.declared.walk_end.EndReason.TheVariants as reason
use Rattle.stack_walks.specs.WalkEnds.{contexts_to_end}
use Rattle.popped_registers.specs.PoppedRegisters.{image_with, is_popped, kept_space}
use Rattle.sampled_profile.specs.declared.stack_end.StackEnd.{StackEnd}
use Rattle.sampled_profile.specs.declared.stack_end.StackEnd.TheVariants.{Outermost, NoTable, Cut, Refused, Limit, NoRegisters, Narrow}
use Rattle.sampled_profile.specs.declared.walks.WalkMarks.{WalkMarks}
use Rattle.sampled_profile.specs.Ends.{StackWalk, returns_of}

-- ---- where it walks

-- the modules over their memory and a copy of a stack from its stack pointer on
abbrev pub sample_space : SpaceValue → Context → List ℕ → SpaceValue
sample_space space c stack = over_image space (image_with space.image (slice_index c.registers column.rsp) stack)

-- ---- why it ends

abbrev pub end_for : DeliverError → StackEnd
end_for (Unmapped a) = Cut
end_for e = Refused

abbrev pub end_at : Context → StackEnd
end_at c = if c.ra == 0 then Outermost else NoTable

abbrev pub end_after : Context → Result (Option Stepped) DeliverError → (Context → Bool → StackEnd) → StackEnd
end_after c (Err e) outer = end_for e
end_after c (Ok None) outer = end_at c
end_after c (Ok (Some s)) outer = outer s.context s.signal

-- from a context outwards, of which at most a number are said
abbrev pub end_of : SpaceValue → ℕ → Context → Bool → StackEnd
end_of space zero c interrupted = Limit
end_of space (suc room) c interrupted = end_after c (step_of space c interrupted) (end_of space room)

-- the end that the reason of a walk gives
abbrev pub end_told : EndReason → StackEnd
end_told reason.Outermost = Outermost
end_told (reason.Refused a e) = end_for e
end_told reason.Limit = Limit
end_told _ = NoTable

-- ---- what is said of it

-- states with what is said beside them
abbrev pub marked_walk : List Context → WalkMarks → StackWalk
marked_walk states marks = record { returns = returns_of states; end = marks.end; popped = marks.popped }

-- over a space from a context that was interrupted
abbrev pub walk_over : SpaceValue → ℕ → Context → Bool → StackWalk
walk_over space limit c popped = record { returns = returns_of (contexts_to_end space limit c true); end = end_of space limit c true; popped = popped }

-- over the memory that keeps the registers that were popped there, marked where there are any
abbrev pub walk_from : SpaceValue → ℕ → Context → StackWalk
walk_from space limit c = walk_over (kept_space space limit c) limit c (is_popped space limit c)

-- where a thread was interrupted, by its registers, of which the form 2 is that of a program of 64 bits; or why that isn't known
abbrev pub start_of : Option RegisterWords → Result Context StackEnd
start_of None = Err NoRegisters
start_of (Some r) = if r.abi == 2 then Ok (context_of r) else Err Narrow

abbrev pub walk_by : SpaceValue → ℕ → List ℕ → Result Context StackEnd → StackWalk
walk_by space limit stack (Ok c) = walk_from (sample_space space c stack) limit c
walk_by space limit stack (Err end) = record { returns = []; end = end; popped = false }

-- of a sample
abbrev pub walk_of : SpaceValue → ℕ → SampleValue → StackWalk
walk_of space limit s = walk_by space limit s.stack (start_of s.registers)
