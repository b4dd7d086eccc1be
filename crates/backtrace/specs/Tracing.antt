-- The states of a stack as far as they are known, and why there are no more.
use Rattle.std.specs.Prelude.{◌≡◌, ℕ, ◌+◌, ◌-◌, ◌%◌, ◌^◌, ◌⊎◌, ◌==◌, ◌&&◌, ◌||◌, Bool, true, false, List, Option, Some, None, Err, slice_index, slice_set, is_none, option_and_then, IsTrue, if◌then◌else◌}
use Rattle.memory_image.specs.Image.{Span, word_at}
use Rattle.unwind_arch.specs.declared.x86_64.Context.{Context}
use Rattle.unwind_definitions.specs.Columns as column
use Rattle.stack_walks.specs.declared.walk_end.EndReason.{EndReason}
use Rattle.stack_steps.specs.declared.error.DeliverError.TheVariants.{Unmapped}
use Rattle.stack_steps.specs.Modules.{SpaceValue, module_at}
use Rattle.stack_steps.specs.Stepping.{step_of}
use Rattle.stack_walks.specs.WalkEnds.{ComesTo, contexts_to_end}
use Rattle.popped_registers.specs.PoppedRegisters.{is_popped, kept_space}
use Rattle.backtrace.specs.Code.{CodeValue, code_at}

-- the registers after a return to an address: it is popped, and every other register stays
abbrev pub returned_to : Context → ℕ → Context
returned_to c a = record c { registers = slice_set c.registers column.rsp ((slice_index c.registers column.rsp + 8) % 2 ^ 64); ra = a }

-- no frame is at the address 0
abbrev pub caller_unless_zero : Context → ℕ → Option Context
caller_unless_zero c a = if a == 0 then None else Some (returned_to c a)

-- the caller of a context where the word at the stack pointer is the return address
abbrev pub returned_caller : List Span → Context → Option Context
returned_caller image c = option_and_then (caller_unless_zero c) (word_at image (slice_index c.registers column.rsp))

-- a context was interrupted at the address 0, or in no module, and not in code without a table
abbrev pub is_nowhere : SpaceValue → List CodeValue → Context → Bool → Bool
is_nowhere space code c interrupted = (interrupted && ((c.ra == 0) || is_none (module_at space.modules c.ra))) && is_none (code_at code c.ra)

abbrev pub IsNowhere : SpaceValue → List CodeValue → Context → Bool → Type 0
IsNowhere space code c interrupted = IsTrue interrupted × ((c.ra ≡ 0) ⊎ (module_at space.modules c.ra ≡ None)) × (code_at code c.ra ≡ None)

-- the caller of a context that was interrupted there
abbrev pub called_from : SpaceValue → List CodeValue → Context → Bool → Option Context
called_from space code c interrupted = if is_nowhere space code c interrupted then returned_caller space.image c else None

-- The start, where its caller was read from the stack; the states from there on, or from the start; why there are no more; and
-- whether registers were kept that were popped where the thread was interrupted.
pub record TraceValue : Type 0 where
  pub first : Option Context
  pub states : List Context
  pub why : EndReason
  pub popped : Bool

-- a trace, and for how many states there is place
pub record TracedValue : Type 0 where
  pub trace : TraceValue
  pub places : ℕ

-- the states are those of a walk of at most so many, which ends for this reason, and have this mark
pub record IsFrontOf (space : SpaceValue) (limit : ℕ) (c : Context) (interrupted popped : Bool) (t : TraceValue) : Type 0 where
  pub states : t.states ≡ contexts_to_end space limit c interrupted
  pub why : ComesTo t.why space limit c interrupted
  pub marked : t.popped ≡ popped

-- Over which memory a stack is walked from its start. Where the thread was interrupted there, and the step from there meets what
-- isn't mapped, the slots of the registers that were popped hold what the registers hold.
abbrev pub start_space : SpaceValue → ℕ → Context → Bool → SpaceValue
start_space space limit c false = space
start_space space limit c true = kept_space space limit c

-- whether there are such registers
abbrev pub keeps_popped : SpaceValue → ℕ → Context → Bool → Bool
keeps_popped space limit c false = false
keeps_popped space limit c true = is_popped space limit c

-- by the caller that was read from the stack, if one was
abbrev pub IsTraceFrom : Option Context → SpaceValue → Context → Bool → ℕ → TraceValue → Type 0
IsTraceFrom None space c interrupted limit t =
    (t.first ≡ None) × IsFrontOf (start_space space limit c interrupted) limit c interrupted (keeps_popped space limit c interrupted) t
IsTraceFrom (Some caller) space c interrupted limit t = (t.first ≡ Some c) × IsFrontOf space (limit - 1) caller false false t

-- From a context outwards at most so many states, each the caller of the one before, why there are no more, and whether popped
-- registers were kept.
abbrev pub IsTrace : SpaceValue → List CodeValue → Context → Bool → ℕ → TraceValue → Type 0
IsTrace space code c interrupted limit t = IsTraceFrom (called_from space code c interrupted) space c interrupted limit t

-- ---- the same by the tables alone

-- over the memory as it is
abbrev pub IsPlainFrom : Option Context → SpaceValue → Context → Bool → ℕ → TraceValue → Type 0
IsPlainFrom None space c interrupted limit t = (t.first ≡ None) × IsFrontOf space limit c interrupted false t
IsPlainFrom (Some caller) space c interrupted limit t = (t.first ≡ Some c) × IsFrontOf space (limit - 1) caller false false t

-- a trace that keeps no popped register
abbrev pub IsPlainTrace : SpaceValue → List CodeValue → Context → Bool → ℕ → TraceValue → Type 0
IsPlainTrace space code c interrupted limit t = IsPlainFrom (called_from space code c interrupted) space c interrupted limit t

-- A stack is cut at its start: its thread was interrupted there, and the step from there meets what isn't mapped.
pub record IsCutAtStart (space : SpaceValue) (c : Context) (interrupted : Bool) : Type 0 where
  pub interrupted_there : IsTrue interrupted
  pub address : ℕ
  pub refused : step_of space c true ≡ Err (Unmapped address)
