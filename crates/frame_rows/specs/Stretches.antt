-- A stretch of addresses that share a row: from a location up to where the next instruction leads.
use Rattle.std.specs.Prelude.{◌≡◌, Bool, false, ℕ, ◌+◌, ◌^◌, ◌<◌, ◌≤◌, ◌⊎◌, [], ◌∷◌, Option, Some, None, Result, Ok, Err}
use Rattle.unwind_definitions.specs.declared.error.Error.{Error as Fault}
use Rattle.unwind_definitions.specs.Instructions.{Instruction, Advance, SetLocation, Coding, Program, program_from}
use Rattle.unwind_definitions.specs.Row.{RowInstructions, location}
use Rattle.encoded_pointers.specs.CursorViews.{at}
use Rattle.frame_rows.specs.InstructionViews.{meaning}
use Rattle.frame_rows.specs.Running.{Represents, outcome, push}
use Rattle.frame_rows.specs.Movable.{IsRelative, IsMovable}
use Rattle.frame_rows.specs.KeptRows.{locations_after, then_location}
use Rattle.frame_rows.specs.declared.instruction.CallFrameInstruction.{CallFrameInstruction}
use Rattle.frame_rows.specs.declared.machine.Machine.{Machine}
use Rattle.frame_rows.specs.declared.stretch.Instructions.{Instructions}

-- the instructions that are still to be read
abbrev pub left_of : Coding → Instructions → Program
left_of coding i = program_from i.left coding (at i.input)

-- the first instruction of a program, and what follows it
abbrev pub BeginsWith : Program → Instruction → Program → Type 0
BeginsWith before i rest = before ≡ record { instructions = i ∷ rest.instructions; fault = rest.fault }

-- the first instruction of a program and what follows it, or why there is none
abbrev pub IsNext : Program → Result (Option CallFrameInstruction) Fault → Program → Type 0
IsNext before (Ok None) rest = before ≡ record { instructions = []; fault = None }
IsNext before (Ok (Some i)) rest = before ≡ record { instructions = meaning i ∷ rest.instructions; fault = rest.fault }
IsNext before (Err e) rest = before ≡ record { instructions = []; fault = Some e }

-- unless one of the instructions so far sets the location, the one that is read doesn't
abbrev pub IsReadMoving : Bool → Result (Option CallFrameInstruction) Fault → Bool → Type 0
IsReadMoving old (Ok None) new = new ≡ old
IsReadMoving old (Ok (Some i)) new = new ≡ false → (old ≡ false) × IsRelative (meaning i)
IsReadMoving old (Err e) new = Unit {0}

-- unless an instruction sets the location, a program can be moved where what is left of it can
abbrev pub MovesOn : Result (Option ℕ) Fault → Bool → Program → Bool → Program → Type 0
MovesOn (Ok None) old before new rest = new ≡ false → (old ≡ false) × IsMovable before
MovesOn (Ok (Some next)) old before new rest = new ≡ false → (old ≡ false) × (IsMovable rest → IsMovable before)
MovesOn (Err e) old before new rest = Unit {0}

-- an instruction leads no further than a location, or is a fault there
abbrev pub IsStill : ℕ → Instruction → Type 0
IsStill here (Advance n) = (n ≡ 0) ⊎ (2 ^ 64 ≤ here + n)
IsStill here (SetLocation a) = a ≤ here
IsStill here _ = Unit {0}

-- where an instruction leads on
abbrev pub LeadsOn : ℕ → Instruction → Option ℕ → Type 0
LeadsOn here i None = IsStill here i
LeadsOn here i (Some next) = (location here (i ∷ []) ≡ next) × (here < next) × (next < 2 ^ 64)

-- nothing leads on: from here on the same instructions have run
pub record IsLastStretch (start : ℕ) (run : RowInstructions) (p : Program) (new : Machine) : Type 0 where
  pub now : RowInstructions
  pub represents : Represents start new now
  pub stands : location start now.own ≡ location start run.own
  pub stays : (pc : ℕ) → location start run.own ≤ pc → outcome start (Some pc) run p ≡ Ok now
  pub no_more : (end : ℕ) → locations_after start end run p.instructions ≡ []

-- an instruction leads on, which hasn't run yet
pub record IsStretch (start : ℕ) (run : RowInstructions) (p : Program) (next : ℕ) (new : Machine) (rest : Program) : Type 0 where
  pub now : RowInstructions
  pub by : Instruction
  pub represents : Represents start new now
  pub leads : location (location start now.own) (by ∷ []) ≡ next
  pub stands : location start now.own ≡ location start run.own
  pub ahead : location start run.own < next
  pub fits : next < 2 ^ 64
  pub stays : (pc : ℕ) → location start run.own ≤ pc → pc < next → outcome start (Some pc) run p ≡ Ok now
  pub goes_on : (pc : ℕ) → next ≤ pc → outcome start (Some pc) run p ≡ outcome start (Some pc) (push now by) rest
  pub more : (end : ℕ) → locations_after start end run p.instructions ≡ then_location end (location start run.own) next (locations_after start end (push now by) rest.instructions)

-- a fault from here on
pub record IsFaultyStretch (start : ℕ) (run : RowInstructions) (p : Program) (fault : Fault) : Type 0 where
  pub stays : (pc : ℕ) → location start run.own ≤ pc → outcome start (Some pc) run p ≡ Err fault
  pub no_more : (end : ℕ) → locations_after start end run p.instructions ≡ []

-- what running up to the next location gives
abbrev pub EndsStretch : ℕ → RowInstructions → Program → Result (Option ℕ) Fault → Machine → Program → Type 0
EndsStretch start run p (Ok None) new rest = IsLastStretch start run p new
EndsStretch start run p (Ok (Some next)) new rest = IsStretch start run p next new rest
EndsStretch start run p (Err e) new rest = IsFaultyStretch start run p e
