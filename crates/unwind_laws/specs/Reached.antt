-- The row as a program reads it: one instruction after another, up to the first fault, or the address asked.
use Rattle.std.specs.Prelude.{◌≡◌, ℕ, zero, suc, ◌+◌, ◌^◌, Bool, false, ◌&&◌, [], ◌∷◌, ◌++◌, length, Option, Some, None, Result, Ok, Err, nat_lt, nat_le, ◌==◌, is_some, if◌then◌else◌}
use Rattle.unwind_definitions.specs.declared.error.Error.{Error as Fault}
use Rattle.unwind_definitions.specs.declared.error.Error.TheVariants.{NoCfaRegister}
use Rattle.unwind_definitions.specs.Faults.{◌>>=◌}
use Rattle.unwind_definitions.specs.Input.{Input}
use Rattle.unwind_definitions.specs.Instructions.{Instruction, Advance, SetLocation, Coding, instruction, program}
use Rattle.unwind_definitions.specs.Row.{RowInstructions, fault_of, location, from_common, or_else, cfa_rule, row}

-- whether an instruction at a location leads past an address
abbrev pub leads_past : ℕ → ℕ → Instruction → Bool
leads_past at pc (Advance n) = nat_lt pc (at + n) && nat_lt (at + n) (2 ^ 64)
leads_past at pc (SetLocation a) = nat_lt pc a && nat_le at a
leads_past at pc _ = false

-- the same of an address that may not be given: a program without one runs whole
abbrev pub leads_past_limit : ℕ → Option ℕ → Instruction → Bool
leads_past_limit at None i = false
leads_past_limit at (Some pc) i = leads_past at pc i

-- the instructions so far, with one more
abbrev pub push : RowInstructions → Instruction → RowInstructions
push run i = record run { own = run.own ++ i ∷ [] }

-- one instruction, and what follows it
abbrev pub act : ℕ → Option ℕ → RowInstructions → Instruction → Result RowInstructions Fault → Result RowInstructions Fault
act start limit run i later = if leads_past_limit (location start run.own) limit i then Ok run else or_else (fault_of start run i) later

-- at most so many instructions of what is left of a program that began at a location, after those that ran
unfoldable pub instructions_reached : ℕ → Coding → ℕ → Option ℕ → RowInstructions → Input → Result RowInstructions Fault
instructions_reached zero coding start limit run c = Ok run
instructions_reached (suc turns) coding start limit run c = if length c.bytes == 0 then Ok run else (instruction coding c >>= λ r. act start limit run r.0 (instructions_reached turns coding start limit (push run r.0) r.1))

-- the whole of a common program
abbrev pub common_reached : Coding → Input → Result RowInstructions Fault
common_reached coding c = instructions_reached (length c.bytes) coding 0 None (from_common []) c

-- a description's program after it, up to an address
abbrev pub own_reached : Coding → ℕ → ℕ → RowInstructions → Input → Result RowInstructions Fault
own_reached coding start pc common c = instructions_reached (length c.bytes) coding start (Some pc) (from_common common.own) c

-- the row of what was reached
abbrev pub row_reached : RowInstructions → Result RowInstructions Fault
row_reached run = if is_some (cfa_rule run) then Ok run else Err NoCfaRegister

-- Reading gives the row of the two whole programs.
abbrev pub ReadsRow : Coding → ℕ → ℕ → Input → Input → Type 0
ReadsRow coding start pc common own =
    (common_reached coding common >>= λ before. own_reached coding start pc before own >>= λ run. row_reached run) ≡ row start pc (program coding common) (program coding own)
