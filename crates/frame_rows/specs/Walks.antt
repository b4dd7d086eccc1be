-- Going through the rows of a description, from one address on up to another.
use Rattle.std.specs.Prelude.{◌≡◌, ℕ, ◌<◌, ◌≤◌, [], ◌∷◌, Option, Some, None, Result, Ok, Err, MatchOption}
use Rattle.unwind_definitions.specs.declared.error.Error.{Error as Fault}
use Rattle.unwind_definitions.specs.Instructions.{Instruction, Coding, Program}
use Rattle.unwind_definitions.specs.Row.{RowInstructions, location}
use Rattle.frame_rows.specs.RowValue.{RowValue}
use Rattle.frame_rows.specs.Rows.{GivesRow, IsLast}
use Rattle.frame_rows.specs.Running.{Represents, outcome, push}
use Rattle.frame_rows.specs.Stretches.{left_of}
use Rattle.frame_rows.specs.declared.machine.Machine.{Machine}
use Rattle.frame_rows.specs.declared.row_walk.RowWalk.{RowWalk}

-- the address from which on another row holds, if there is one
abbrev pub end_of : RowWalk → Option ℕ
end_of walk = walk.end

-- an address below another, if there is another
abbrev pub IsBefore : ℕ → Option ℕ → Type 0
IsBefore pc None = Unit {0}
IsBefore pc (Some end) = pc < end

-- what the instructions up to an address make due there: the row that they end with, or their fault
abbrev pub Makes : Result RowInstructions Fault → Result RowInstructions Fault → Type 0
Makes (Ok run) due = (answer : Result RowValue Fault) → IsLast run answer → GivesRow answer due
Makes (Err e) due = due ≡ Err e

-- what is left of a program after instructions makes all that is due from there on
abbrev pub MakesAll : ℕ → RowInstructions → Program → (ℕ → Result RowInstructions Fault) → Type 0
MakesAll start run p due = (pc : ℕ) → location start run.own ≤ pc → Makes (outcome start (Some pc) run p) (due pc)

-- a fault is due, or else what a machine ends with gives what is due
abbrev pub EndsWith : Option Fault → Machine → Result RowInstructions Fault → Type 0
EndsWith None machine due = (answer : Result RowValue Fault) → ((start : ℕ) (run : RowInstructions) → Represents start machine run → IsLast run answer) → GivesRow answer due
EndsWith (Some e) machine due = due ≡ Err e

-- an instruction that was read leads on to an end, and what is left makes all that is due from there on
pub record LeadsTo (walk : RowWalk) (coding : Coding) (from end : ℕ) (due : ℕ → Result RowInstructions Fault) : Type 0 where
  pub start : ℕ
  pub run : RowInstructions
  pub by : Instruction
  pub represents : Represents start walk.machine run
  pub leads : location (location start run.own) (by ∷ []) ≡ end
  pub stands : location start run.own < end
  pub ahead : from < end
  pub left : MakesAll start (push run by) (left_of coding walk.instructions) due

-- a walk has gone to an address, whose row or fault it has, and goes through all that is due from there on
pub record IsWalking (walk : RowWalk) (coding : Coding) (from : ℕ) (due : ℕ → Result RowInstructions Fault) : Type 0 where
  pub holds : (pc : ℕ) → from ≤ pc → IsBefore pc walk.end → EndsWith walk.fault walk.machine (due pc)
  pub goes_on : MatchOption walk.end (Unit {0}) (λ end. LeadsTo walk coding from end due)
