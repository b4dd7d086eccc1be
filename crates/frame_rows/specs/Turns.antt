-- One instruction of a program after another, each run unless it leads on. No public clause cites this.
use Rattle.std.specs.Prelude.{◌≡◌, Bool, false, ℕ, ◌^◌, ◌<◌, ◌⊎◌, [], ◌∷◌, Some, None, Result, Ok, Err}
use Rattle.unwind_definitions.specs.declared.error.Error.{Error as Fault}
use Rattle.unwind_definitions.specs.Instructions.{Instruction, Program}
use Rattle.unwind_definitions.specs.Row.{RowInstructions, location, fault_of}
use Rattle.frame_rows.specs.Movable.{IsMovable}
use Rattle.frame_rows.specs.Running.{Represents, push}
use Rattle.frame_rows.specs.Stretches.{BeginsWith, IsStill}
use Rattle.frame_rows.specs.declared.machine.Machine.{Machine}
use Rattle.frame_rows.specs.declared.stretch.Turn.{Turn}
use Rattle.frame_rows.specs.declared.stretch.Turn.TheVariants as turn

-- an instruction that doesn't lead on has run, or is a fault; one that leads on hasn't
abbrev pub Moves : ℕ → RowInstructions → Instruction → Result Turn Fault → Machine → Type 0
Moves start run i (Ok turn.Ran) new = IsStill (location start run.own) i × (fault_of start run i ≡ None) × Represents start new (push run i)
Moves start run i (Ok (turn.LeadsOn next)) new = (location (location start run.own) (i ∷ []) ≡ next) × (location start run.own < next) × (next < 2 ^ 64) × Represents start new run
Moves start run i (Ok turn.Ended) new = ⊥
Moves start run i (Err e) new = IsStill (location start run.own) i × (fault_of start run i ≡ Some e)

-- it isn't the end
abbrev pub IsNoEnd : Result Turn Fault → Type 0
IsNoEnd (Ok turn.Ended) = ⊥
IsNoEnd _ = Unit {0}

-- the first instruction of a program does so
pub record TakesFirst (start : ℕ) (run : RowInstructions) (p : Program) (result : Result Turn Fault) (new : Machine) (rest : Program) : Type 0 where
  pub by : Instruction
  pub first : BeginsWith p by rest
  pub moves : Moves start run by result new

-- what a turn does of what is left of a program
abbrev pub Turns : ℕ → RowInstructions → Program → Result Turn Fault → Machine → Program → Type 0
Turns start run p (Ok turn.Ran) new rest = TakesFirst start run p (Ok turn.Ran) new rest
Turns start run p (Ok (turn.LeadsOn next)) new rest = TakesFirst start run p (Ok (turn.LeadsOn next)) new rest
Turns start run p (Ok turn.Ended) new rest = (p ≡ record { instructions = []; fault = None }) × Represents start new run
Turns start run p (Err e) new rest = (p ≡ record { instructions = []; fault = Some e }) ⊎ TakesFirst start run p (Err e) new rest

-- unless it ends, fewer instructions are left
abbrev pub TurnsFewer : Result Turn Fault → ℕ → ℕ → Type 0
TurnsFewer (Ok turn.Ran) old new = new < old
TurnsFewer (Ok (turn.LeadsOn next)) old new = new < old
TurnsFewer (Ok turn.Ended) old new = Unit {0}
TurnsFewer (Err e) old new = Unit {0}

-- unless an instruction sets the location, a program can be moved where what is left of it can
abbrev pub TurnMoves : Result Turn Fault → Bool → Program → Bool → Program → Type 0
TurnMoves (Ok turn.Ran) old before new rest = new ≡ false → (old ≡ false) × (IsMovable rest → IsMovable before)
TurnMoves (Ok (turn.LeadsOn next)) old before new rest = new ≡ false → (old ≡ false) × (IsMovable rest → IsMovable before)
TurnMoves (Ok turn.Ended) old before new rest = new ≡ false → (old ≡ false) × IsMovable before
TurnMoves (Err e) old before new rest = Unit {0}
