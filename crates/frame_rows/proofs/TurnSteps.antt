-- What a turn leads a stretch to that is underway.
use Rattle.std.proofs.Common.{◌≡◌, ℕ, ◌<◌, Bool, false, Some, None, Result, Ok, Err, inl, inr}
use Rattle.unwind_definitions.specs.declared.error.Error.{Error as Fault}
use Rattle.unwind_definitions.specs.Instructions.{Instruction, Program}
use Rattle.unwind_definitions.specs.Row.{RowInstructions}
use Rattle.frame_rows.specs.Running.{Represents, push}
use Rattle.frame_rows.specs.Movable.{IsRelative}
use Rattle.frame_rows.specs.Stretches.{BeginsWith, EndsStretch, IsFaultyStretch}
use Rattle.frame_rows.specs.Turns.{IsNoEnd, Moves, TurnMoves, Turns, TurnsFewer}
use Rattle.frame_rows.specs.declared.machine.Machine.{Machine}
use Rattle.frame_rows.specs.declared.stretch.Turn.{Turn}
use Rattle.frame_rows.specs.declared.stretch.Turn.TheVariants as turn
use Rattle.frame_rows.proofs.Moving.{movable_one}
use Rattle.frame_rows.proofs.StretchSteps.{IsUnderway, further, cannot, leads_further, ends, unreadable}

-- ---- a turn that reads an instruction

pub turn_moves : (before rest : Program) (i : Instruction) (old new : Bool) (r : Result Turn Fault) → IsNoEnd r → BeginsWith before i rest → (new ≡ false → (old ≡ false) × IsRelative i) → TurnMoves r old before new rest
turn_moves before rest i old new (Ok turn.Ran) some reads relative = λ flag. ((relative flag).0, λ m. movable_one before rest i reads (relative flag).1 m)
turn_moves before rest i old new (Ok (turn.LeadsOn next)) some reads relative = λ flag. ((relative flag).0, λ m. movable_one before rest i reads (relative flag).1 m)
turn_moves before rest i old new (Ok turn.Ended) some reads relative = absurd some
turn_moves before rest i old new (Err e) some reads relative = tt

pub turn_fewer : (old new : ℕ) (r : Result Turn Fault) → IsNoEnd r → new < old → TurnsFewer r old new
turn_fewer old new (Ok turn.Ran) some less = less
turn_fewer old new (Ok (turn.LeadsOn next)) some less = less
turn_fewer old new (Ok turn.Ended) some less = tt
turn_fewer old new (Err e) some less = tt

pub turn_takes : (start : ℕ) (run : RowInstructions) (p rest : Program) (i : Instruction) (r : Result Turn Fault) (new : Machine) → IsNoEnd r → BeginsWith p i rest → Moves start run i r new → Turns start run p r new rest
turn_takes start run p rest i (Ok turn.Ran) new some reads moves = record { by = i; first = reads; moves = moves }
turn_takes start run p rest i (Ok (turn.LeadsOn next)) new some reads moves = record { by = i; first = reads; moves = moves }
turn_takes start run p rest i (Ok turn.Ended) new some reads moves = absurd some
turn_takes start run p rest i (Err e) new some reads moves = inr (record { by = i; first = reads; moves = moves })

-- ---- a stretch underway

module _ (start : ℕ) (run : RowInstructions) (p : Program) (now : RowInstructions) (q : Program) (u : IsUnderway start run p now q) where
  pub turn_cannot : (e : Fault) (new : Machine) (rest : Program) → Turns start now q (Err e) new rest → IsFaultyStretch start run p e
  turn_cannot e new rest (inl none) = unreadable start run p now q u e none
  turn_cannot e new rest (inr t) = cannot start run p now q u t.by rest t.first e t.moves.0 t.moves.1

  pub turn_ran : (new : Machine) (rest : Program) → Turns start now q (Ok turn.Ran) new rest → (next : RowInstructions) × Represents start new next × IsUnderway start run p next rest
  turn_ran new rest t = (push now t.by, t.moves.2, further start run p now q u t.by rest t.first t.moves.0 t.moves.1)

  pub turn_leads : (next : ℕ) (new : Machine) (rest : Program) → Turns start now q (Ok (turn.LeadsOn next)) new rest → EndsStretch start run p (Ok (Some next)) new rest
  turn_leads next new rest t = leads_further start run p now q u t.by next rest new t.first t.moves.3 t.moves.0 t.moves.1 t.moves.2

  pub turn_ends : (new : Machine) (rest : Program) → Turns start now q (Ok turn.Ended) new rest → EndsStretch start run p (Ok None) new rest
  turn_ends new rest t = ends start run p now q u new t.0 t.1
