-- A run from body to body whose next instruction has made a body.
use Rattle.std.proofs.Common.{◌≡◌, ℕ, Bool, true, false, List, Option, Some, None, Result, refl, sym, subst}
use Rattle.std.specs.Prelude.{IfSome}
use Rattle.unwind_definitions.specs.declared.error.Error.{Error as Fault}
use Rattle.unwind_definitions.specs.Instructions.{Coding, Instruction, Program}
use Rattle.unwind_definitions.specs.Row.{RowInstructions}
use Rattle.frame_rows.specs.Movable.{IsRelative}
use Rattle.frame_rows.specs.RowValue.{RowValue}
use Rattle.frame_rows.specs.Stepping.{IsLeft, StandsAfter, TakesTurn}
use Rattle.frame_rows.specs.declared.body_run.BodyRun.{BodyRun as Walker}
use Rattle.frame_rows.specs.declared.stretch.Turn.TheVariants as turn
use Rattle.frame_rows.proofs.Moving.{movable_one}
use Rattle.frame_rows.proofs.SliceReading.{Next}
use Rattle.frame_rows.proofs.Standing.{takes_turn}

module _ (bodies : List (Result RowValue Fault)) (k : Coding) (start : ℕ) (run : RowInstructions) (q : Program) (s new : Walker) (i : Instruction) (Makes : ℕ → Type 0) where
  pub learned : (made : Option ℕ) (result : Bool) (rest : List ℕ) → result ≡ true → IfSome made Makes → IfSome made (λ place. (new.place ≡ place) × (new.rest.now ≡ rest)) → (made ≡ None → (result ≡ false) × (new ≡ s)) →
      new.location ≡ s.location → new.remembered ≡ s.remembered → ((n : Walker) → Makes n.place → n.location ≡ s.location → n.remembered ≡ s.remembered → StandsAfter bodies start run i turn.Ran n) → Next k q i rest → IsRelative i → TakesTurn bodies k start run q turn.Ran new
  learned None result rest is makes moves stays here memory stands next relative = let no = (stays refl).0 in absurd cc
  learned (Some place) result rest is makes moves stays here memory stands next relative =
      let st = stands new (subst Makes (sym moves.0) makes) here memory in
      let left = subst (λ (b : List ℕ). IsLeft k b next.later) (sym moves.1) next.left in
      takes_turn bodies k start run q next.later i turn.Ran new new st next.begins left refl refl refl (movable_one q next.later i next.begins relative)
