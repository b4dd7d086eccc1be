-- A function that is stopped inside its prologue, after some of its steps.
use Rattle.std.specs.Prelude.{◌≡◌, ℕ, ◌+◌, ◌<◌, ◌≤◌, false, List, [], ◌∷◌, ◌++◌, None}
use Rattle.memory_image.specs.Image.{Span}
use Rattle.unwind_definitions.specs.State.{CalleeSaved, RBP, State, value_of}
use Rattle.unwind_definitions.specs.Prologue.{PrologueStep, steps_of, frame_depth}
use Rattle.unwind_definitions.specs.Entered.{IsEntered}
use Rattle.unwind_definitions.specs.Function.{Function, last_end, first_body}

-- an address is below the end of the next step, or below the body where there is none
abbrev pub IsBelowNext : Function → ℕ → List PrologueStep → Type 0
IsBelowNext f a [] = a < first_body f
IsBelowNext f a (p ∷ later) = a < f.start + p.end

-- A state stands after the first steps of a prologue, `done`, and before the `later` ones. Every register still holds what
-- the caller had, but for RBP once it is set.
pub record StandsAfter (image : List Span) (f : Function) (done later : List PrologueStep) (t s : State) : Type 0 where
  pub steps : f.prologue ≡ done ++ later
  pub entered : IsEntered image false (steps_of done) t s
  pub intact : (r : CalleeSaved) → (r ≡ RBP → frame_depth (steps_of done) ≡ None) → value_of r s ≡ value_of r t
  pub after : f.start + last_end done ≤ s.ra
  pub below : IsBelowNext f s.ra later
