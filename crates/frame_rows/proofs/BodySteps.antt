-- Bodies that instructions make of others, among bodies that grow, and in slots.
use Rattle.std.proofs.Common.{◌≡◌, ◌⊎◌, ℕ, zero, suc, ◌<◌, List, [], ◌∷◌, length, get_or, set, Result, Ok, refl, sym, ap, ◌∙◌, subst, inl, inr, arith, length-append}
use Rattle.std.specs.List.{AllByRecursion}
use Rattle.std.proofs.lemmas.List.{get_or_append_left}
use Rattle.unwind_definitions.specs.declared.error.Error.{Error as Fault}
use Rattle.unwind_definitions.specs.Instructions.{CfaOffset, Instruction, Offset, Write}
use Rattle.unwind_definitions.specs.Row.{RowInstructions}
use Rattle.frame_rows.specs.Bodies.{Grows, Says}
use Rattle.frame_rows.specs.BodySteps.{HasInitial, IsStateAt, MakesBody, IsStepOf, AreSteps, offset_step, save_step}
use Rattle.frame_rows.specs.KnownSlots.{FindsStep, HasStep, IsKnownStep, NotesStep, StayOrFill}
use Rattle.frame_rows.specs.RowValue.{RowValue}
use Rattle.frame_rows.specs.declared.known_steps.KnownStep.{KnownStep}
use Rattle.frame_rows.specs.declared.machine.RowState.{RowState}

module _ (old new : List (Result RowValue Fault)) (g : Grows old new) where
  pub at_longer : (i : ℕ) (d : Result RowValue Fault) → i < length old → get_or new i d ≡ get_or old i d
  at_longer i d lt = ap (λ (l : List (Result RowValue Fault)). get_or l i d) g.grown ∙ get_or_append_left old g.more d i lt

  pub within_longer : (i : ℕ) → i < length old → i < length new
  within_longer i lt = let n = ap length g.grown in let m = length-append old g.more in omega arith

  pub says_longer : (place : ℕ) (answer : Result RowValue Fault) → Says old place answer → Says new place answer
  says_longer place answer s = record {
    within = within_longer place s.within;
    there = λ d. at_longer place d s.within ∙ s.there d;
  }

  pub initial_longer : (place : ℕ) (run : RowInstructions) → HasInitial old place run → HasInitial new place run
  initial_longer place run h = record { row = h.row; says = says_longer place (Ok h.row) h.says; rules = h.rules }

  pub state_longer : (place : ℕ) (state : RowState) → IsStateAt old place state → IsStateAt new place state
  state_longer place state s = record { cfa = s.cfa; has = s.has; says = says_longer place _ s.says }

  state_before : (place : ℕ) (state : RowState) → place < length old → IsStateAt new place state → IsStateAt old place state
  state_before place state lt s = record {
    cfa = s.cfa;
    has = s.has;
    says = record { within = lt; there = λ d. sym (at_longer place d lt) ∙ s.says.there d };
  }

  pub makes_longer : (i : Instruction) (from to : ℕ) → MakesBody old i from to → MakesBody new i from to
  makes_longer i from to m = record {
    within = within_longer from m.within;
    there = within_longer to m.there;
    makes = λ start machine run rep at.
        let made = m.makes start machine run rep (state_before from machine.state m.within at) in
        (made.0, state_longer to made.0 made.1, made.2, made.3);
  }

  module _ (kind : KnownStep → Instruction) where
    pub steps_longer : (slots : List KnownStep) → AreSteps kind old slots → AreSteps kind new slots
    steps_longer [] all = tt
    steps_longer (s ∷ ss) all = (makes_longer (kind s) s.from s.to all.0, steps_longer ss all.1)

-- ---- slots

module _ (kind : KnownStep → Instruction) (bodies : List (Result RowValue Fault)) where
  filled_steps : (step : KnownStep) → MakesBody bodies (kind step) step.from step.to → (slots : List KnownStep) → AllByRecursion (HasStep step) slots → AreSteps kind bodies slots
  filled_steps step one [] all = tt
  filled_steps step one (s ∷ ss) all = (subst (IsStepOf kind bodies) (sym all.0) one, filled_steps step one ss all.1)

  set_step : (slots : List KnownStep) (i : ℕ) (step : KnownStep) → AreSteps kind bodies slots → MakesBody bodies (kind step) step.from step.to → AreSteps kind bodies (set slots i step)
  set_step [] zero step all one = tt
  set_step [] (suc i) step all one = tt
  set_step (s ∷ ss) zero step all one = (one, all.1)
  set_step (s ∷ ss) (suc i) step all one = (all.0, set_step ss i step all.1 one)

  stayed_steps : (old new : List KnownStep) (step : KnownStep) → StayOrFill old step new → AreSteps kind bodies old → MakesBody bodies (kind step) step.from step.to → AreSteps kind bodies new
  stayed_steps old new step (inl same) all one = subst (AreSteps kind bodies) (sym same) all
  stayed_steps old new step (inr filled) all one = filled_steps step one new filled

  beside_steps : (old new : List KnownStep) (i : ℕ) (step : KnownStep) → (new ≡ old) ⊎ (new ≡ set old i step) → AreSteps kind bodies old → MakesBody bodies (kind step) step.from step.to → AreSteps kind bodies new
  beside_steps old new i step (inl same) all one = subst (AreSteps kind bodies) (sym same) all
  beside_steps old new i step (inr is) all one = subst (AreSteps kind bodies) (sym is) (set_step old i step all one)

  pub noted_steps : (old new : List KnownStep) (step : KnownStep) → NotesStep old step new → AreSteps kind bodies old → MakesBody bodies (kind step) step.from step.to → AreSteps kind bodies new
  noted_steps old new step n all one = beside_steps n.beside new n.index step n.noted (stayed_steps old n.beside step n.stays all one) one

  at_step : (slots : List KnownStep) (i : ℕ) (step : KnownStep) → i < length slots → get_or slots i step ≡ step → AreSteps kind bodies slots → MakesBody bodies (kind step) step.from step.to
  at_step [] i step lt is all = absurd (omega arith)
  at_step (s ∷ ss) zero step lt is all = subst (IsStepOf kind bodies) is all.0
  at_step (s ∷ ss) (suc i) step lt is all = at_step ss i step (omega arith) is all.1

  pub found_step : (slots : List KnownStep) (from offset : ℕ) (step : KnownStep) → FindsStep slots from offset step → AreSteps kind bodies slots → MakesBody bodies (kind step) step.from step.to
  found_step slots from offset step f all = at_step slots f.known.index step f.known.within (f.known.there step) all

module _ (bodies : List (Result RowValue Fault)) (slots : List KnownStep) (from offset : ℕ) (step : KnownStep) (f : FindsStep slots from offset step) where
  pub offset_found : AreSteps offset_step bodies slots → MakesBody bodies (CfaOffset offset) from step.to
  offset_found all = subst (λ (n : ℕ). MakesBody bodies (CfaOffset n) from step.to) f.offset_same
      (subst (λ (n : ℕ). MakesBody bodies (CfaOffset step.offset) n step.to) f.from_same (found_step offset_step bodies slots from offset step f all))

  pub save_found : (register : ℕ) → step.register.0 ≡ register → AreSteps save_step bodies slots → MakesBody bodies (Write register (Offset offset)) from step.to
  save_found register same all = subst (λ (r : ℕ). MakesBody bodies (Write r (Offset offset)) from step.to) same
      (subst (λ (n : ℕ). MakesBody bodies (Write step.register.0 (Offset n)) from step.to) f.offset_same
      (subst (λ (n : ℕ). MakesBody bodies (Write step.register.0 (Offset step.offset)) n step.to) f.from_same (found_step save_step bodies slots from offset step f all)))

any_default : (slots : List KnownStep) (i : ℕ) (x y : KnownStep) → i < length slots → get_or slots i x ≡ get_or slots i y
any_default [] i x y lt = absurd (omega arith)
any_default (s ∷ ss) zero x y lt = refl
any_default (s ∷ ss) (suc i) x y lt = any_default ss i x y (omega arith)

pub in_slot : (slots : List KnownStep) (i : ℕ) (step : KnownStep) → step ≡ get_or slots i step → i < length slots → IsKnownStep slots step
in_slot slots i step is lt = record { index = i; within = lt; there = λ d. any_default slots i d step lt ∙ sym is }
