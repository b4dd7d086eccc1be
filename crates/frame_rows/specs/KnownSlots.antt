-- Slots of steps that are known. No public clause cites this.
use Rattle.std.specs.Prelude.{◌≡◌, ℕ, ◌<◌, ◌⊎◌, List, length, slice_index_or, slice_set}
use Rattle.std.specs.List.{AllByRecursion}
use Rattle.frame_rows.specs.declared.known_steps.KnownStep.{KnownStep}

-- a step stands in a slot
pub record IsKnownStep (slots : List KnownStep) (step : KnownStep) : Type 0 where
  pub index : ℕ
  pub within : index < length slots
  pub there : (d : KnownStep) → slice_index_or slots index d ≡ step

-- a step that is known is one of this body and of this offset
pub record FindsStep (slots : List KnownStep) (from offset : ℕ) (step : KnownStep) : Type 0 where
  pub known : IsKnownStep slots step
  pub from_same : step.from ≡ from
  pub offset_same : step.offset ≡ offset

-- a slot has a step
abbrev pub HasStep : KnownStep → KnownStep → Type 0
HasStep step slot = slot ≡ step

-- all stay known, or each slot has one step
abbrev pub StayOrFill : List KnownStep → KnownStep → List KnownStep → Type 0
StayOrFill old step new = (new ≡ old) ⊎ AllByRecursion (HasStep step) new

-- One more is known, beside those before or alone. Where memory runs out it may not be.
pub record NotesStep (old : List KnownStep) (step : KnownStep) (new : List KnownStep) : Type 0 where
  pub beside : List KnownStep
  pub stays : StayOrFill old step beside
  pub index : ℕ
  pub noted : (new ≡ beside) ⊎ (new ≡ slice_set beside index step)
