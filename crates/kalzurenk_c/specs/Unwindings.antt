-- What walks and deliveries have in common. No public clause cites this.
use Rattle.std.specs.Prelude.{◌≡◌, List, Result, Ok, Err}
use Rattle.stack_steps.specs.Modules.{SpaceValue}
use Rattle.kalzurenk_c.specs.declared.refusal.Refusal.{Refusal}

-- Over the space that is due so much is left, of a list that was so before, and as an ending; or there is no space, and both stay.
abbrev pub Unwinds : {A P E : Type 0} → (SpaceValue → List P → List P → E → Type 0) → Result A Refusal → Result SpaceValue Refusal → List P → List P → E → E → Type 0
Unwinds leaves (Ok done) due before after old new = (space : SpaceValue) × (due ≡ Ok space) × leaves space before after new
Unwinds leaves (Err e) due before after old new = (due ≡ Err e) × (after ≡ before) × (new ≡ old)
