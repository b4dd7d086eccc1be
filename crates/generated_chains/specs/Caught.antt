-- What is delivered to a generated chain.
use Rattle.std.specs.Prelude.{◌≡◌, ℕ, ◌-◌, ◌/◌, length}
use Rattle.unwind_definitions.specs.Delivery.{Delivery, Installed}

-- The outermost of so many functions takes the exception, and of those inside it each fourth one cleans up.
pub record IsCaught (d : Delivery) (count : ℕ) : Type 0 where
  pub outcome : d.outcome ≡ Installed
  pub visited : length d.visited ≡ count
  pub cleanups : length d.trail ≡ (count - 1) / 4
