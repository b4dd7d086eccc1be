-- Tests that decide facts.
use Rattle.std.proofs.Common.{◌≡◌, Bool, true, false, refl}
use Rattle.std.specs.Bool.{Decides}

pub decides_no : {P : Type 0} → (P → ⊥) → Decides false P
decides_no fails = (λ h. absurd cc, λ p. absurd (fails p))

pub decides_yes : {P : Type 0} → P → Decides true P
decides_yes p = (λ h. p, λ q. refl)

pub decides_not : {P : Type 0} (b : Bool) → Decides b P → b ≡ false → P → ⊥
decides_not b d is p = let h : b ≡ true = d.1 p in cc

-- the same of a fact that holds exactly where another does
pub decides_as : {P Q : Type 0} (b : Bool) → (P → Q) → (Q → P) → Decides b P → Decides b Q
decides_as b to from d = (λ h. to (d.0 h), λ q. d.1 (from q))
