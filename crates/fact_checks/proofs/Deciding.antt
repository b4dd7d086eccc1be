-- Tests that decide facts.
use Rattle.std.proofs.Common.{◌≡◌, Bool, true, false}
use Rattle.std.specs.Bool.{Decides}

-- a fact whose test fails doesn't hold
pub fails : {P : Type 0} (b : Bool) → Decides b P → b ≡ false → P → ⊥
fails b d is p = let h : b ≡ true = d.1 p in cc

-- a test of one fact is one of another that holds exactly where it does
pub test_of : {P Q : Type 0} (b : Bool) → Decides b P → (P → Q) → (Q → P) → Decides b Q
test_of b d to from = (λ h. to (d.0 h), λ q. d.1 (from q))
