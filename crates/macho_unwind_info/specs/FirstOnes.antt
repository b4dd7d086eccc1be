-- The first registers of a list, with zeros in place of the others. No public clause cites this.
use Rattle.std.specs.Prelude.{ℕ, suc, List, [], ◌∷◌, nat_lt, if◌then◌else◌}

-- a register at a place, which a list of so many keeps
abbrev pub kept_at : ℕ → ℕ → ℕ → ℕ
kept_at count place register = if nat_lt place count then register else 0

abbrev pub kept_from : ℕ → ℕ → List ℕ → List ℕ
kept_from count place [] = []
kept_from count place (register ∷ registers) = kept_at count place register ∷ kept_from count (suc place) registers

abbrev pub first_ones : ℕ → List ℕ → List ℕ
first_ones count registers = kept_from count 0 registers
