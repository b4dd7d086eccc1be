-- Claims in order.
use Rattle.std.specs.Prelude.{ℕ, suc, ◌<◌, ◌≤◌, nat_le, nat_lt, Bool, ◌&&◌, List, [], ◌∷◌, Option, Some, None, option_map, if◌then◌else◌}
use Rattle.frame_facts.specs.Claims.{Claim}

-- a claim's range isn't empty, and begins at an address or above it
abbrev pub IsInOrder : ℕ → Claim → Type 0
IsInOrder low c = (low ≤ c.range.from) × (c.range.from < c.range.to)

-- ranges that aren't empty, each at or above the end of the one before, from an address on
abbrev pub AreInOrder : ℕ → List Claim → Type 0
AreInOrder low [] = Unit {0}
AreInOrder low (c ∷ cs) = IsInOrder low c × AreInOrder c.range.to cs

abbrev pub is_in_order : ℕ → Claim → Bool
is_in_order low c = nat_le low c.range.from && nat_lt c.range.from c.range.to

-- the place of the first one that isn't so
abbrev pub first_out_of_order : ℕ → List Claim → Option ℕ
first_out_of_order low [] = None
first_out_of_order low (c ∷ cs) = if is_in_order low c then option_map suc (first_out_of_order c.range.to cs) else Some 0
