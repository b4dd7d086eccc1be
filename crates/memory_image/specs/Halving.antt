-- The search by halving: where a test that holds up to some place, and not after it, stops holding. On any other test it
-- answers one place too.
use Rattle.std.specs.Prelude.{ℕ, zero, suc, ◌+◌, ◌-◌, ◌/◌, Bool, List, length, Option, Some, None, nat_lt, nat_le, slice_index, if◌then◌else◌}

-- Of the places from low up to high, the first from which on the test is not expected to hold. Each turn tests the place in
-- the middle.
unfoldable pub place_by_halving : ℕ → (ℕ → Bool) → ℕ → ℕ → ℕ
place_by_halving zero test low high = low
place_by_halving (suc turns) test low high =
    if nat_lt low high then (if test (low + (high - low) / 2) then place_by_halving turns test (low + (high - low) / 2 + 1) high else place_by_halving turns test low (low + (high - low) / 2))
    else low

-- the place before another
abbrev pub place_before : ℕ → Option ℕ
place_before zero = None
place_before (suc i) = Some i

-- whether the key at a place is at or before p
abbrev pub is_at_or_before : List ℕ → ℕ → ℕ → Bool
is_at_or_before keys p i = nat_le (slice_index keys i) p

-- The place before the one that halving answers: in keys that ascend, that of the last one at or before p.
unfoldable pub boundary_of : List ℕ → ℕ → Option ℕ
boundary_of keys p = place_before (place_by_halving (length keys) (is_at_or_before keys p) 0 (length keys))
