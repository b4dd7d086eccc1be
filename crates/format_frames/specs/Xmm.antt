-- What XMM registers hold after writes.
use Rattle.std.specs.Prelude.{ℕ, List, [], ◌∷◌}
use Rattle.pe_unwind_info.specs.Machine.{map_with}

-- by their numbers, from the writes with the last one first; each held 0 before
abbrev pub xmm_after : List (ℕ × ℕ) → ℕ → ℕ
xmm_after [] = λ number. 0
xmm_after (write ∷ writes) = map_with (xmm_after writes) write.0 write.1
