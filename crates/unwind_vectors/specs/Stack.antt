-- Words of a stack, one after another from an address on.
use Rattle.std.specs.Prelude.{ℕ, ◌-◌, ◌/◌, ◌%◌, List, Option, None, slice_get, nat_lt, ◌==◌, if◌then◌else◌}

abbrev pub word_in : ℕ → List ℕ → ℕ → Option ℕ
word_in base words address = if nat_lt address base then None else (if (address - base) % 8 == 0 then slice_get words ((address - base) / 8) else None)
