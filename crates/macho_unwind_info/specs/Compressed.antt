-- The two numbers of an entry of a compressed page.
use Rattle.std.specs.Prelude.{ℕ, ◌/◌, ◌%◌, ◌^◌}

-- the index of its opcode
abbrev pub opcode_index : ℕ → ℕ
opcode_index entry = entry / 2 ^ 24

-- the distance of its function from the page's first address
abbrev pub relative_address : ℕ → ℕ
relative_address entry = entry % 2 ^ 24
