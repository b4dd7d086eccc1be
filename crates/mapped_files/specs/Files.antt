-- What files have, and of which parts are read.
use Rattle.std.specs.Prelude.{◌≡◌, ℕ, List, take, drop, Option, Some}

-- The files are told: this is what the file of each path has.
abbrev pub AreTold : (List ℕ → Option (List ℕ)) → (List ℕ → List ℕ) → Type 0
AreTold content files = (path : List ℕ) → content path ≡ Some (files path)

-- of what a file has: so many bytes from an offset on
abbrev pub part_at : ℕ → ℕ → List ℕ → List ℕ
part_at offset size file = take size (drop offset file)

abbrev pub front_of : List ℕ → List ℕ
front_of file = part_at 0 4096 file
