-- Reading bytes from left to right: what a part is, and the bytes after it. `None` where the bytes end before.
use Rattle.std.specs.Prelude.{ℕ, ◌*◌, List, length, take, drop, Option, Some, None, nat_lt, if◌then◌else◌}
use Rattle.memory_image.specs.Words.{u64_at}

-- what follows so many bytes
abbrev pub skip : ℕ → List ℕ → Option (List ℕ)
skip size bytes = if nat_lt (length bytes) size then None else Some (drop size bytes)

-- so many bytes, and what follows them
abbrev pub split : ℕ → List ℕ → Option (List ℕ × List ℕ)
split size bytes = if nat_lt (length bytes) size then None else Some (take size bytes, drop size bytes)

-- a word, and what follows it
abbrev pub first_word : List ℕ → Option (ℕ × List ℕ)
first_word bytes = if nat_lt (length bytes) 8 then None else Some (u64_at bytes 0, drop 8 bytes)

-- so many items of a size, after a number of bytes
abbrev pub skip_items : ℕ → ℕ → List ℕ → Option (List ℕ)
skip_items count size bytes = skip (count * size) bytes

-- one part after another, as far as they are there
infixl 10 ◌>>=◌
abbrev pub ◌>>=◌ : {A B : Type 0} → Option A → (A → Option B) → Option B
None >>= next = None
(Some x) >>= next = next x
