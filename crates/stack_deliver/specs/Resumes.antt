-- The return addresses of landing pads, by ascending pad.
use Rattle.std.specs.Prelude.{ℕ, ◌==◌, ◌<◌, List, [], ◌∷◌, length, slice_index_or, Option, Some, None, is_some, nat_lt, if◌then◌else◌}
use Rattle.std.specs.List.{AllByRecursion}

-- the return address that stands first with a pad
abbrev pub return_of : List (ℕ × ℕ) → ℕ → Option ℕ
return_of [] pad = None
return_of (e ∷ es) pad = if e.0 == pad then Some e.1 else return_of es pad

-- the entries with one more, before the first of a higher pad
abbrev pub by_pad : List (ℕ × ℕ) → ℕ → ℕ → List (ℕ × ℕ)
by_pad [] pad ret = (pad, ret) ∷ []
by_pad (e ∷ es) pad ret = if nat_lt pad e.0 then (pad, ret) ∷ e ∷ es else e ∷ by_pad es pad ret

-- the table after one more entry: a pad that has a return address keeps it
abbrev pub with_resume : List (ℕ × ℕ) → ℕ → ℕ → List (ℕ × ℕ)
with_resume table pad ret = if is_some (return_of table pad) then table else by_pad table pad ret

-- the table after more entries, one after another
abbrev pub with_resumes : List (ℕ × ℕ) → List (ℕ × ℕ) → List (ℕ × ℕ)
with_resumes table [] = table
with_resumes table (e ∷ es) = with_resumes (with_resume table e.0 e.1) es

-- the table of entries that are added to an empty one
abbrev pub resume_table : List (ℕ × ℕ) → List (ℕ × ℕ)
resume_table entries = with_resumes [] entries

-- the pad of the entry at a place
abbrev pub pad_at : List (ℕ × ℕ) → ℕ → ℕ
pad_at entries place = let e = slice_index_or entries place (0, 0) in e.0

-- pads ascend, so that none comes twice
abbrev pub Ascend : List (ℕ × ℕ) → Type 0
Ascend entries = (i j : ℕ) → i < j → j < length entries → pad_at entries i < pad_at entries j

-- all pads are lower than this one
abbrev pub LieBelow : ℕ → List (ℕ × ℕ) → Type 0
LieBelow pad entries = AllByRecursion (λ (e : ℕ × ℕ). e.0 < pad) entries
