-- The words of a stack by the places that hold them. No public clause cites this.
use Rattle.std.specs.Prelude.{ℕ, zero, suc, List, [], ◌∷◌, slice_index}

-- the first n words, the last of them first
abbrev pub words_stacked : List ℕ → ℕ → List ℕ
words_stacked words zero = []
words_stacked words (suc n) = slice_index words n ∷ words_stacked words n
