-- The functions of a generated chain in outline: a sequence of words says which prologue each has, and its place in the
-- chain what it does with an exception.
use Rattle.std.specs.Prelude.{◌≡◌, ℕ, zero, suc, ◌+◌, ◌*◌, ◌/◌, ◌%◌, ◌^◌, List, [], ◌∷◌, ◌==◌, if◌then◌else◌}
use Rattle.generated_chains.specs.declared.outline.Kind.{Kind}
use Rattle.generated_chains.specs.declared.outline.Kind.TheVariants.{Pushes, PushesAndAllocates, SetsFrame, SetsFrameAndPushes}
use Rattle.generated_chains.specs.declared.outline.Handling.{Handling}
use Rattle.generated_chains.specs.declared.outline.Handling.TheVariants.{PassesOn, CleansUp, Catches}
use Rattle.generated_chains.specs.declared.outline.Outline.{Outline}

-- the word after another one: a linear congruential generator
abbrev pub following : ℕ → ℕ
following x = (x * 6364136223846793005 + 1442695040888963407) % 2 ^ 64

-- the prologue that a word's two highest bits name
abbrev pub kind_of : ℕ → Kind
kind_of x =
    if x / 2 ^ 62 == 0 then Pushes
    else (if x / 2 ^ 62 == 1 then PushesAndAllocates
    else (if x / 2 ^ 62 == 2 then SetsFrame
    else SetsFrameAndPushes))

-- The outermost function, with no function outside it, catches, and of the others each fourth one cleans up.
abbrev pub handling_of : ℕ → ℕ → Handling
handling_of index outer = if outer == 0 then Catches else (if index % 4 == 3 then CleansUp else PassesOn)

-- so many functions from an index on, by the word of that index
abbrev pub outlines_from : ℕ → ℕ → ℕ → List Outline
outlines_from x index zero = []
outlines_from x index (suc outer) =
    record { index = index; kind = kind_of (following x); handling = handling_of index outer }
    ∷ outlines_from (following x) (index + 1) outer

-- the functions of a chain, from the innermost outwards
abbrev pub outlines : ℕ → ℕ → List Outline
outlines seed count = outlines_from seed 0 count

-- functions have the indices from one on
abbrev pub AreNumbered : ℕ → List Outline → Type 0
AreNumbered index [] = Unit {0}
AreNumbered index (o ∷ os) = (o.index ≡ index) × AreNumbered (index + 1) os
