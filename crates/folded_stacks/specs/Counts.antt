-- Of each stack how many samples show it.
use Rattle.std.specs.Prelude.{◌≡◌, ◌↔◌, ◌+◌, ◌≤◌, ℕ, List, [], ◌∷◌}
use Rattle.std.specs.List.{Contains, count_by}
use Rattle.std.specs.Ordering.{match_ordering}
use Rattle.folded_stacks.specs.Stacks.{ComesBefore, is_same, stack_order}

-- a stack, and a number of samples
pub record StackCount : Type 0 where
  pub stack : List ℕ
  pub count : ℕ

abbrev pub stack_count : List ℕ → ℕ → StackCount
stack_count stack count = record { stack = stack; count = count }

-- the stacks with their counts, and how many samples have no stack
pub record FoldedValue : Type 0 where
  pub lines : List StackCount
  pub refused : ℕ

-- ---- what is counted

-- each stack comes before the next, so that none stands twice
abbrev pub Ascend : List StackCount → Type 0
Ascend [] = Unit {0}
Ascend (l ∷ []) = Unit {0}
Ascend (l ∷ m ∷ ls) = ComesBefore l.stack m.stack × Ascend (m ∷ ls)

-- a stack has a line, with this count
abbrev pub HasLine : List StackCount → List ℕ → ℕ → Type 0
HasLine lines stack count = Contains lines (stack_count stack count)

-- a stack has a line
abbrev pub HasStack : List StackCount → List ℕ → Type 0
HasStack lines stack = (count : ℕ) × HasLine lines stack count

-- The lines are in order, and a stack has one exactly where samples show it, with their number.
pub record IsFolded (stacks : List (List ℕ)) (lines : List StackCount) : Type 0 where
  pub ascend : Ascend lines
  pub exact : (stack : List ℕ) (count : ℕ) → HasLine lines stack count ↔ ((1 ≤ count) × (count_by (is_same stack) stacks ≡ count))

-- ---- the same as a function

-- a sample more that shows the stack of a line
abbrev pub one_more : StackCount → StackCount
one_more l = record l { count = l.count + 1 }

-- the lines after one more sample with a stack
abbrev pub counted_in : List ℕ → List StackCount → List StackCount
counted_in s [] = stack_count s 1 ∷ []
counted_in s (l ∷ ls) = match_ordering (stack_order s l.stack) (stack_count s 1 ∷ l ∷ ls) (one_more l ∷ ls) (l ∷ counted_in s ls)

-- the lines of samples with these stacks
abbrev pub counts_of : List (List ℕ) → List StackCount
counts_of [] = []
counts_of (s ∷ ss) = counted_in s (counts_of ss)
