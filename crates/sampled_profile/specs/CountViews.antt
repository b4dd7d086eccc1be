-- Stacks with their counts, as a map keeps them. No public clause cites this.
use Rattle.std.specs.Prelude.{ℕ, zero, suc, List, Vec, map}
use Rattle.folded_stacks.specs.Counts.{StackCount, counted_in, stack_count}

-- the lines of entries
abbrev pub lines_of : {Z : Type 0} → List (Vec ℕ Z × ℕ) → List StackCount
lines_of es = map (λ e. stack_count e.0.items e.1) es

-- the lines after a number of samples more with a stack
abbrev pub counted_times : ℕ → List ℕ → List StackCount → List StackCount
counted_times zero stack lines = lines
counted_times (suc n) stack lines = counted_in stack (counted_times n stack lines)
