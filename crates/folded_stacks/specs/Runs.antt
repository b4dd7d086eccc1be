-- Stacks that stand one after another, each once with their number. No public clause cites this.
use Rattle.std.specs.Prelude.{ℕ, List, [], ◌∷◌, if◌then◌else◌}
use Rattle.folded_stacks.specs.Stacks.{is_same}
use Rattle.folded_stacks.specs.Counts.{StackCount, one_more, stack_count}

-- after a stack that was counted so far
abbrev pub run_from : StackCount → List (List ℕ) → List StackCount
run_from l [] = l ∷ []
run_from l (s ∷ ss) = if is_same l.stack s then run_from (one_more l) ss else l ∷ run_from (stack_count s 1) ss

abbrev pub runs_of : List (List ℕ) → List StackCount
runs_of [] = []
runs_of (s ∷ ss) = run_from (stack_count s 1) ss
