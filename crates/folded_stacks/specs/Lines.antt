-- Stacks with their counts, as the code keeps them. No public clause cites this.
use Rattle.std.specs.Prelude.{ℕ, List, map}
use Rattle.folded_stacks.specs.declared.folded.Line.{Line}
use Rattle.folded_stacks.specs.Counts.{StackCount, stack_count}
use Rattle.folded_stacks.specs.Places.{stack_at}

abbrev pub line_at : List ℕ → Line → StackCount
line_at addresses l = stack_count (stack_at addresses l.place) l.count

abbrev pub lines_at : List ℕ → List Line → List StackCount
lines_at addresses lines = map (line_at addresses) lines
