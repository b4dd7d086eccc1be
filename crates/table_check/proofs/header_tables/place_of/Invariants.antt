use Rattle.std.proofs.Common.{ℕ, ◌-◌, ◌≤◌, List}
use Rattle.eh_frame.specs.HeaderViews.{pairs_of}
use Rattle.table_check.specs.Pairs.{AreRead}
use Rattle.table_check.proofs.Ascending.{IsBetween}
use Rattle.table_check.proofs.header_tables.place_of.Given as goal

-- pairs below low start below the one that is sought, and those from high on above it
abbrev pub invariant-loop-low : goal.invariant-loop-low
invariant-loop-low l = (l.low ≤ l.high) × (l.high ≤ (pairs_of l.pairs).count)
    × ((ps : List (ℕ × ℕ)) (read : AreRead (pairs_of l.pairs) ps) → IsBetween (pairs_of l.pairs) ps read l.start l.low l.high)

abbrev pub decreases-loop-low : goal.decreases-loop-low
decreases-loop-low l = l.high - l.low
