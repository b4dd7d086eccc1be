use Rattle.std.proofs.Common.{ℕ, map}
use Rattle.frame_rows.specs.Left.{registers_left}
use Rattle.frame_rows.specs.Rules.{entry_of}
use Rattle.fact_checks.specs.ClaimViews.{facts_of}
use Rattle.fact_checks.proofs.Asked.{AreAskedBelow}
use Rattle.fact_checks.proofs.rows.first_other_rule.Given as goal

-- the rules that were passed are as asked
abbrev pub invariant-loop-column : goal.invariant-loop-column
invariant-loop-column l = (low : ℕ) × AreAskedBelow (facts_of l.known) l.row.rules (map entry_of (registers_left l.column-iterator)) low
