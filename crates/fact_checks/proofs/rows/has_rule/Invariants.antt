use Rattle.std.proofs.Common.{◌≡◌, map}
use Rattle.frame_rows.specs.Left.{registers_left}
use Rattle.frame_rows.specs.Rules.{entry_of, rule_in}
use Rattle.fact_checks.proofs.rows.has_rule.Given as goal

abbrev pub invariant-loop-register : goal.invariant-loop-register
invariant-loop-register l = rule_in (map entry_of (registers_left l.register-iterator)) l.column.0 ≡ rule_in l.row.rules l.column.0
