use Rattle.std.proofs.Common.{◌≡◌, map}
use Rattle.frame_rows.specs.Left.{registers_left}
use Rattle.frame_rows.specs.Rules.{entry_of, rule_in}
use Rattle.popped_registers.proofs.popped.rule_of.Given as goal

abbrev pub invariant-loop-column : goal.invariant-loop-column
invariant-loop-column l = rule_in (map entry_of (registers_left l.column-iterator)) l.register.0 ≡ rule_in l.row.rules l.register.0
