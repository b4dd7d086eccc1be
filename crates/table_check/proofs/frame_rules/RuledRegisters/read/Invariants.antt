use Rattle.std.proofs.Common.{◌≡◌, map}
use Rattle.std.specs.Prelude.{◌||◌, is_some}
use Rattle.std.specs.List.{AllByRecursion}
use Rattle.unwind_definitions.specs.Columns as column
use Rattle.unwind_definitions.specs.State.{CalleeSaved, column_of}
use Rattle.frame_rows.specs.Left.{registers_left}
use Rattle.frame_rows.specs.Rules.{entry_of, rule_in}
use Rattle.table_check.specs.FrameRules.{FitsRule, has_rule, return_rule}
use Rattle.table_check.proofs.frame_rules.RuledRegisters.read.Given as goal

-- all rules fit exactly where those that are left do; and what has a rule so far, or among those, has one
abbrev pub invariant-loop-entry : goal.invariant-loop-entry
invariant-loop-entry l = let left = map entry_of (registers_left l.entry-iterator) in
    (AllByRecursion (FitsRule l.frame (return_rule l.expected)) left → AllByRecursion (FitsRule l.frame (return_rule l.expected)) l.row.rules)
    × (AllByRecursion (FitsRule l.frame (return_rule l.expected)) l.row.rules → AllByRecursion (FitsRule l.frame (return_rule l.expected)) left)
    × ((r : CalleeSaved) → (has_rule r l.self || is_some (rule_in left (column_of r))) ≡ is_some (rule_in l.row.rules (column_of r)))
    × ((l.self.return_address || is_some (rule_in left column.ra)) ≡ is_some (rule_in l.row.rules column.ra))
