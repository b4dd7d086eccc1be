-- Which rows say facts, as rows are kept; and why one doesn't. DWARF 5 section 6.4.1.
use Rattle.std.specs.Prelude.{◌≡◌, ◌⊎◌, ℕ, Bool, false, true, not, ◌&&◌, List, Option, Some, None, is_none, Result, Ok, Err, IsFalse, ◌==◌, if◌then◌else◌}
use Rattle.unwind_definitions.specs.declared.error.Error.{Error as Fault}
use Rattle.unwind_definitions.specs.Columns as column
use Rattle.unwind_definitions.specs.Instructions.{Rule, Offset, Undefined}
use Rattle.unwind_definitions.specs.Row.{CfaRule, RowInstructions, cfa_rule, rule_of}
use Rattle.unwind_definitions.specs.State.{CalleeSaved, column_of}
use Rattle.unwind_definitions.specs.DescribedRows.{IsUnchanged, may_have_rule, negative}
use Rattle.frame_rows.specs.Rules.{rule_in}
use Rattle.frame_facts.specs.Facts.{Facts}
use Rattle.frame_facts.specs.FactRows.{FindsKnown, IsKnownCfa, SaysFacts, return_rule}
use Rattle.fact_checks.specs.declared.facts.KnownRegister.{KnownRegister}
use Rattle.fact_checks.specs.declared.rows.Due.{Due}
use Rattle.fact_checks.specs.declared.rows.Due.TheVariants as due
use Rattle.fact_checks.specs.declared.rows.Mismatch.{Mismatch}
use Rattle.fact_checks.specs.declared.rows.Mismatch.TheVariants as mismatch
use Rattle.fact_checks.specs.declared.said.SaidCfa.{SaidCfa}
use Rattle.fact_checks.specs.Said.{said_cfa, said_rule}

-- a rule finds a register in its slot, or leaves one that is kept
abbrev pub IsFound : KnownRegister → Option Rule → Type 0
IsFound k rule = ((d : ℕ) × (k.slot ≡ Some d) × (rule ≡ Some (Offset (negative d)))) ⊎ ((k.is_kept ≡ true) × IsUnchanged rule)

-- a rule is one that is due
abbrev pub IsAsDue : Due → Option Rule → Type 0
IsAsDue due.Undefined rule = rule ≡ Some Undefined
IsAsDue (due.Found k) rule = IsFound k rule

-- the rules of a row say facts
pub record RulesSay (facts : Facts) (rules : List (ℕ × Rule)) : Type 0 where
  pub ret : rule_in rules column.ra ≡ Some (return_rule facts.outermost)
  pub registers : (r : CalleeSaved) → FindsKnown facts r (rule_in rules (column_of r))
  pub others : (c : ℕ) → IsFalse (may_have_rule c) → rule_in rules c ≡ None

-- a column's rule, if it has one, is as facts ask
pub record IsAsked (facts : Facts) (c : ℕ) (rule : Option Rule) : Type 0 where
  pub ret : c ≡ column.ra → rule ≡ Some (return_rule facts.outermost)
  pub register : (r : CalleeSaved) → c ≡ column_of r → FindsKnown facts r rule
  pub other : IsFalse (may_have_rule c) → rule ≡ None

-- no column lacks a rule that it has to have: that of the return address, or of a register that isn't known to be kept
pub record LacksNone (facts : Facts) (rules : List (ℕ × Rule)) : Type 0 where
  pub ret : rule_in rules column.ra ≡ None → ⊥
  pub registers : (r : CalleeSaved) → rule_in rules (column_of r) ≡ None → FindsKnown facts r None

abbrev pub lacks : KnownRegister → Option Rule → Bool
lacks k rule = not k.is_kept && is_none rule

-- the rule of a column is another than what is known asks: that of the return address, of a callee-saved register, or of a column
-- that has none
abbrev pub IsOtherRule : Facts → ℕ → Option Rule → Type 0
IsOtherRule facts c rule =
    ((c ≡ column.ra) × (rule ≡ Some (return_rule facts.outermost) → ⊥))
    ⊎ (((r : CalleeSaved) × (c ≡ column_of r) × (FindsKnown facts r rule → ⊥))
    ⊎ ((may_have_rule c ≡ false) × (rule ≡ None → ⊥)))

-- how far the CFA is known to lie above the register of a column
abbrev pub known_distance : Facts → ℕ → Option ℕ
known_distance facts c = if c == column.rbp then facts.rbp else (if c == column.rsp then facts.rsp else None)

-- the row that is due says facts
abbrev pub SaysDue : Facts → Result RowInstructions Fault → Type 0
SaysDue facts due = (run : RowInstructions) × (due ≡ Ok run) × SaysFacts facts run

-- the CFA of a row is this one, and isn't one that is known
abbrev pub IsOtherCfa : Facts → RowInstructions → SaidCfa → Type 0
IsOtherCfa facts run said = (rule : CfaRule) × (cfa_rule run ≡ Some rule) × (IsKnownCfa facts rule → ⊥) × (said ≡ said_cfa rule)

-- how the row that is due, or the fault in its place, differs from facts, and what it says
abbrev pub Differs : Facts → Result RowInstructions Fault → Mismatch → Type 0
Differs facts due (mismatch.Cfa said) = (run : RowInstructions) × (due ≡ Ok run) × IsOtherCfa facts run said
Differs facts due (mismatch.Rule register said) = (run : RowInstructions) × (due ≡ Ok run) × IsOtherRule facts register.0 (rule_of run register.0) × (said ≡ said_rule (rule_of run register.0))
Differs facts due (mismatch.Fault e) = due ≡ Err e
Differs facts due _ = ⊥
