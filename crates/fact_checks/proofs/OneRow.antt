-- A row says facts exactly where the instructions that it stands for do.
use Rattle.std.proofs.Common.{◌≡◌, Result, Ok, sym, subst, ◌∙◌}
use Rattle.unwind_definitions.specs.declared.error.Error.{Error as Fault}
use Rattle.unwind_definitions.specs.Columns as column
use Rattle.unwind_definitions.specs.Row.{RowInstructions}
use Rattle.unwind_definitions.specs.State.{column_of}
use Rattle.unwind_arch.specs.declared.register.Register.{Register}
use Rattle.frame_rows.specs.RowValue.{RowValue}
use Rattle.frame_rows.specs.Rows.{GivesRow, IsRowOf}
use Rattle.frame_rows.specs.Rules.{rule_in}
use Rattle.frame_facts.specs.Facts.{Facts}
use Rattle.frame_facts.specs.FactRows.{FindsKnown, IsKnownCfa}
use Rattle.fact_checks.specs.declared.rows.Mismatch.TheVariants as mismatch
use Rattle.fact_checks.specs.declared.said.SaidCfa.{SaidCfa}
use Rattle.fact_checks.specs.declared.said.SaidRule.{SaidRule}
use Rattle.fact_checks.specs.Said.{said_cfa, said_rule}
use Rattle.fact_checks.specs.RowFacts.{Differs, IsOtherRule, RulesSay, SaysDue}

module _ (facts : Facts) (row : RowValue) (due : Result RowInstructions Fault) (gives : GivesRow (Ok row) due) where
  abbrev run : RowInstructions
  run = gives.0

  abbrev is : IsRowOf row run
  is = gives.2

  pub row_says : IsKnownCfa facts row.cfa → RulesSay facts row.rules → SaysDue facts due
  row_says known rules = (
    run,
    gives.1,
    record {
      rule = row.cfa;
      cfa = is.cfa;
      known = known;
      ret = sym (is.rules column.ra) ∙ rules.ret;
      registers = λ r. subst (FindsKnown facts r) (is.rules (column_of r)) (rules.registers r);
      others = λ c other. sym (is.rules c) ∙ rules.others c other;
    },
  )

  pub other_cfa : (said : SaidCfa) → said ≡ said_cfa row.cfa → (IsKnownCfa facts row.cfa → ⊥) → Differs facts due (mismatch.Cfa said)
  other_cfa said same fails = (run, gives.1, (row.cfa, is.cfa, fails, same))

  pub other_rule : (c : Register) (said : SaidRule) → IsOtherRule facts c.0 (rule_in row.rules c.0) → said ≡ said_rule (rule_in row.rules c.0) → Differs facts due (mismatch.Rule c said)
  other_rule c said other same = (run, gives.1, subst (IsOtherRule facts c.0) (is.rules c.0) other, subst (λ rule. said ≡ said_rule rule) (is.rules c.0) same)
