use Rattle.std.proofs.Common.{◌≡◌, false, None, sym, ap, ◌∙◌}
use Rattle.std.specs.Prelude.{is_some}
use Rattle.unwind_definitions.specs.Columns as column
use Rattle.unwind_definitions.specs.State.{RBX, RBP, R12, R13, R14, R15, column_of}
use Rattle.frame_rows.specs.Rules.{rule_in}
use Rattle.frame_facts.specs.FactRows.{FindsKnown}
use Rattle.fact_checks.specs.ClaimViews.{facts_of}
use Rattle.fact_checks.proofs.Asked.{each_register, kept_found, lacking_there}
use Rattle.fact_checks.proofs.rows.first_lacking.Goals as goal

pub returns-then-lacks : goal.returns-then-lacks
returns-then-lacks c = lacking_there c.args.known.now RBX (rule_in c.args.row.now.rules (column_of RBX)) (sym c.lacks.ensures ∙ c.if-lacks.true)

pub returns-then-lacks-2 : goal.returns-then-lacks-2
returns-then-lacks-2 c = lacking_there c.args.known.now RBP (rule_in c.args.row.now.rules (column_of RBP)) (sym c.lacks-2.ensures ∙ c.if-lacks-2.true)

pub returns-then-lacks-3 : goal.returns-then-lacks-3
returns-then-lacks-3 c = lacking_there c.args.known.now R12 (rule_in c.args.row.now.rules (column_of R12)) (sym c.lacks-3.ensures ∙ c.if-lacks-3.true)

pub returns-then-lacks-4 : goal.returns-then-lacks-4
returns-then-lacks-4 c = lacking_there c.args.known.now R13 (rule_in c.args.row.now.rules (column_of R13)) (sym c.lacks-4.ensures ∙ c.if-lacks-4.true)

pub returns-then-lacks-5 : goal.returns-then-lacks-5
returns-then-lacks-5 c = lacking_there c.args.known.now R14 (rule_in c.args.row.now.rules (column_of R14)) (sym c.lacks-5.ensures ∙ c.if-lacks-5.true)

pub returns-then-lacks-6 : goal.returns-then-lacks-6
returns-then-lacks-6 c = lacking_there c.args.known.now R15 (rule_in c.args.row.now.rules (column_of R15)) (sym c.lacks-6.ensures ∙ c.if-lacks-6.true)

pub returns : goal.returns
returns c =
    let known = c.args.known.now in
    let rules = c.args.row.now.rules in
    record {
      ret = λ none. let some = sym c.has_rule.ensures ∙ c.if-not-has_rule.false in let no : is_some (rule_in rules column.ra) ≡ false = ap is_some none in cc;
      registers = each_register (λ r. rule_in rules (column_of r) ≡ None → FindsKnown (facts_of known) r None)
          (kept_found known RBX (rule_in rules (column_of RBX)) (sym c.lacks.ensures ∙ c.if-lacks.false))
          (kept_found known RBP (rule_in rules (column_of RBP)) (sym c.lacks-2.ensures ∙ c.if-lacks-2.false))
          (kept_found known R12 (rule_in rules (column_of R12)) (sym c.lacks-3.ensures ∙ c.if-lacks-3.false))
          (kept_found known R13 (rule_in rules (column_of R13)) (sym c.lacks-4.ensures ∙ c.if-lacks-4.false))
          (kept_found known R14 (rule_in rules (column_of R14)) (sym c.lacks-5.ensures ∙ c.if-lacks-5.false))
          (kept_found known R15 (rule_in rules (column_of R15)) (sym c.lacks-6.ensures ∙ c.if-lacks-6.false));
    }
