use Rattle.std.proofs.Common.{◌≡◌, ℕ, List, map, sym, subst, ap, ◌∙◌}
use Rattle.unwind_definitions.specs.Instructions.{Rule}
use Rattle.frame_rows.specs.Left.{registers_left}
use Rattle.frame_rows.specs.Rules.{entry_of, rule_meaning}
use Rattle.fact_checks.specs.ClaimViews.{facts_of}
use Rattle.fact_checks.specs.Said.{said_rule}
use Rattle.fact_checks.specs.RowFacts.{IsOtherRule}
use Rattle.fact_checks.proofs.Asked.{AreAskedBelow, all_say, first_is, more_asked, none_asked, other_by, or_lacking}
use Rattle.fact_checks.proofs.Deciding.{fails}
use Rattle.fact_checks.proofs.rows.first_other_rule.Goals as goal

pub loop-column-init : goal.loop-column-init
loop-column-init c =
    let facts = facts_of c.args.known.now in
    let rules = c.args.row.now.rules in
    let same = c.into_iter-column-iterator.ensures.into_iter_gives in
    let is : map entry_of (registers_left c.into_iter-column-iterator.result) ≡ rules = rw same c.registers-column-items.ensures.rules in
    (0, subst (λ (left : List (ℕ × Rule)). AreAskedBelow facts rules left 0) (sym is) (none_asked facts rules c.registers-column-items.ensures.ascending))

pub loop-column-preserved : goal.loop-column-preserved
loop-column-preserved c =
    let facts = facts_of c.args.known.now in
    let rules = c.args.row.now.rules in
    let before = subst (λ (left : List (ℕ × Rule)). AreAskedBelow facts rules left c.loop-column.invariant.0) (ap (map entry_of) c.in-Some.ensures.steps) c.loop-column.invariant.1 in
    (_, more_asked facts rules c.loop-column.invariant.0 c.in-Some.column.0 (rule_meaning c.in-Some.rule) _ before (c.is_asked.ensures.0 c.if-not-is_asked.false))

pub returns-then-not-is_asked : goal.returns-then-not-is_asked
returns-then-not-is_asked c =
    let facts = facts_of c.args.known.now in
    let rules = c.args.row.now.rules in
    let before = subst (λ (left : List (ℕ × Rule)). AreAskedBelow facts rules left c.loop-column.invariant.0) (ap (map entry_of) c.in-Some.ensures.steps) c.loop-column.invariant.1 in
    let is = first_is facts rules c.loop-column.invariant.0 c.in-Some.column.0 (rule_meaning c.in-Some.rule) _ before in (
      subst (IsOtherRule facts c.in-Some.column.0) (sym is) (other_by c.args.known.now c.in-Some.column.0 (rule_meaning c.in-Some.rule) (fails c.is_asked.result c.is_asked.ensures c.if-not-is_asked.true)),
      c.said_rule-rule.ensures ∙ ap said_rule (sym is),
    )

pub returns : goal.returns
returns c =
    let facts = facts_of c.args.known.now in
    let rules = c.args.row.now.rules in
    let below = subst (λ (left : List (ℕ × Rule)). AreAskedBelow facts rules left c.loop-column.invariant.0) (ap (map entry_of) c.in-None.ensures.steps.0) c.loop-column.invariant.1 in
    or_lacking facts rules _ c.other_lacking.result (all_say facts rules c.loop-column.invariant.0 below) c.other_lacking.ensures
