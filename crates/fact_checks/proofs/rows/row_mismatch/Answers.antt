use Rattle.std.proofs.Common.{sym, ap, subst, ◌∙◌}
use Rattle.frame_facts.specs.FactRows.{IsKnownCfa}
use Rattle.fact_checks.specs.ClaimViews.{facts_of}
use Rattle.fact_checks.specs.Said.{said_cfa}
use Rattle.fact_checks.proofs.Deciding.{fails}
use Rattle.fact_checks.proofs.OneRow.{other_cfa, other_rule, row_says}
use Rattle.fact_checks.proofs.rows.row_mismatch.Goals as goal

pub returns-then-not-is_known_cfa : goal.returns-then-not-is_known_cfa
returns-then-not-is_known_cfa c due gives =
    let facts = facts_of c.args.known.now in
    other_cfa facts c.args.row.now due gives c.said_cfa.result (c.said_cfa.ensures ∙ ap said_cfa c.cfa-cfa.ensures) (λ known. fails c.is_known_cfa.result c.is_known_cfa.ensures c.if-not-is_known_cfa.true (subst (IsKnownCfa facts) (sym c.cfa-cfa.ensures) known))

pub returns-in-Some : goal.returns-in-Some
returns-in-Some c due gives = other_rule (facts_of c.args.known.now) c.args.row.now due gives c.in-Some.other.column c.in-Some.other.rule c.in-Some.ensures.0 c.in-Some.ensures.1

pub returns-in-None : goal.returns-in-None
returns-in-None c due gives =
    let facts = facts_of c.args.known.now in
    row_says facts c.args.row.now due gives (subst (IsKnownCfa facts) c.cfa-cfa.ensures (c.is_known_cfa.ensures.0 c.if-not-is_known_cfa.false)) c.in-None.ensures
