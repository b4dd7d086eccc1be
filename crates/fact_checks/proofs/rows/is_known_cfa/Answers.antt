use Rattle.std.proofs.Common.{◌≡◌, ℕ, Option, Some, sym, subst}
use Rattle.std.specs.Bool.{Decides}
use Rattle.frame_rows.specs.Rules.{cfa_meaning}
use Rattle.frame_rows.specs.declared.rule.CfaRule.{CfaRule}
use Rattle.frame_facts.specs.FactRows.{IsKnownCfa}
use Rattle.fact_checks.specs.ClaimViews.{facts_of}
use Rattle.fact_checks.proofs.Rules.{distance_decides}
use Rattle.fact_checks.proofs.rows.is_known_cfa.Goals as goal

pub returns-in-RegisterAndOffset : goal.returns-in-RegisterAndOffset
returns-in-RegisterAndOffset c =
    let offset = c.in-RegisterAndOffset.offset in
    subst (λ (x : CfaRule). Decides c.is_distance.result (IsKnownCfa (facts_of c.args.known.now) (cfa_meaning x))) (sym c.in-RegisterAndOffset.is)
    (distance_decides (facts_of c.args.known.now) c.in-RegisterAndOffset.register.0 offset c.is_distance.result
    (subst (λ (o : Option ℕ). Decides c.is_distance.result (o ≡ Some offset)) c.known_distance.ensures c.is_distance.ensures))
