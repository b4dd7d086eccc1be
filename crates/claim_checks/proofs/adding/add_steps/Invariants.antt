use Rattle.std.proofs.Common.{◌≡◌, drop}
use Rattle.table_check.specs.Claiming.{with_last}
use Rattle.claim_checks.specs.Adding.{with_steps}
use Rattle.claim_checks.proofs.adding.add_steps.Given as goal

abbrev pub invariant-loop-step : goal.invariant-loop-step
invariant-loop-step l = with_last (with_steps (drop l.step-index l.steps)) l.claims ≡ with_last (with_steps l.steps) l.initial.claims
