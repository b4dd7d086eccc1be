use Rattle.std.proofs.Common.{◌≡◌, drop}
use Rattle.table_check.specs.Claiming.{with_last}
use Rattle.claim_checks.specs.Adding.{with_bodies}
use Rattle.claim_checks.proofs.adding.add_bodies.Given as goal

abbrev pub invariant-loop-body : goal.invariant-loop-body
invariant-loop-body l = with_last (with_bodies (drop l.body-index l.bodies)) l.claims ≡ with_last (with_bodies l.bodies) l.initial.claims
