use Rattle.std.proofs.Common.{◌≡◌, drop}
use Rattle.table_check.specs.Claiming.{with_last}
use Rattle.claim_checks.specs.Adding.{with_sites}
use Rattle.claim_checks.proofs.adding.add_sites.Given as goal

abbrev pub invariant-loop-site : goal.invariant-loop-site
invariant-loop-site l = with_last (with_sites (drop l.site-index l.sites)) l.claims ≡ with_last (with_sites l.sites) l.initial.claims
