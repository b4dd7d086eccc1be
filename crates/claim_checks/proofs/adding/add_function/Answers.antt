use Rattle.claim_checks.proofs.Lists.{claimed_with, claimed_without}
use Rattle.claim_checks.proofs.adding.add_function.Goals as goal

pub returns-in_ok-add_sites : goal.returns-in_ok-add_sites
returns-in_ok-add_sites c =
    claimed_with c.args.function.now c.args.claims.now c.push.new.self c.add_steps.new.claims c.add_bodies.new.claims c.table.new.self c.add_sites.new.claims c.deref.result.now c.deref-2.result.now c.in-Some.sites c.deref-in-Some.result.now
    c.deref.ensures.value c.deref-2.ensures.value c.deref-in-Some.ensures.value c.in_ok-push.ensures.added c.in_ok-add_steps.ensures c.in_ok-add_bodies.ensures c.in_ok-table.ensures.added c.in_ok-add_sites.ensures c.in-Some.is

pub returns-in_default : goal.returns-in_default
returns-in_default c =
    claimed_without c.args.function.now c.args.claims.now c.push.new.self c.add_steps.new.claims c.add_bodies.new.claims c.deref.result.now c.deref-2.result.now
    c.deref.ensures.value c.deref-2.ensures.value c.in_ok-push.ensures.added c.in_ok-add_steps.ensures c.in_ok-add_bodies.ensures c.in_default.is
