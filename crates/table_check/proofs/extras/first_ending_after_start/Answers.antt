use Rattle.std.proofs.Common.{◌<◌, ◌≤◌, get_or, subst}
use Rattle.table_check.proofs.extras.first_ending_after_start.Goals as goal

pub returns-clause-before : goal.returns-clause-before
returns-clause-before c k d lt = subst (λ n. (get_or c.args.claims.now k d).end ≤ n) c.initial_address.ensures (c.first_ending_after.ensures.before k d lt)

pub returns-clause-after : goal.returns-clause-after
returns-clause-after c k d le lt = subst (λ n. n < (get_or c.args.claims.now k d).end) c.initial_address.ensures (c.first_ending_after.ensures.after k d le lt)
