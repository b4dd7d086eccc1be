use Rattle.std.proofs.Common.{sym, ◌∙◌, not}
use Rattle.std.specs.Ordering.{nat_cmp, is_lt}
use Rattle.stack_steps.proofs.Apart.{last_in, none_in, up_to_test}
use Rattle.stack_steps.proofs.Holding.{last_stands}
use Rattle.stack_steps.proofs.space.last_below.Goals as goal

pub returns-in-Some-clause-last : goal.returns-in-Some-clause-last
returns-in-Some-clause-last c = sym (last_in (λ q. not (is_lt (nat_cmp c.args.address q))) c.args.address (up_to_test c.args.address) _ _ _ (sym (c.range.ensures.between tt) ∙ c.in-Some.ensures.steps))

pub returns-in-Some-clause-stands : goal.returns-in-Some-clause-stands
returns-in-Some-clause-stands c = last_stands (λ q. not (is_lt (nat_cmp c.args.address q))) _ _ _ (sym (c.range.ensures.between tt) ∙ c.in-Some.ensures.steps)

pub returns-in-None-clause-last : goal.returns-in-None-clause-last
returns-in-None-clause-last c = sym (none_in (λ q. not (is_lt (nat_cmp c.args.address q))) c.args.address (up_to_test c.args.address) _ (sym (c.range.ensures.between tt) ∙ c.in-None.ensures.steps.0))
