use Rattle.std.proofs.Common.{sym, ◌∙◌, not, ◌&&◌}
use Rattle.std.specs.Ordering.{nat_cmp, is_le}
use Rattle.stack_steps.proofs.Apart.{first_in, no_first, between_test}
use Rattle.stack_steps.proofs.space.first_between.Goals as goal

pub returns-in-Some : goal.returns-in-Some
returns-in-Some c = sym (first_in (λ q. is_le (nat_cmp c.args.start q) && not (is_le (nat_cmp c.args.end q))) c.args.start c.args.end (between_test c.args.start c.args.end) _ _ _ (sym (c.range.ensures.between tt) ∙ c.in-Some.ensures.steps))

pub returns-in-None : goal.returns-in-None
returns-in-None c = sym (no_first (λ q. is_le (nat_cmp c.args.start q) && not (is_le (nat_cmp c.args.end q))) c.args.start c.args.end (between_test c.args.start c.args.end) _ (sym (c.range.ensures.between tt) ∙ c.in-None.ensures.steps.0))
