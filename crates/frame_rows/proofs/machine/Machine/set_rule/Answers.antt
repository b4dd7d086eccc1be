use Rattle.std.proofs.Common.{refl}
use Rattle.unwind_definitions.specs.Instructions.{Write}
use Rattle.frame_rows.specs.Rules.{rule_meaning}
use Rattle.frame_rows.proofs.Steps.{step_write}
use Rattle.frame_rows.proofs.CannotFollow.{set_follows, on_ok}
use Rattle.frame_rows.proofs.machine.Machine.set_rule.Goals as goal

pub returns-clause-follows : goal.returns-clause-follows
returns-clause-follows c start run rep =
    let rule = rule_meaning c.args.rule in
    set_follows start c.args.self.now run rep (Write c.args.register.0 rule) _ c.args.register.0 rule c.set.result refl c.set.ensures.ascending c.set.ensures.room c.set.ensures.full c.set.ensures.err
    (on_ok c.set.result c.set.ensures.ok (λ sets. step_write start c.args.self.now run rep _ c.args.register.0 rule sets refl refl refl refl refl))
