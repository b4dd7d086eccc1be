use Rattle.std.proofs.Common.{◌≡◌, Some, None, refl, sym, ap, ◌∙◌}
use Rattle.std.specs.Option.{option_map}
use Rattle.unwind_definitions.specs.Instructions.{Reset}
use Rattle.unwind_definitions.specs.Row.{initial_rule}
use Rattle.frame_rows.specs.Rules.{rule_meaning}
use Rattle.frame_rows.proofs.Steps.{step_reset}
use Rattle.frame_rows.proofs.CannotFollow.{set_follows, on_ok, reset_fault}
use Rattle.frame_rows.proofs.machine.Machine.restore_initial_rule.Goals as goal

pub returns-in-Some-clause-follows : goal.returns-in-Some-clause-follows
returns-in-Some-clause-follows c start run rep =
    let q = c.args.register.0 in
    let rule = rule_meaning c.in-Some.rule in
    let is : initial_rule run q ≡ Some rule = sym (rep.initial q) ∙ sym c.initial_rule.ensures ∙ ap (option_map rule_meaning) c.in-Some.is in
    set_follows start c.args.self.now run rep (Reset q) _ q rule c.set.result (reset_fault start run q (Some rule) is) c.set.ensures.ascending c.set.ensures.room c.set.ensures.full c.set.ensures.err
    (on_ok c.set.result c.set.ensures.ok (λ sets. step_reset start c.args.self.now run rep _ q (λ k. rw is (sets k)) refl refl refl refl refl))

pub returns-in-None-clause-follows : goal.returns-in-None-clause-follows
returns-in-None-clause-follows c start run rep =
    let q = c.args.register.0 in
    let is : initial_rule run q ≡ None = sym (rep.initial q) ∙ sym c.initial_rule.ensures ∙ ap (option_map rule_meaning) c.in-None.is in
    (reset_fault start run q None is, step_reset start c.args.self.now run rep _ q (λ k. rw is (c.remove.ensures k)) refl refl refl refl refl)
