use Rattle.std.proofs.Common.{List, ap, rules, sym, ℕ, ◌∙◌}
use Rattle.std.specs.Option.{option_map}
use Rattle.unwind_definitions.specs.Instructions.{Rule}
use Rattle.frame_rows.specs.BodySteps.{offset_step, save_step}
use Rattle.frame_rows.specs.Rules.{rule_in, rule_meaning}
use Rattle.frame_rows.proofs.BodyMakes.{restore_makes}
use Rattle.frame_rows.proofs.BodySteps.{steps_longer}
use Rattle.frame_rows.proofs.row_steps.SteppedBodies.make_restore.Goals as goal

pub invariant_of-self-in_err-to : goal.invariant_of-self-in_err-to
invariant_of-self-in_err-to c =
    let g = c.in_err-to.ensures.grows in (
      steps_longer c.self.inside.bodies c.keep.new.self g offset_step c.self.inside.offsets c.self.invariant.0,
      steps_longer c.self.inside.bodies c.keep.new.self g save_step c.self.inside.saves c.self.invariant.1,
    )

pub invariant_of-self-2 : goal.invariant_of-self-2
invariant_of-self-2 c =
    let g = c.in_ok-to.ensures.grows in (
      steps_longer c.self.inside.bodies c.keep.new.self g offset_step c.self.inside.offsets c.self.invariant.0,
      steps_longer c.self.inside.bodies c.keep.new.self g save_step c.self.inside.saves c.self.invariant.1,
    )

pub returns-clause-makes : goal.returns-clause-makes
returns-clause-makes c =
    let g = c.in_ok-to.ensures.grows in
    let q = c.args.register.0 in
    let rule = option_map rule_meaning c.rule_among-rule.result in
    let has = c.rule_among-rule.ensures ∙ ap (λ (es : List (ℕ × Rule)). rule_in es q) c.entries.ensures.rules in
    let old = c.put.ensures ∙ c.entries-2.ensures.rules in
    let says = rw (c.entries-3.ensures.value, c.cfa-cfa.ensures, c.saved_args_size-size.ensures) at c.in_ok-to.ensures.says in
    restore_makes c.self.inside.bodies c.keep.new.self g c.args.place c.in_ok-to.to c.in-Ok-get.row (search rules) (λ d. sym (c.get-2.ensures d) ∙ c.in-Ok-get.is) q c.args.first c.in-Ok.initial (search rules) (λ d. sym (c.get.ensures d) ∙ c.in-Ok.is) rule has
    c.reset.new.self c.entries-2.ensures.ascending (rw (c.in-Ok-reset.is, old) at c.reset.ensures.room) (rw (c.in-Ok-reset.is, old) at c.reset.ensures.ok) says
