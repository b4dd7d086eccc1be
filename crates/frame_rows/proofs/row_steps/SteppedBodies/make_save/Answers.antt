use Rattle.std.proofs.Common.{sym, rules, ◌∙◌}
use Rattle.unwind_definitions.specs.Instructions.{Offset}
use Rattle.frame_rows.specs.BodySteps.{offset_step, save_step}
use Rattle.frame_rows.proofs.BodyMakes.{save_makes}
use Rattle.frame_rows.proofs.BodySteps.{noted_steps, steps_longer}
use Rattle.frame_rows.proofs.row_steps.SteppedBodies.make_save.Goals as goal

pub invariant_of-self-in_err-to : goal.invariant_of-self-in_err-to
invariant_of-self-in_err-to c =
    let g = c.in_err-to.ensures.grows in (
      steps_longer c.self.inside.bodies c.keep.new.self g offset_step c.self.inside.offsets c.self.invariant.0,
      steps_longer c.self.inside.bodies c.keep.new.self g save_step c.self.inside.saves c.self.invariant.1,
    )

pub invariant_of-self-in_err-note : goal.invariant_of-self-in_err-note
invariant_of-self-in_err-note c =
    let g = c.in_ok-to.ensures.grows in
    let old = c.put.ensures ∙ c.entries.ensures.rules in
    let says = rw (c.entries-2.ensures.value, c.cfa-cfa.ensures, c.saved_args_size-size.ensures) at c.in_ok-to.ensures.says in
    let makes = save_makes c.self.inside.bodies c.keep.new.self g c.args.place c.in_ok-to.to c.in-Ok.row (search rules) (λ d. sym (c.get.ensures d) ∙ c.in-Ok.is) c.args.register.0 (Offset c.args.offset) c.set.new.self
    (rw old at c.set.ensures.ascending) (rw (c.in-Ok-set.is, old) at c.set.ensures.room) (rw (c.in-Ok-set.is, old) at c.set.ensures.ok) says in (
      steps_longer c.self.inside.bodies c.keep.new.self g offset_step c.self.inside.offsets c.self.invariant.0,
      noted_steps save_step c.keep.new.self c.self.inside.saves c.note.new.self _ c.note.ensures (steps_longer c.self.inside.bodies c.keep.new.self g save_step c.self.inside.saves c.self.invariant.1) makes,
    )

pub invariant_of-self-2 : goal.invariant_of-self-2
invariant_of-self-2 c =
    let g = c.in_ok-to.ensures.grows in
    let old = c.put.ensures ∙ c.entries.ensures.rules in
    let says = rw (c.entries-2.ensures.value, c.cfa-cfa.ensures, c.saved_args_size-size.ensures) at c.in_ok-to.ensures.says in
    let makes = save_makes c.self.inside.bodies c.keep.new.self g c.args.place c.in_ok-to.to c.in-Ok.row (search rules) (λ d. sym (c.get.ensures d) ∙ c.in-Ok.is) c.args.register.0 (Offset c.args.offset) c.set.new.self
    (rw old at c.set.ensures.ascending) (rw (c.in-Ok-set.is, old) at c.set.ensures.room) (rw (c.in-Ok-set.is, old) at c.set.ensures.ok) says in (
      steps_longer c.self.inside.bodies c.keep.new.self g offset_step c.self.inside.offsets c.self.invariant.0,
      noted_steps save_step c.keep.new.self c.self.inside.saves c.note.new.self _ c.note.ensures (steps_longer c.self.inside.bodies c.keep.new.self g save_step c.self.inside.saves c.self.invariant.1) makes,
    )

pub returns-clause-makes : goal.returns-clause-makes
returns-clause-makes c =
    let g = c.in_ok-to.ensures.grows in
    let old = c.put.ensures ∙ c.entries.ensures.rules in
    let says = rw (c.entries-2.ensures.value, c.cfa-cfa.ensures, c.saved_args_size-size.ensures) at c.in_ok-to.ensures.says in
    save_makes c.self.inside.bodies c.keep.new.self g c.args.place c.in_ok-to.to c.in-Ok.row (search rules) (λ d. sym (c.get.ensures d) ∙ c.in-Ok.is) c.args.register.0 (Offset c.args.offset) c.set.new.self
    (rw old at c.set.ensures.ascending) (rw (c.in-Ok-set.is, old) at c.set.ensures.room) (rw (c.in-Ok-set.is, old) at c.set.ensures.ok) says
