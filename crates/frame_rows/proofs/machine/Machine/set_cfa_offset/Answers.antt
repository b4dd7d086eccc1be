use Rattle.std.proofs.Common.{◌≡◌, Some, refl, sym, ◌∙◌}
use Rattle.unwind_definitions.specs.Instructions.{CfaOffset}
use Rattle.unwind_definitions.specs.Row.{cfa_rule, ColumnAndOffset}
use Rattle.frame_rows.proofs.Pushed.{cfa_new_offset}
use Rattle.frame_rows.proofs.Steps.{step_cfa}
use Rattle.frame_rows.proofs.CannotFollow.{offset_fits}
use Rattle.frame_rows.proofs.machine.Machine.set_cfa_offset.Goals as goal

pub returns-clause-follows : goal.returns-clause-follows
returns-clause-follows c start run rep =
    let q = c.in_ok-register.register.0 in
    let n = c.in_ok-register.field-0-1 in
    let old : cfa_rule run ≡ Some (ColumnAndOffset q n) = sym rep.state.cfa ∙ c.in_ok-register.ensures.ok in (
      offset_fits start run q n c.args.offset old,
      step_cfa start c.args.self.now run rep _ (CfaOffset c.args.offset) (record { alone = λ is. refl; still = refl }) (λ k. refl) refl refl
          (sym (cfa_new_offset run q n c.args.offset old)) refl refl refl refl refl,
    )
