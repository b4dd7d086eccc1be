use Rattle.std.proofs.Common.{◌≡◌, Some, refl, sym, ◌∙◌}
use Rattle.unwind_definitions.specs.Instructions.{CfaColumn}
use Rattle.unwind_definitions.specs.Row.{cfa_rule, ColumnAndOffset}
use Rattle.frame_rows.proofs.Pushed.{cfa_new_column}
use Rattle.frame_rows.proofs.Steps.{step_cfa}
use Rattle.frame_rows.proofs.CannotFollow.{register_fits}
use Rattle.frame_rows.proofs.machine.Machine.set_cfa_register.Goals as goal

pub returns-clause-follows : goal.returns-clause-follows
returns-clause-follows c start run rep =
    let q = c.in_ok-offset.field-0-0.0 in
    let n = c.in_ok-offset.offset in
    let old : cfa_rule run ≡ Some (ColumnAndOffset q n) = sym rep.state.cfa ∙ c.in_ok-offset.ensures.ok in (
      register_fits start run q n c.args.register.0 old,
      step_cfa start c.args.self.now run rep _ (CfaColumn c.args.register.0) (record { alone = λ is. refl; still = refl }) (λ k. refl) refl refl
          (sym (cfa_new_column run q n c.args.register.0 old)) refl refl refl refl refl,
    )
