use Rattle.std.proofs.Common.{refl, sym}
use Rattle.unwind_definitions.specs.Instructions.{Cfa, CfaExpression}
use Rattle.frame_rows.proofs.Pushed.{cfa_whole, cfa_by_expression}
use Rattle.frame_rows.proofs.Steps.{step_nop, step_cfa, step_arguments}
use Rattle.frame_rows.proofs.machine.Machine.run.Goals as goal

pub returns-in-Nop-clause-follows : goal.returns-in-Nop-clause-follows
returns-in-Nop-clause-follows c start run rep = rw c.in-Nop.is (refl, step_nop start c.args.self.now run rep)

pub returns-in-DefineCfa-clause-follows : goal.returns-in-DefineCfa-clause-follows
returns-in-DefineCfa-clause-follows c start run rep = rw c.in-DefineCfa.is (
  refl,
  step_cfa start c.args.self.now run rep _ (Cfa c.in-DefineCfa.register.0 c.in-DefineCfa.offset) (record { alone = λ is. refl; still = refl }) (λ k. refl) refl refl
      (sym (cfa_whole run c.in-DefineCfa.register.0 c.in-DefineCfa.offset)) refl refl refl refl refl,
)

pub returns-in-DefineCfaExpression-clause-follows : goal.returns-in-DefineCfaExpression-clause-follows
returns-in-DefineCfaExpression-clause-follows c start run rep = rw c.in-DefineCfaExpression.is (
  refl,
  step_cfa start c.args.self.now run rep _ (CfaExpression c.in-DefineCfaExpression.expression.now) (record { alone = λ is. refl; still = refl }) (λ k. refl) refl refl
      (sym (cfa_by_expression run c.in-DefineCfaExpression.expression.now)) refl refl refl refl refl,
)

pub returns-in-SetArgumentSize-clause-follows : goal.returns-in-SetArgumentSize-clause-follows
returns-in-SetArgumentSize-clause-follows c start run rep = rw c.in-SetArgumentSize.is (
  refl,
  step_arguments start c.args.self.now run rep c.in-SetArgumentSize.size _ refl refl refl refl refl refl,
)
