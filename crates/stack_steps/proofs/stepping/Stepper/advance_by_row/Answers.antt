use Rattle.std.proofs.lemmas.Result.{err_from_is_err_and}
use Rattle.stack_steps.proofs.Made.{made_fault, made_step}
use Rattle.stack_steps.proofs.stepping.Stepper.advance_by_row.Goals as goal

pub returns-in_err-step_by_row-clause-step : goal.returns-in_err-step_by_row-clause-step
returns-in_err-step_by_row-clause-step c =
    let s = c.args.state.now in
    let p = err_from_is_err_and c.from_residual.result c.from_residual.ensures.1 in
    rw (p.1, p.2) (made_fault c.args.self.now s.context s.signal c.requires.returns c.args.kept.now c.requires.made c.requires.address c.in_err-step_by_row.field-0.0 (λ f row signal. c.in_err-step_by_row.ensures.caller f row signal))

pub returns-clause-step : goal.returns-clause-step
returns-clause-step c =
    let s = c.args.state.now in
    made_step c.args.self.now s.context s.signal c.requires.returns c.args.kept.now c.requires.made c.requires.address c.step_by_row.new.state (λ f row signal. c.in_ok-step_by_row.ensures.caller f row signal)
