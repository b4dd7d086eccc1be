use Rattle.std.proofs.Common.{arith, sym}
use Rattle.stack_steps.proofs.StepParts.{caller_left}
use Rattle.stack_steps.proofs.elf.step_in_place.Goals as goal

pub returns-clause-caller : goal.returns-clause-caller
returns-clause-caller c = λ _ f row same.
    sym (caller_left c.args.stack.now c.args.state.now.context c.step_in_place.new.context c.args.signal f same (omega arith)
    (sym (c.step_in_place.ensures.caller c.if-not-step_in_place.false f.run row)))
