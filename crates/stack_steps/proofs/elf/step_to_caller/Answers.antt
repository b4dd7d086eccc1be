use Rattle.std.proofs.Common.{arith}
use Rattle.stack_steps.proofs.StepParts.{caller_left}
use Rattle.stack_steps.proofs.elf.step_to_caller.Goals as goal

pub returns-in-Ok-clause-caller : goal.returns-in-Ok-clause-caller
returns-in-Ok-clause-caller c f row same = caller_left c.args.stack.now c.args.callee.now c.write_caller.new.caller c.args.signal f same (omega arith) (rw c.seek.ensures at c.in-Ok.ensures.caller f.run row)
