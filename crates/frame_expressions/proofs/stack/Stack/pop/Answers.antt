use Rattle.std.proofs.Common.{◌-◌, arith}
use Rattle.frame_expressions.proofs.Stacks.{length-stacked}
use Rattle.frame_expressions.proofs.stack.Stack.pop.Goals as goal

pub returns-clause-room : goal.returns-clause-room
returns-clause-room c = rw (length-stacked c.self.inside.words (c.self.inside.length - 1)) (omega arith)
