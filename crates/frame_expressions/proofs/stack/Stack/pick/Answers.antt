use Rattle.frame_expressions.proofs.Stacks.{pick-short, pick-stacked}
use Rattle.frame_expressions.proofs.stack.Stack.pick.Goals as goal

pub returns-then-below-self : goal.returns-then-below-self
returns-then-below-self c = pick-short c.self.inside.words c.args.self.now c.self.inside.length c.args.below c.self.view_is c.if-below-self.true

pub returns : goal.returns
returns c = pick-stacked c.self.inside.words c.args.self.now c.self.inside.length c.args.below c.push.result c.push.new.self c.self.view_is c.if-below-self.false c.push.ensures
