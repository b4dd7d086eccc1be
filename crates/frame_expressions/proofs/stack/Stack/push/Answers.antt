use Rattle.std.proofs.Common.{◌<◌, sym, arith}
use Rattle.frame_expressions.proofs.Stacks.{push-stacked}
use Rattle.frame_expressions.proofs.stack.Stack.push.Goals as goal

pub returns : goal.returns
returns c =
    let room : c.self.inside.length < 64 = omega (arith, c.self.invariant) in
    rw (sym c.self.view_is) (push-stacked c.self.inside.words c.self.inside.length c.args.word c.self.told room)
