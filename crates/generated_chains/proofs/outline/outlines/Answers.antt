use Rattle.std.proofs.Common.{arith}
use Rattle.generated_chains.specs.Outlines.{outlines}
use Rattle.generated_chains.proofs.outline.outlines.Goals as goal
use Rattle.generated_chains.proofs.Loops.{outlines_step, all_made, numbered_made, length_made}

pub loop-index-preserved : goal.loop-index-preserved
loop-index-preserved c =
    outlines_step (outlines c.args.seed c.args.count) c.loop-index.made.items c.push.new.self.items c.loop-index.x c.following-x.result c.loop-index.index c.args.count c.kind_of.result c.handling_of.result (omega arith) c.following-x.ensures c.kind_of.ensures c.handling_of.ensures c.in_ok-push.ensures.items c.loop-index.invariant

pub returns-clause-numbered : goal.returns-clause-numbered
returns-clause-numbered c = numbered_made c.args.seed c.args.count c.loop-index.made.items (all_made c.args.seed c.loop-index.x c.loop-index.index c.args.count c.loop-index.made.items (omega arith) c.loop-index.invariant)

pub returns-clause-len : goal.returns-clause-len
returns-clause-len c = length_made c.args.seed c.args.count c.loop-index.made.items (all_made c.args.seed c.loop-index.x c.loop-index.index c.args.count c.loop-index.made.items (omega arith) c.loop-index.invariant)
