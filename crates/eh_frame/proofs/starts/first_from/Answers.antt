use Rattle.eh_frame.proofs.Directory.{one_more_before}
use Rattle.eh_frame.proofs.starts.first_from.Goals as goal

pub loop-i-preserved : goal.loop-i-preserved
loop-i-preserved c = one_more_before c.args.starts.now c.loop-i.i c.args.address c.loop-i.invariant c.if-starts-i.false
