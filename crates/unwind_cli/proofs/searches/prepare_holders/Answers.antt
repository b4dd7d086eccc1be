use Rattle.unwind_cli.proofs.Indexes.{same_indexes}
use Rattle.unwind_cli.proofs.searches.prepare_holders.Goals as goal

pub loop-i-init : goal.loop-i-init
loop-i-init c = same_indexes c.args.space.now
