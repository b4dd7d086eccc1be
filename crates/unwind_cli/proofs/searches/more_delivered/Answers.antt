use Rattle.unwind_cli.proofs.Indexes.{same_indexes}
use Rattle.unwind_cli.proofs.searches.more_delivered.Goals as goal

pub returns-in_err-bytes-clause-same : goal.returns-in_err-bytes-clause-same
returns-in_err-bytes-clause-same c = same_indexes c.args.space.now
