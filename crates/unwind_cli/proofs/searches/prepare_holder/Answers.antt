use Rattle.unwind_cli.proofs.Indexes.{same_indexes}
use Rattle.unwind_cli.proofs.searches.prepare_holder.Goals as goal

pub returns-in_default : goal.returns-in_default
returns-in_default c = same_indexes c.args.space.now

pub returns-in_default-header_len : goal.returns-in_default-header_len
returns-in_default-header_len c = same_indexes c.args.space.now

pub returns-then-states-bytes : goal.returns-then-states-bytes
returns-then-states-bytes c = same_indexes c.args.space.now
