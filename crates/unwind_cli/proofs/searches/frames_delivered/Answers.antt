use Rattle.unwind_cli.proofs.Indexes.{same_indexes}
use Rattle.unwind_cli.proofs.searches.frames_delivered.Goals as goal

pub returns-in_err-room : goal.returns-in_err-room
returns-in_err-room c = same_indexes c.args.space.now

pub returns-in_default : goal.returns-in_default
returns-in_default c = same_indexes c.args.space.now
