use Rattle.unwind_laws.proofs.Ran.{running_says}
use Rattle.unwind_laws.proofs.rows.running_says_row.Goals as goal

pub returns : goal.returns
returns c start common own fine = running_says start common own fine
