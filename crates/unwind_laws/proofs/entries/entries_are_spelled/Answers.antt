use Rattle.unwind_laws.proofs.EntriesRead.{entries_read}
use Rattle.unwind_laws.proofs.entries.entries_are_spelled.Goals as goal

pub returns : goal.returns
returns c = entries_read
