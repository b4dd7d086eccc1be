use Rattle.stack_deliver.proofs.FirstEntry.{table_first}
use Rattle.stack_deliver.proofs.resumes.first_entry_counts.Goals as goal

pub returns : goal.returns
returns c = table_first
