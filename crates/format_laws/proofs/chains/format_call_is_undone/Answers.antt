use Rattle.format_laws.proofs.Steps.{call_undone}
use Rattle.format_laws.proofs.chains.format_call_is_undone.Goals as goal

pub returns : goal.returns
returns c' = λ image modules functions a s c columns can shows. call_undone image modules functions a s c columns can shows
