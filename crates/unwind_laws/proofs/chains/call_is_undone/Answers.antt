use Rattle.unwind_laws.proofs.Walk.{one_step}
use Rattle.unwind_laws.proofs.chains.call_is_undone.Goals as goal

pub returns : goal.returns
returns c p evaluates functions a s k columns can shows = one_step p evaluates functions a s k columns can shows
