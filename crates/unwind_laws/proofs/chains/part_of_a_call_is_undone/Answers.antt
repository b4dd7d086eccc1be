use Rattle.unwind_laws.proofs.Walk.{step_inside}
use Rattle.unwind_laws.proofs.chains.part_of_a_call_is_undone.Goals as goal

pub returns : goal.returns
returns c p evaluates functions done later s k columns can shows = step_inside p evaluates functions done later s k columns can shows
