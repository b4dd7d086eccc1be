use Rattle.unwind_laws.proofs.Walk.{chain_rises}
use Rattle.unwind_laws.proofs.chains.stack_pointers_rise.Goals as goal

pub returns : goal.returns
returns c p functions s calls chain = chain_rises p functions s calls chain
