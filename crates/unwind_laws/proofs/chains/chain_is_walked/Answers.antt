use Rattle.unwind_laws.proofs.Walk.{chain_walked}
use Rattle.unwind_laws.proofs.chains.chain_is_walked.Goals as goal

pub returns : goal.returns
returns c p evaluates functions s calls columns is shows = chain_walked p evaluates functions s calls columns is shows
