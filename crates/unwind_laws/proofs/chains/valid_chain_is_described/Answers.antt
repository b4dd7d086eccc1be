use Rattle.unwind_laws.proofs.Walk.{valid_described}
use Rattle.unwind_laws.proofs.chains.valid_chain_is_described.Goals as goal

pub returns : goal.returns
returns c p start resumes functions s calls valid = valid_described p start resumes functions s calls valid
