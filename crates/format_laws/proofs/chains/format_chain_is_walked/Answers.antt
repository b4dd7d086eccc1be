use Rattle.format_laws.proofs.Steps.{chain_walked}
use Rattle.format_laws.proofs.chains.format_chain_is_walked.Goals as goal

pub returns : goal.returns
returns c' = λ image modules functions s calls columns is shows. chain_walked image modules functions s calls columns is shows
