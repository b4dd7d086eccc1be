use Rattle.format_samples.proofs.MachoWhole.{apart, chain}
use Rattle.format_samples.proofs.macho.functions_of_a_chain_share_no_address.Goals as goal

pub returns-clause-apart : goal.returns-clause-apart
returns-clause-apart c = apart

pub returns-clause-chain : goal.returns-clause-chain
returns-clause-chain c = chain
