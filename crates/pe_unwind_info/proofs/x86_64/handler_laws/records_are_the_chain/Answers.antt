use Rattle.pe_unwind_info.proofs.HandlerLemmas.{chain_is}
use Rattle.pe_unwind_info.proofs.x86_64.handler_laws.records_are_the_chain.Goals as goal

pub returns : goal.returns
returns c = λ memory n function. chain_is memory n function
