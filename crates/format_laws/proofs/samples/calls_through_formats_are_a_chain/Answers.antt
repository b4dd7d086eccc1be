use Rattle.format_laws.proofs.Valid.{laid_out, innermost, is_chain}
use Rattle.format_laws.proofs.samples.calls_through_formats_are_a_chain.Goals as goal

pub returns-clause-memory : goal.returns-clause-memory
returns-clause-memory c = laid_out

pub returns-clause-chain : goal.returns-clause-chain
returns-clause-chain c = is_chain

pub returns-clause-step : goal.returns-clause-step
returns-clause-step c = innermost
