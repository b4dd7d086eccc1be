use Rattle.unwind_laws.proofs.OneChain.{one_chain}
use Rattle.unwind_laws.proofs.chains.chain_is_one.Goals as goal

pub returns : goal.returns
returns c p functions s calls more is alone x y = one_chain p is.apart functions alone s calls more x y
