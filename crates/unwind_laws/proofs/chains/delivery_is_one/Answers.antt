use Rattle.unwind_laws.proofs.OneChain.{chains_alike, same_states, same_delivery}
use Rattle.unwind_laws.proofs.chains.delivery_is_one.Goals as goal

pub returns-clause-states : goal.returns-clause-states
returns-clause-states c p functions others s calls more is x y = same_states s calls more (chains_alike p is.apart functions others s calls more x y)

pub returns-clause-delivery : goal.returns-clause-delivery
returns-clause-delivery c p functions others s calls more exception is x y = same_delivery exception s calls more (chains_alike p is.apart functions others s calls more x y)
