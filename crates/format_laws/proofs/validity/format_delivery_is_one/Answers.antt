use Rattle.unwind_laws.proofs.OneChain.{same_states, same_delivery}
use Rattle.format_laws.proofs.One.{chains_alike}
use Rattle.format_laws.proofs.validity.format_delivery_is_one.Goals as goal

pub returns-clause-states : goal.returns-clause-states
returns-clause-states c' = λ image modules functions others s calls more is x y. same_states s calls more (chains_alike image modules is.apart functions others s calls more x y)

pub returns-clause-delivery : goal.returns-clause-delivery
returns-clause-delivery c' = λ image modules functions others s calls more exception is x y. same_delivery exception s calls more (chains_alike image modules is.apart functions others s calls more x y)
