use Rattle.frame_facts_laws.proofs.FactsAsked.{facts_ask}
use Rattle.frame_facts_laws.proofs.deliveries.description_with_facts_asks.Goals as goal

pub returns : goal.returns
returns c p a facts said x arguments asks = facts_ask p a facts said x arguments asks
