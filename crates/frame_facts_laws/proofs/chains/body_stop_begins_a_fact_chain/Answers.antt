use Rattle.frame_facts_laws.proofs.FromFunctions.{body_stop_facts}
use Rattle.frame_facts_laws.proofs.chains.body_stop_begins_a_fact_chain.Goals as goal

pub returns : goal.returns
returns c p functions s k calls words nonzero can is = body_stop_facts p functions s k calls words nonzero can is
