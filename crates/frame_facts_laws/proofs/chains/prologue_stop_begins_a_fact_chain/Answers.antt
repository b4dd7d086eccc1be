use Rattle.frame_facts_laws.proofs.FromFunctions.{prologue_stop_facts}
use Rattle.frame_facts_laws.proofs.chains.prologue_stop_begins_a_fact_chain.Goals as goal

pub returns : goal.returns
returns c p functions done later s k calls words nonzero can is = prologue_stop_facts p functions done later s k calls words nonzero can is
