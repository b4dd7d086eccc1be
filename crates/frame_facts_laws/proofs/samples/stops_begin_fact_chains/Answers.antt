use Rattle.std.proofs.Common.{refl}
use Rattle.frame_facts_laws.proofs.SampleFacts.{whole}
use Rattle.frame_facts_laws.proofs.SampleChains.{overwritten_chain, popped_chain, outer_chain}
use Rattle.frame_facts_laws.proofs.samples.stops_begin_fact_chains.Goals as goal

pub returns-clause-process : goal.returns-clause-process
returns-clause-process c = whole

pub returns-clause-prologue : goal.returns-clause-prologue
returns-clause-prologue c = overwritten_chain

pub returns-clause-epilogue : goal.returns-clause-epilogue
returns-clause-epilogue c = popped_chain

pub returns-clause-part : goal.returns-clause-part
returns-clause-part c = outer_chain

pub returns-clause-states : goal.returns-clause-states
returns-clause-states c = refl
