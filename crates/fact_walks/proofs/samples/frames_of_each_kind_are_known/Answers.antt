use Rattle.frame_facts_laws.proofs.SampleChains.{overwritten_chain, popped_chain, outer_chain}
use Rattle.fact_walks.proofs.samples.frames_of_each_kind_are_known.Goals as goal

pub returns-clause-prologue : goal.returns-clause-prologue
returns-clause-prologue c = overwritten_chain.0

pub returns-clause-epilogue : goal.returns-clause-epilogue
returns-clause-epilogue c = popped_chain.0

pub returns-clause-part : goal.returns-clause-part
returns-clause-part c = outer_chain.0

pub returns-clause-pushed_arguments : goal.returns-clause-pushed_arguments
returns-clause-pushed_arguments c = outer_chain.1.1.0

pub returns-clause-realigned : goal.returns-clause-realigned
returns-clause-realigned c = outer_chain.1.1.1.0

pub returns-clause-start : goal.returns-clause-start
returns-clause-start c = outer_chain.1.1.1.1.1.0
