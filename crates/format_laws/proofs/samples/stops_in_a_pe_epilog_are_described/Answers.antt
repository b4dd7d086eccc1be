use Rattle.format_laws.proofs.Stops.{epilog_process, before_pop, after_pop, nobody_above}
use Rattle.format_laws.proofs.samples.stops_in_a_pe_epilog_are_described.Goals as goal

pub returns-clause-process : goal.returns-clause-process
returns-clause-process c = epilog_process

pub returns-clause-before : goal.returns-clause-before
returns-clause-before c = before_pop

pub returns-clause-after : goal.returns-clause-after
returns-clause-after c = after_pop

pub returns-clause-chain : goal.returns-clause-chain
returns-clause-chain c = nobody_above
