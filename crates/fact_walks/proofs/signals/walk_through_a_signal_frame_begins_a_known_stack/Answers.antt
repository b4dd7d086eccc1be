use Rattle.frame_facts_laws.proofs.SignalFacts.{link_in_restore}
use Rattle.fact_walks.proofs.SignalStarts.{laid_out, lie_apart, general_registers, no_signals, handler_starts}
use Rattle.fact_walks.proofs.signals.walk_through_a_signal_frame_begins_a_known_stack.Goals as goal

pub returns-clause-laid_out : goal.returns-clause-laid_out
returns-clause-laid_out c = laid_out

pub returns-clause-apart : goal.returns-clause-apart
returns-clause-apart c = lie_apart

pub returns-clause-frame : goal.returns-clause-frame
returns-clause-frame c = link_in_restore

pub returns-clause-registers : goal.returns-clause-registers
returns-clause-registers c = general_registers

pub returns-clause-calls : goal.returns-clause-calls
returns-clause-calls c = no_signals

pub returns-clause-starts : goal.returns-clause-starts
returns-clause-starts c = handler_starts
