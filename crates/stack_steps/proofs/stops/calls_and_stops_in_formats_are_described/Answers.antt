use Rattle.format_laws.proofs.Stops as laws
use Rattle.format_laws.proofs.Valid.{laid_out}
use Rattle.stack_steps.proofs.FormatStopSamples.{apart, called}
use Rattle.stack_steps.proofs.stops.calls_and_stops_in_formats_are_described.Goals as goal

pub returns-clause-laid_out : goal.returns-clause-laid_out
returns-clause-laid_out c = laid_out

pub returns-clause-apart : goal.returns-clause-apart
returns-clause-apart c = apart

pub returns-clause-called : goal.returns-clause-called
returns-clause-called c = called

pub returns-clause-macho_body : goal.returns-clause-macho_body
returns-clause-macho_body c = laws.macho_body

pub returns-clause-pe_body : goal.returns-clause-pe_body
returns-clause-pe_body c = laws.pe_body

pub returns-clause-pe_prologue : goal.returns-clause-pe_prologue
returns-clause-pe_prologue c = laws.pe_prologue

pub returns-clause-before_pop : goal.returns-clause-before_pop
returns-clause-before_pop c = laws.before_pop

pub returns-clause-after_pop : goal.returns-clause-after_pop
returns-clause-after_pop c = laws.after_pop
