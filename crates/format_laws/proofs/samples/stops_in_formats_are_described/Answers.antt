use Rattle.format_laws.proofs.Stops.{macho_body, room_described, pe_body, pe_prologue, outer_described}
use Rattle.format_laws.proofs.samples.stops_in_formats_are_described.Goals as goal

pub returns-clause-macho_body : goal.returns-clause-macho_body
returns-clause-macho_body c = macho_body

pub returns-clause-macho_chain : goal.returns-clause-macho_chain
returns-clause-macho_chain c = room_described

pub returns-clause-pe_body : goal.returns-clause-pe_body
returns-clause-pe_body c = pe_body

pub returns-clause-pe_prologue : goal.returns-clause-pe_prologue
returns-clause-pe_prologue c = pe_prologue

pub returns-clause-pe_chain : goal.returns-clause-pe_chain
returns-clause-pe_chain c = outer_described
