use Rattle.delivery_laws.proofs.Starts.{macho_body_starts, pe_body_starts, pe_prologue_starts}
use Rattle.delivery_laws.proofs.formats.stops_in_formats_start_walks.Goals as goal

pub returns-clause-macho_body : goal.returns-clause-macho_body
returns-clause-macho_body c = macho_body_starts

pub returns-clause-pe_body : goal.returns-clause-pe_body
returns-clause-pe_body c = pe_body_starts

pub returns-clause-pe_prologue : goal.returns-clause-pe_prologue
returns-clause-pe_prologue c = pe_prologue_starts
