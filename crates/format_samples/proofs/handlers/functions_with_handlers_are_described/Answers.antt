use Rattle.std.proofs.Common.{refl}
use Rattle.format_samples.proofs.HandlersValid.{is_process, valid_from_macho, valid_from_pe}
use Rattle.format_samples.proofs.MachoHandler as macho
use Rattle.format_samples.proofs.PeHandler as pe
use Rattle.format_samples.proofs.handlers.functions_with_handlers_are_described.Goals as goal

pub returns-clause-process : goal.returns-clause-process
returns-clause-process c = is_process

pub returns-clause-macho_function : goal.returns-clause-macho_function
returns-clause-macho_function c = macho.described

pub returns-clause-pe_function : goal.returns-clause-pe_function
returns-clause-pe_function c = pe.described

pub returns-clause-pe_handler : goal.returns-clause-pe_handler
returns-clause-pe_handler c = pe.found

pub returns-clause-from_macho : goal.returns-clause-from_macho
returns-clause-from_macho c = valid_from_macho

pub returns-clause-from_pe : goal.returns-clause-from_pe
returns-clause-from_pe c = valid_from_pe

pub returns-clause-macho_delivery : goal.returns-clause-macho_delivery
returns-clause-macho_delivery c = refl

pub returns-clause-pe_delivery : goal.returns-clause-pe_delivery
returns-clause-pe_delivery c = refl
