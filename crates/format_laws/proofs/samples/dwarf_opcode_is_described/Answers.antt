use Rattle.format_laws.proofs.MachoValid.{dwarf_described, dwarf_entered}
use Rattle.format_laws.proofs.samples.dwarf_opcode_is_described.Goals as goal

pub returns-clause-described : goal.returns-clause-described
returns-clause-described c = dwarf_described

pub returns-clause-entered : goal.returns-clause-entered
returns-clause-entered c = dwarf_entered
