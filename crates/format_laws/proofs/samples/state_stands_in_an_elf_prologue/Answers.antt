use Rattle.format_laws.proofs.ElfValid.{is_function, described, stands}
use Rattle.format_laws.proofs.samples.state_stands_in_an_elf_prologue.Goals as goal

pub returns-clause-function : goal.returns-clause-function
returns-clause-function c = is_function

pub returns-clause-described : goal.returns-clause-described
returns-clause-described c = described

pub returns-clause-stands : goal.returns-clause-stands
returns-clause-stands c = stands
