use Rattle.format_samples.proofs.MachoEnds.{is_process, uncovered_end, ends}
use Rattle.format_samples.proofs.macho.stack_ends_in_a_macho_module.Goals as goal

pub returns-clause-process : goal.returns-clause-process
returns-clause-process c = is_process

pub returns-clause-uncovered : goal.returns-clause-uncovered
returns-clause-uncovered c = uncovered_end

pub returns-clause-chain : goal.returns-clause-chain
returns-clause-chain c = ends
