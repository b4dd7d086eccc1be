use Rattle.format_samples.proofs.MachoWhole.{is_process, described}
use Rattle.format_samples.proofs.macho.macho_module_with_frame_data_is_described.Goals as goal

pub returns-clause-process : goal.returns-clause-process
returns-clause-process c = is_process

pub returns-clause-described : goal.returns-clause-described
returns-clause-described c = described
