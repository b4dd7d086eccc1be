use Rattle.pe_unwind_info.proofs.ChainLemmas.{frame_is_run}
use Rattle.pe_unwind_info.proofs.x86_64.laws.frame_is_one_run.Goals as goal

pub returns : goal.returns
returns c = λ memory stack address function regs first chained reads links quiet. frame_is_run memory stack address function regs first chained reads links quiet
