use Rattle.pe_unwind_info.proofs.HandlerLemmas.{data_at_offset}
use Rattle.pe_unwind_info.proofs.x86_64.handler_laws.handler_data_stands_at_its_offset.Goals as goal

pub returns : goal.returns
returns c = λ bytes info address after parsed is. data_at_offset bytes info address after parsed is
