use Rattle.pe_unwind_info.proofs.HandlerLemmas.{handler_is}
use Rattle.pe_unwind_info.proofs.x86_64.handler.handler_of_function.Goals as goal

pub returns-clause-by_memory : goal.returns-clause-by_memory
returns-clause-by_memory g c = λ memory only. handler_is _ memory only c.args.function _ c.handler_in.ensures
