use Rattle.std.proofs.Common.{Option, ap, ◌∙◌}
use Rattle.pe_unwind_info.specs.declared.x86_64.function_table.RuntimeFunction.{RuntimeFunction}
use Rattle.pe_unwind_info.specs.Handlers.{handler_of}
use Rattle.pe_unwind_info.proofs.HandlerLemmas.{handler_is}
use Rattle.pe_unwind_info.proofs.x86_64.function_table.FunctionTableEntries.handler.Goals as goal

pub returns-clause-by_memory : goal.returns-clause-by_memory
returns-clause-by_memory g c = λ memory only.
    handler_is _ memory only c.lookup.result _ c.handler_in.ensures
    ∙ ap (λ (function : Option RuntimeFunction). handler_of memory function) c.lookup.ensures.repeats
