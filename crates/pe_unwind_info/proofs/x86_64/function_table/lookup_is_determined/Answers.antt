use Rattle.std.proofs.Common.{◌≡◌, Option, sym, ap, ◌∙◌}
use Rattle.pe_unwind_info.specs.declared.x86_64.function_table.RuntimeFunction.{RuntimeFunction}
use Rattle.pe_unwind_info.specs.FunctionTable.{covering}
use Rattle.pe_unwind_info.proofs.SearchLemmas.{searched_is_one}
use Rattle.pe_unwind_info.proofs.x86_64.function_table.lookup_is_determined.Goals as goal

pub returns : goal.returns
returns c = λ functions address a b ascending p q.
    let same : p.0 ≡ q.0 = searched_is_one (λ (f : RuntimeFunction). f.begin_address) functions address p.0 q.0 ascending p.1 q.1 in
    p.2 ∙ ap (λ (found : Option RuntimeFunction). covering found address) same ∙ sym q.2
