use Rattle.std.proofs.Common.{◌≡◌, [], refl, sym, ◌∙◌}
use Rattle.macho_unwind_info.proofs.IterationLemmas.{none_left, none_left_after}
use Rattle.macho_unwind_info.proofs.function_iter.FunctionIter.next.Goals as goal
use Rattle.macho_unwind_info.proofs.function_iter.FunctionIter.next.Goals.{In_default-first_two}

nothing : (c : In_default-first_two) → c.args.self.now ≡ []
nothing c =
    let i = c.pages.self-inside in
    sym c.self.view_is ∙ sym c.pages.invariant ∙ none_left i.bytes.now i.global_opcodes i.page i.pages c.in_default.ensures.first c.in_default-first_two.ensures.few

pub returns-in_default-first_two-clause-answer : goal.returns-in_default-first_two-clause-answer
returns-in_default-first_two-clause-answer c = rw (nothing c) refl

pub returns-in_default-first_two-clause-rest : goal.returns-in_default-first_two-clause-rest
returns-in_default-first_two-clause-rest c =
    let i = c.pages.self-inside in
    rw (nothing c) (none_left_after i.bytes.now i.global_opcodes i.page c.take_first.new.page i.pages c.in_default.ensures.first c.in_default.ensures.rest c.in_default-first_two.ensures.few)
