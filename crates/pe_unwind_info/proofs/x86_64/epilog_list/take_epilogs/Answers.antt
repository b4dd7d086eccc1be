use Rattle.std.proofs.Common.{◌≡◌, ◌∙◌, sym, false, ◌∷◌}
use Rattle.pe_unwind_info.specs.Operations.{operations_left, size_of_epilogs}
use Rattle.pe_unwind_info.specs.EpilogList.{lists_last, leading_epilogs}
use Rattle.pe_unwind_info.proofs.EpilogListLemmas.{leading_some}
use Rattle.pe_unwind_info.proofs.x86_64.epilog_list.take_epilogs.Goals as goal

pub returns-else-lists_last-clause-due : goal.returns-else-lists_last-clause-due
returns-else-lists_last-clause-due c =
    let first = c.in-Some.ensures.rest in
    let leading : leading_epilogs (operations_left c.args.operations.now) ≡ c.in-Some.first ∷ leading_epilogs (operations_left c.next_epilog.new.operations) = leading_some _ _ first.0 _ first.1 in
    let unlisted : lists_last c.args.end c.args.address c.in-Some.first ≡ false = sym c.lists_last.ensures ∙ c.if-lists_last.false in
    let size : c.epilog_size-size.result ≡ size_of_epilogs c.in-Some.first = cc in
    rw (leading, unlisted) (rw (sym size) c.take_later_epilogs-later.ensures.listed)
