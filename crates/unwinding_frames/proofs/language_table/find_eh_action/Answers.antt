use Rattle.std.proofs.Common.{◌≡◌, sym, ap, ◌∙◌}
use Rattle.std.specs.Option.{unwrap_or}
use Rattle.unwind_definitions.specs.LanguageSearch.{address_of_call, language_action, table_action}
use Rattle.fde_finders.specs.Finding.{FoundFde}
use Rattle.unwinding_frames.specs.LanguageViews.{action_of, answer_seen}
use Rattle.unwinding_frames.proofs.First.{result_asks}
use Rattle.unwinding_frames.proofs.language_table.find_eh_action.Goals as goal

pub returns-clause-action : goal.returns-clause-action
returns-clause-action g c ra is =
    let same : c.return_address.result ≡ ra = ap (λ o. unwrap_or o 0) (sym c.return_address.ensures ∙ is) in
    let asked : c.address_asked-address.result ≡ address_of_call ra c.args.signal = rw (← same) c.address_asked-address.ensures in
    let at : answer_seen action_of c.eh_action_of.result ≡ language_action c.args.image.now c.args.frame.now.found.bases c.args.frame.now.found.fde c.address_asked-address.result =
    c.eh_action_of.ensures ∙ ap (λ (found : FoundFde). language_action c.args.image.now found.bases found.fde c.address_asked-address.result) c.found.ensures in
    rw (← asked) at

pub returns-clause-placed : goal.returns-clause-placed
returns-clause-placed g c ra is p at = returns-clause-action g c ra is ∙ ap (table_action c.args.image.now (address_of_call ra c.args.signal)) at

pub returns-clause-first : goal.returns-clause-first
returns-clause-first g c ra is =
    result_asks c.args.image.now c.args.frame.now.found.bases c.args.frame.now.found.fde (address_of_call ra c.args.signal) c.eh_action_of.result (returns-clause-action g c ra is)
