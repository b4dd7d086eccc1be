use Rattle.std.proofs.Common.{ap, sym, ◌∙◌, arith}
use Rattle.serde_json.specs.View.{view}
use Rattle.claim_checks.specs.Functions.{site_with}
use Rattle.claim_checks.proofs.Lists.{site_in_other, site_of_four}
use Rattle.claim_checks.proofs.functions.site_in.Goals as goal

pub returns-in-len4 : goal.returns-in-len4
returns-in-len4 c =
    c.site_with-in-len4.ensures ∙ ap (site_with (view c.from-item-then-items-lt5.result) (view c.to-item-then-items-lt5.result)) c.action_with.ensures
    ∙ sym (site_of_four c.args.items.now _ _ _ _ c.in-len4.len_at_least c.in-len4.len_below c.from-item-then-items-lt5.is c.to-item-then-items-lt5.is c.name-item-then-items-lt5.is c.pad-item.is)

pub returns-in_default : goal.returns-in_default
returns-in_default c = sym (site_in_other c.args.items.now (omega arith) (omega arith))

pub returns-in_default-2 : goal.returns-in_default-2
returns-in_default-2 c = sym (site_in_other c.args.items.now (omega arith) (omega arith))
