use Rattle.std.proofs.Common.{◌+◌, List, drop, ap, sym, ◌∙◌}
use Rattle.serde_json.specs.View.{items_view}
use Rattle.fact_checks.specs.declared.facts.ClaimedFacts.{ClaimedFacts}
use Rattle.fact_claims.specs.Claims.{claims_from}
use Rattle.fact_claims.proofs.Lists.{next_read, with_front}
use Rattle.fact_claims.proofs.reading.claim_list.Goals as goal

pub loop-i-preserved : goal.loop-i-preserved
loop-i-preserved c =
    let items = c.args.items.now in
    let i = c.loop-i.i in
    let read = next_read items i c.index-items-i.result c.loop-i-test.true c.index-items-i.is c.in-Some.claim c.loop-i.claims.items (sym c.claim_in.ensures ∙ c.in-Some.is) in
    ap (λ (front : List ClaimedFacts). with_front front (claims_from (i + 1) (items_view (drop (i + 1) items)))) c.in_ok-push.ensures.items ∙ (read ∙ c.loop-i.invariant)
