use Rattle.std.proofs.Common.{◌≡◌, drop}
use Rattle.serde_json.specs.View.{items_view}
use Rattle.fact_claims.specs.Claims.{keeps}
use Rattle.fact_claims.proofs.reading.keeps.Given as goal

abbrev pub invariant-loop-item : goal.invariant-loop-item
invariant-loop-item l = keeps l.name (items_view (drop l.item-index l.items)) ≡ keeps l.name (items_view l.items)
