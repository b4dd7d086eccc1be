use Rattle.std.proofs.Common.{◌≡◌, drop}
use Rattle.serde_json.specs.View.{items_view}
use Rattle.stack_snapshot.specs.Snapshot.{each_of}
use Rattle.claim_checks.specs.Functions.{function_in}
use Rattle.claim_checks.proofs.Lists.{with_front}
use Rattle.claim_checks.proofs.claimed.function_list.Given as goal

abbrev pub invariant-loop-item : goal.invariant-loop-item
invariant-loop-item l =
    with_front l.claims (each_of function_in (items_view (drop l.item-index l.items))) ≡ each_of function_in (items_view l.items)
