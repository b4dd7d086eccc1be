use Rattle.std.proofs.Common.{◌≡◌, drop}
use Rattle.serde_json.specs.View.{items_view}
use Rattle.stack_snapshot.specs.Snapshot.{each_of}
use Rattle.claim_checks.specs.Functions.{site_of}
use Rattle.claim_checks.proofs.Lists.{with_front}
use Rattle.claim_checks.proofs.functions.site_list.Given as goal

abbrev pub invariant-loop-item : goal.invariant-loop-item
invariant-loop-item l =
    with_front l.sites.items (each_of site_of (items_view (drop l.item-index l.items))) ≡ each_of site_of (items_view l.items)
