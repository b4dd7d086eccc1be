use Rattle.std.proofs.Common.{◌≡◌, drop}
use Rattle.serde_json.specs.View.{items_view, members_view}
use Rattle.serde_json.specs.Written.{items_have_float, members_have_float}
use Rattle.stack_snapshot.proofs.fields.+floats.Given as goal

abbrev pub invariant-any_has_float-loop-item : goal.invariant-any_has_float-loop-item
invariant-any_has_float-loop-item l =
    items_have_float (items_view (drop l.item-index l.item-items)) ≡ items_have_float (items_view l.item-items)

abbrev pub invariant-any_member_has_float-loop-key : goal.invariant-any_member_has_float-loop-key
invariant-any_member_has_float-loop-key l =
    members_have_float (members_view l._key-iterator) ≡ members_have_float (members_view l.initial._key-iterator)
