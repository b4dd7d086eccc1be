-- Members that are taken out of an object.
use Rattle.std.proofs.Common.{◌≡◌, ℕ, List, Option, None, String, BTreeMap, Global, string_bytes, string_cmp, nat_cmp, false, ap, ◌∙◌}
use Rattle.std.specs.BTreeMap.{UpdatesBy, get_by_text}
use Rattle.std.specs.Cmp.Lexicographic.{slice_cmp}
use Rattle.std.specs.Option.{option_map}
use Rattle.std.specs.Str.{bytes_eq}
use Rattle.std.proofs.lemmas.Map.Text.{btree_map_updates_text}
use Rattle.serde_json.specs.Find.{get}
use Rattle.serde_json.specs.View.{view}
use Rattle.serde_json.specs.declared.value.Value.{Value, Object}
use Rattle.serde_json.proofs.Views.{view-Object, view-lookup}

-- what a map has at a name is what the object has there
pub member_at : (name : List ℕ) (v : Value) (m : BTreeMap (String Global) Value) (r : Option Value) → v ≡ Object m → r ≡ get_by_text m name → option_map view r ≡ get name (view v)
member_at name v m r is at = rw (is, view-Object m) (ap (option_map view) at ∙ view-lookup name m.entries)

-- so it has after another member was taken
pub member_left : (name other : List ℕ) (v : Value) (m n : BTreeMap (String Global) Value) (r : Option Value) → v ≡ Object m
    → UpdatesBy string_cmp (λ k. slice_cmp nat_cmp other (string_bytes k)) m n None → bytes_eq other name ≡ false → r ≡ get_by_text n name → option_map view r ≡ get name (view v)
member_left name other v m n r is taken apart at =
    member_at name v m r is (at ∙ (btree_map_updates_text other m n None taken name ∙ rw apart))
