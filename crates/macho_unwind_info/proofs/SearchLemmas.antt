-- Searches in sorted lists.
use Rattle.std.proofs.Common.{◌≡◌, ℕ, List, map, Option, Some, None, ap, sym, ◌∙◌, get_or}
use Rattle.std.specs.Prelude.{slice_get, option_map, unwrap_or}
use Rattle.std.proofs.lemmas.Option.{slice_get-map, get_or_from_slice_get, unwrap_or-slice_get}

-- the key of the record at an index
pub key_of_record : {T : Type 0} (key : T → ℕ) (xs : List T) (i : ℕ) (x : T) → slice_get xs i ≡ Some x → get_or (map key xs) i 0 ≡ key x
key_of_record key xs i x e = get_or_from_slice_get (map key xs) i (key x) 0 (slice_get-map key xs i ∙ ap (option_map key) e)

-- the key where there is no record
pub key_of_none : {T : Type 0} (key : T → ℕ) (xs : List T) (i : ℕ) → slice_get xs i ≡ None → get_or (map key xs) i 0 ≡ 0
key_of_none key xs i e = sym (unwrap_or-slice_get (map key xs) i 0) ∙ ap (λ (o : Option ℕ). unwrap_or o 0) (slice_get-map key xs i ∙ ap (option_map key) e)
