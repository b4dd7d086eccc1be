-- One more frame in its place.
use Rattle.std.proofs.Common.{◌≡◌, ℕ, ◌+◌, ◌<◌, List, [], ◌∷◌, ◌++◌, length, map, take, drop, set, get_or, refl, sym, ap, ◌∙◌, arith}
use Rattle.std.specs.Prelude.{Some, slice_get}
use Rattle.std.proofs.lemmas.Grind.{take-set_at}
use Rattle.std.proofs.lemmas.Option.{get_or_from_slice_get}
use Rattle.std.proofs.lemmas.List.{map_more, drop-set-lt, drop-drop}

pub got : {X : Type 0} → (xs : List X) (i : ℕ) (x : X) → slice_get xs i ≡ Some x → get_or xs i x ≡ x
got xs i x e = get_or_from_slice_get xs i x x e

pub front_more : {X Y : Type 0} → (f : X → Y) (xs : List X) (ys : List Y) (i : ℕ) (x : X) → i < length xs → i < length ys → get_or xs i x ≡ x → take i ys ≡ map f (take i xs) → take (i + 1) (set ys i (f x)) ≡ map f (take (i + 1) xs)
front_more f xs ys i x a b e h = take-set_at ys i (i + 1) (f x) refl b ∙ ap (λ zs. zs ++ f x ∷ []) h ∙ sym (map_more f xs i x a ∙ ap (λ z. map f (take i xs) ++ f z ∷ []) e)

pub rest_more : {X : Type 0} → (ys zs : List X) (i : ℕ) (y : X) → drop i ys ≡ drop i zs → drop (i + 1) (set ys i y) ≡ drop (i + 1) zs
rest_more ys zs i y h = drop-set-lt (i + 1) ys i y (omega arith) ∙ sym (drop-drop 1 i ys) ∙ ap (drop 1) h ∙ drop-drop 1 i zs
