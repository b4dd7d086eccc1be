-- In an ascending list one record alone is a boundary. What a search by halving answers is one.
use Rattle.std.proofs.Common.{◌≡◌, ℕ, zero, suc, ◌+◌, ◌<◌, ◌≤◌, List, [], ◌∷◌, map, length, Option, Some, None, slice_get, get_or, refl, sym, ap, subst, ◌∙◌, arith, inl, inr}
use Rattle.std.specs.Prelude.{◌⊎◌}
use Rattle.std.specs.Option.{option_map, option_and_then}
use Rattle.std.proofs.lemmas.List.{length-map}
use Rattle.std.proofs.lemmas.Option.{slice_get-map, slice_get_within, get_or_from_slice_get}
use Rattle.memory_image.specs.Halving.{boundary_of}
use Rattle.memory_image.specs.HalvingLaws.{Finds, boundary_of-finds}
use Rattle.pe_unwind_info.specs.Search.{IsBoundary, StartsAbove, IsSearched, boundary_in, IsAscending}

-- a list with a record at an index has one at each lower index
earlier : {T : Type 0} (records : List T) (i j : ℕ) (b : T) → i ≤ j → slice_get records j ≡ Some b → (a : T) × (slice_get records i ≡ Some a)
earlier [] i j b le e = absurd (cc)
earlier (x ∷ xs) zero j b le e = (x, refl)
earlier (x ∷ xs) (suc i) zero b le e = absurd (omega arith)
earlier (x ∷ xs) (suc i) (suc j) b le e = earlier xs i j b (omega arith) e

-- one boundary isn't before another
not_before : {T : Type 0} (start : T → ℕ) (records : List T) (address : ℕ) (a b : T) → IsAscending start records → (p : IsBoundary start records address a) (q : IsBoundary start records address b) → p.index < q.index → ⊥
not_before start records address a b ascending p q lt =
    let next = earlier records (p.index + 1) q.index b (omega arith) q.at in
    let above : address < start next.0 = p.above next.0 next.1 in
    let order : start next.0 ≤ start b = ascending (p.index + 1) q.index next.0 b (omega arith) next.1 q.at in
    let below : start b ≤ address = q.below in
    omega (arith, above, order, below)

some_same : {T : Type 0} (a b : T) → Some a ≡ Some b → a ≡ b
some_same a b e = cc

pub boundary_is_one : {T : Type 0} (start : T → ℕ) (records : List T) (address : ℕ) (a b : T) → IsAscending start records → IsBoundary start records address a → IsBoundary start records address b → a ≡ b
boundary_is_one start records address a b ascending p q = go (compare p.index q.index)
  where
    compare : (i j : ℕ) → (i < j) ⊎ ((j < i) ⊎ (i ≡ j))
    compare zero zero = inr (inr refl)
    compare zero (suc j) = inl (omega arith)
    compare (suc i) zero = inr (inl (omega arith))
    compare (suc i) (suc j) = elim (compare i j) [ inl lt ↦ inl (omega arith) | inr r ↦ elim r [ inl gt ↦ inr (inl (omega arith)) | inr e ↦ inr (inr (ap suc e)) ] ]

    go : (p.index < q.index) ⊎ ((q.index < p.index) ⊎ (p.index ≡ q.index)) → a ≡ b
    go (inl lt) = absurd (not_before start records address a b ascending p q lt)
    go (inr (inl gt)) = absurd (not_before start records address b a ascending q p gt)
    go (inr (inr e)) = some_same a b (sym p.at ∙ ap (slice_get records) e ∙ q.at)

no_boundary : {T : Type 0} (start : T → ℕ) (records : List T) (address : ℕ) (a : T) → IsAscending start records → StartsAbove start records address → IsBoundary start records address a → ⊥
no_boundary start records address a ascending none p =
    let first = earlier records 0 p.index a (omega arith) p.at in
    let above : address < start first.0 = none first.0 first.1 in
    let order : start first.0 ≤ start a = ascending 0 p.index first.0 a (omega arith) first.1 p.at in
    let below : start a ≤ address = p.below in
    omega (arith, above, order, below)

pub searched_is_one : {T : Type 0} (start : T → ℕ) (records : List T) (address : ℕ) (a b : Option T) → IsAscending start records → IsSearched start records address a → IsSearched start records address b → a ≡ b
searched_is_one start records address None None ascending p q = refl
searched_is_one start records address None (Some b) ascending p q = absurd (no_boundary start records address b ascending p q)
searched_is_one start records address (Some a) None ascending p q = absurd (no_boundary start records address a ascending q p)
searched_is_one start records address (Some a) (Some b) ascending p q = ap Some (boundary_is_one start records address a b ascending p q)

-- ---- searches by halving

some_at : {T : Type 0} (records : List T) (i : ℕ) → i < length records → (r : T) × (slice_get records i ≡ Some r)
some_at [] i lt = absurd (omega arith)
some_at (r ∷ records) zero lt = (r, refl)
some_at (r ∷ records) (suc i) lt = some_at records i (omega arith)

-- where the record at an index starts
pub start_of_record : {T : Type 0} (start : T → ℕ) (records : List T) (i : ℕ) (r : T) → slice_get records i ≡ Some r → get_or (map start records) i 0 ≡ start r
start_of_record start records i r e = get_or_from_slice_get (map start records) i (start r) 0 (slice_get-map start records i ∙ ap (option_map start) e)

found_by : {T : Type 0} (start : T → ℕ) (records : List T) (address : ℕ) (place : Option ℕ) → Finds (map start records) address place → IsSearched start records address (option_and_then (slice_get records) place)
found_by start records address None finds = λ first at.
    let inside = slice_get_within records 0 first at in
    let len = length-map records start in
    let key = start_of_record start records 0 first at in
    let above = finds (omega arith) in
    omega arith
found_by {T} start records address (Some i) finds =
    let len = length-map records start in
    let within = finds.within in
    let here = some_at records i (omega arith) in
    subst (IsSearched start records address) (sym here.1) (record {
      index = i;
      at = here.1;
      below = (let key = start_of_record start records i here.0 here.1 in let low = finds.at_or_before in omega arith);
      above = λ next at. (let key = start_of_record start records (i + 1) next at in let inside = slice_get_within records (i + 1) next at in let high = finds.next_after (omega arith) in omega arith);
    })

pub boundary_in-searched : {T : Type 0} (start : T → ℕ) (records : List T) (address : ℕ) → IsSearched start records address (boundary_in start records address)
boundary_in-searched start records address = found_by start records address (boundary_of (map start records) address) (boundary_of-finds (map start records) address)
