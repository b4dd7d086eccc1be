-- Entries whose pads ascend: what a search among them finds, and one more after them.
use Rattle.std.proofs.Common.{◌≡◌, ℕ, zero, suc, ◌+◌, ◌-◌, ◌<◌, ◌≤◌, ◌≢◌, List, [], ◌∷◌, ◌++◌, length, get_or, slice_get, Option, Some, None, Result, Ok, Err, refl, sym, ap, ◌∙◌, arith}
use Rattle.std.specs.List.Sorted.{IsSearchInRange, IsBinarySearchResult, IsNonDecreasingBy}
use Rattle.std.specs.Ordering.{nat_cmp, ordering_index}
use Rattle.std.proofs.lemmas.Cmp.{ranked}
use Rattle.std.proofs.lemmas.List.{get_or_append_left, length-append}
use Rattle.std.proofs.lemmas.Option.{get_or_from_slice_get}
use Rattle.std.proofs.Math.Seq.{get_or-append_seam}
use Rattle.std.proofs.lemmas.List.Sorted.{IsNonDecreasingBy-from_default}
use Rattle.std.proofs.lemmas.Bool.{le-ltb, ne_eqb}
use Rattle.std.proofs.lemmas.Bool.Decides.{nat_tests}
use Rattle.stack_deliver.specs.Resumes.{return_of, by_pad, with_resume, pad_at, Ascend, LieBelow}

-- no entry before a place has the pad
abbrev NoneBefore : List (ℕ × ℕ) → ℕ → ℕ → Type 0
NoneBefore es pad i = (j : ℕ) → j < i → pad_at es j ≢ pad

none_in_tail : (e : ℕ × ℕ) (es : List (ℕ × ℕ)) (pad i : ℕ) → NoneBefore (e ∷ es) pad (suc i) → NoneBefore es pad i
none_in_tail e es pad i none j lt = none (suc j) (omega arith)

none_found : (es : List (ℕ × ℕ)) (pad : ℕ) → NoneBefore es pad (length es) → return_of es pad ≡ None
none_found [] pad none = refl
none_found (e ∷ es) pad none = grind (arith, nat_tests, none 0 (omega arith), none_found es pad (none_in_tail e es pad _ none))

first_found : (es : List (ℕ × ℕ)) (pad i : ℕ) → i < length es → pad_at es i ≡ pad → NoneBefore es pad i → return_of es pad ≡ Some (get_or es i (0, 0)).1
first_found [] pad i lt is none = absurd (omega arith)
first_found (e ∷ es) pad zero lt is none = grind (arith, nat_tests, is)
first_found (e ∷ es) pad (suc i) lt is none = grind (arith, nat_tests, none 0 (omega arith), first_found es pad i (omega arith) is (none_in_tail e es pad i none))

-- what is found where a search among ascending pads ended
abbrev pub found_at : List (ℕ × ℕ) → Result ℕ ℕ → Option ℕ
found_at es (Ok i) = Some (get_or es i (0, 0)).1
found_at es (Err i) = None

module _ (es : List (ℕ × ℕ)) (ascend : Ascend es) (pad : ℕ) where
  comparisons_rise : IsNonDecreasingBy (λ e. ordering_index (nat_cmp e.0 pad)) es
  comparisons_rise = IsNonDecreasingBy-from_default (λ e. ordering_index (nat_cmp e.0 pad)) es (0, 0) (λ i j le in_range.
      let rise : pad_at es i ≤ pad_at es j = grind (arith, ascend i j, λ (same : i ≡ j). ap (pad_at es) same) in
      grind (arith, nat_tests))

  pub sought : (r : Result ℕ ℕ) → IsSearchInRange r (length es) → IsBinarySearchResult (λ e. nat_cmp e.0 pad) es r → return_of es pad ≡ found_at es r
  sought (Ok i) in_range equal =
      let is : pad_at es i ≡ pad = ranked _ pad _ (sym (equal (0, 0))) in
      first_found es pad i in_range is (λ j lt same. omega (arith, ascend j i lt in_range, is))
  sought (Err i) in_range parted = none_found es pad (λ j lt same.
      let sides = parted comparisons_rise in
      let lower : j < i → pad_at es j < pad = λ before. ranked _ pad _ (sym (sides.0 j (0, 0) (omega arith) before)) in
      let higher : i ≤ j → pad < pad_at es j = λ after. ranked _ pad _ (sym (sides.1 j (0, 0) after lt)) in
      grind (arith, lower, higher))

  pub found_by_key : (r s : Result ℕ ℕ) → IsSearchInRange r (length es) → IsBinarySearchResult (λ e. nat_cmp e.0 pad) es r → r ≡ s → return_of es pad ≡ found_at es s
  found_by_key r s in_range position is = sought r in_range position ∙ ap (found_at es) is

-- what the last one lies below, all do
each_below : (es : List (ℕ × ℕ)) (pad : ℕ) → ((i : ℕ) → i < length es → pad_at es i < pad) → LieBelow pad es
each_below [] pad below = tt
each_below (e ∷ es) pad below = (below 0 (omega arith), each_below es pad (λ i lt. below (suc i) (omega arith)))

pub all_below : (es : List (ℕ × ℕ)) (pad : ℕ) (last : ℕ × ℕ) → Ascend es → Some last ≡ slice_get es (length es - 1) → last.0 < pad → LieBelow pad es
all_below [] pad last ascend is lt = tt
all_below (e ∷ es) pad last ascend is lt =
    let i : ℕ = length (e ∷ es) - 1 in
    let at : pad_at (e ∷ es) i ≡ last.0 = ap (λ (e : ℕ × ℕ). e.0) (get_or_from_slice_get (e ∷ es) i last (0, 0) (sym is)) in
    each_below (e ∷ es) pad (λ j within. grind (arith, ascend j i, at, λ (same : j ≡ i). ap (pad_at (e ∷ es)) same))

below_at : (es : List (ℕ × ℕ)) (pad i : ℕ) → LieBelow pad es → i < length es → pad_at es i < pad
below_at [] pad i below lt = absurd (omega arith)
below_at (e ∷ es) pad zero below lt = below.0
below_at (e ∷ es) pad (suc i) below lt = below_at es pad i below.1 (omega arith)

pub ascend_further : (es : List (ℕ × ℕ)) (pad ret : ℕ) → Ascend es → LieBelow pad es → Ascend (es ++ (pad, ret) ∷ [])
ascend_further es pad ret ascend below i j lt within =
    let new : List (ℕ × ℕ) = es ++ (pad, ret) ∷ [] in
    let len : length new ≡ length es + 1 = length-append es ((pad, ret) ∷ []) in
    let first : pad_at new i ≡ pad_at es i = ap (λ (e : ℕ × ℕ). e.0) (get_or_append_left es ((pad, ret) ∷ []) (0, 0) i (omega arith)) in
    let inner : j < length es → pad_at new j ≡ pad_at es j = λ l. ap (λ (e : ℕ × ℕ). e.0) (get_or_append_left es ((pad, ret) ∷ []) (0, 0) j l) in
    let last : j ≡ length es → pad_at new j ≡ pad = λ same. rw same (ap (λ (e : ℕ × ℕ). e.0) (get_or-append_seam es (pad, ret) [] (0, 0))) in
    grind (arith, first, inner, last, ascend i j, below_at es pad i below)

none_yet : (es : List (ℕ × ℕ)) (pad : ℕ) → LieBelow pad es → return_of es pad ≡ None
none_yet [] pad below = refl
none_yet (e ∷ es) pad below = rw (ne_eqb e.0 pad (λ same. absurd (omega (arith, below.0)))) (none_yet es pad below.1)

put_last : (es : List (ℕ × ℕ)) (pad ret : ℕ) → LieBelow pad es → by_pad es pad ret ≡ es ++ (pad, ret) ∷ []
put_last [] pad ret below = refl
put_last (e ∷ es) pad ret below = rw (le-ltb pad e.0 (omega (arith, below.0))) (ap (λ ds. e ∷ ds) (put_last es pad ret below.1))

-- an entry of a pad above all is the last one
pub added_last : (es : List (ℕ × ℕ)) (pad ret : ℕ) → LieBelow pad es → with_resume es pad ret ≡ es ++ (pad, ret) ∷ []
added_last es pad ret below = rw (none_yet es pad below) (put_last es pad ret below)
