-- Whole records, one after another, and look-ups in tables that are in order.
use Rattle.std.proofs.Common.{◌≡◌, ℕ, zero, suc, ◌+◌, ◌-◌, ◌/◌, ◌<◌, ◌≤◌, Bool, true, false, eqb, ltb, List, [], ◌∷◌, length, take, drop, slice_get, Option, Some, None, refl, sym, ap, subst, ◌∙◌, arith}
use Rattle.std.specs.Prelude.{Contains}
use Rattle.std.proofs.lemmas.Bool.{eqb-true, ltb-true, lt-ltb}
use Rattle.std.proofs.lemmas.List.{length-drop}
use Rattle.std.proofs.lemmas.Option.{slice_get-get_or, slice_get_within, get_or_from_slice_get}
use Rattle.memory_image.specs.Records.{records_in}
use Rattle.pe_unwind_info.specs.declared.x86_64.function_table.RuntimeFunction.{RuntimeFunction}
use Rattle.pe_unwind_info.specs.Search.{IsBoundary, IsSearched, IsAscending, boundary_in}
use Rattle.pe_unwind_info.specs.FunctionTable.{runtime_function_of, whole_functions, covering, IsLookup, lookup_of, AreOrdered, Holds}
use Rattle.pe_unwind_info.proofs.SearchLemmas.{searched_is_one, boundary_in-searched}

in_list : (n : ℕ) (bytes : List ℕ) → n ≡ suc (n - 1) → records_in 12 runtime_function_of bytes n ≡ runtime_function_of (take 12 bytes) ∷ records_in 12 runtime_function_of (drop 12 bytes) (n - 1)
in_list zero bytes e = absurd (omega arith)
in_list (suc n) bytes e = let f : suc n - 1 ≡ n = omega arith in rw f refl

-- the first of whole records, and the others
pub whole_functions_cons : (bytes : List ℕ) → 12 ≤ length bytes → whole_functions bytes ≡ runtime_function_of (take 12 bytes) ∷ whole_functions (drop 12 bytes)
whole_functions_cons bytes fits =
    let one : length bytes / 12 ≡ suc (length bytes / 12 - 1) = omega arith in
    let shorter : length (drop 12 bytes) ≡ length bytes - 12 = length-drop 12 bytes in
    let fewer : length bytes / 12 - 1 ≡ length (drop 12 bytes) / 12 = omega arith in
    in_list (length bytes / 12) bytes one ∙ ap (λ (n : ℕ). runtime_function_of (take 12 bytes) ∷ records_in 12 runtime_function_of (drop 12 bytes) n) fewer

-- ---- look-ups

abbrev pub begin_of : RuntimeFunction → ℕ
begin_of f = f.begin_address

pub lookup_of-is : (functions : Option (List RuntimeFunction)) (address : ℕ) → IsLookup functions address (lookup_of functions address)
unfolding lookup_of
lookup_of-is None address = refl
lookup_of-is (Some functions) address = (boundary_in begin_of functions address, boundary_in-searched begin_of functions address, refl)

-- ---- tables in order

begins_within : (functions : List RuntimeFunction) (low high : ℕ) → AreOrdered low high functions → (i : ℕ) (f : RuntimeFunction) → slice_get functions i ≡ Some f → (low ≤ f.begin_address) × (f.begin_address < f.end_address)
begins_within [] low high ordered i f at = absurd cc
begins_within (g ∷ functions) low high ordered zero f at =
    let same : g ≡ f = cc in
    subst (λ (h : RuntimeFunction). (low ≤ h.begin_address) × (h.begin_address < h.end_address)) same (ordered.0, ordered.1)
begins_within (g ∷ functions) low high ordered (suc i) f at =
    let later = begins_within functions g.end_address high ordered.3 i f at in
    let a = ordered.0 in let b = ordered.1 in let c = later.0 in
    (omega arith, later.1)

ascending : (functions : List RuntimeFunction) (low high : ℕ) → AreOrdered low high functions → IsAscending begin_of functions
ascending [] low high ordered i j a b le at at' = absurd cc
ascending (f ∷ functions) low high ordered zero zero a b le at at' = let same : f ≡ a = cc in let same' : f ≡ b = cc in let e = ap begin_of (sym same ∙ same') in omega arith
ascending (f ∷ functions) low high ordered zero (suc j) a b le at at' =
    let same : f ≡ a = cc in let e = ap begin_of same in
    let later = begins_within functions f.end_address high ordered.3 j b at' in let c = later.0 in let d = ordered.1 in
    omega arith
ascending (f ∷ functions) low high ordered (suc i) zero a b le at at' = absurd (omega arith)
ascending (f ∷ functions) low high ordered (suc i) (suc j) a b le at at' = ascending functions f.end_address high ordered.3 i j a b (omega arith) at at'

next_begins : (functions : List RuntimeFunction) (low high : ℕ) → AreOrdered low high functions → (i : ℕ) (f next : RuntimeFunction) → slice_get functions i ≡ Some f → slice_get functions (suc i) ≡ Some next → f.end_address ≤ next.begin_address
next_begins [] low high ordered i f next at after = absurd cc
next_begins (g ∷ functions) low high ordered zero f next at after =
    let same : g ≡ f = cc in
    let later = begins_within functions g.end_address high ordered.3 zero next after in
    subst (λ (h : RuntimeFunction). h.end_address ≤ next.begin_address) same later.0
next_begins (g ∷ functions) low high ordered (suc i) f next at after = next_begins functions g.end_address high ordered.3 i f next at after

covers_held : (f : RuntimeFunction) (address : ℕ) → Holds f address → covering (Some f) address ≡ Some f
covers_held f address holds = go (eqb f.begin_address address) refl
  where
    go : (b : Bool) → eqb f.begin_address address ≡ b → covering (Some f) address ≡ Some f
    go true e = rw e refl
    go false e = rw (e, lt-ltb address f.end_address holds.1) refl

pub holder_is_found : (functions : List RuntimeFunction) (low high address : ℕ) (f : RuntimeFunction) → AreOrdered low high functions → Contains functions f → Holds f address → lookup_of (Some functions) address ≡ Some f
unfolding lookup_of
holder_is_found functions low high address f ordered has holds =
    let k : ℕ = has.0 in
    let at : slice_get functions k ≡ Some f = slice_get-get_or functions k f has.1 ∙ ap Some has.2 in
    let one : IsBoundary begin_of functions address f = record {
      index = k;
      at = at;
      below = holds.0;
      above = λ next after. (let place : k + 1 ≡ suc k = omega arith in let e = next_begins functions low high ordered k f next at (sym (ap (slice_get functions) place) ∙ after) in let lt = holds.1 in omega arith);
    } in
    let found : boundary_in begin_of functions address ≡ Some f = searched_is_one begin_of functions address (boundary_in begin_of functions address) (Some f) (ascending functions low high ordered) (boundary_in-searched begin_of functions address) one in
    ap (λ (o : Option RuntimeFunction). covering o address) found ∙ covers_held f address holds

contained : (functions : List RuntimeFunction) (k : ℕ) (f : RuntimeFunction) → slice_get functions k ≡ Some f → Contains functions f
contained functions k f e = (k, slice_get_within functions k f e, get_or_from_slice_get functions k f f e)

pub none_is_found : (functions : List RuntimeFunction) (low high address : ℕ) → AreOrdered low high functions → ((f : RuntimeFunction) → Contains functions f → Holds f address → ⊥) → lookup_of (Some functions) address ≡ None
unfolding lookup_of
none_is_found functions low high address ordered none = go (boundary_in begin_of functions address) (boundary_in-searched begin_of functions address)
  where
    go : (o : Option RuntimeFunction) → IsSearched begin_of functions address o → covering o address ≡ None
    go None is = refl
    go (Some f) is = not_covered (eqb f.begin_address address) refl (ltb address f.end_address) refl
      where
        within : (f.begin_address < f.end_address)
        within = (begins_within functions low high ordered is.index f is.at).1

        no : address < f.end_address → ⊥
        no lt = none f (contained functions is.index f is.at) (is.below, lt)

        not_covered : (a : Bool) → eqb f.begin_address address ≡ a → (b : Bool) → ltb address f.end_address ≡ b → covering (Some f) address ≡ None
        not_covered true e b h = let same = eqb-true f.begin_address address e in let lt = within in absurd (no (omega arith))
        not_covered false e true h = absurd (no (ltb-true address f.end_address h))
        not_covered false e false h = rw (e, h) refl
