-- Lists that are read item by item.
use Rattle.std.proofs.Common.{◌≡◌, ℕ, suc, ◌+◌, ◌<◌, List, [], ◌∷◌, ◌++◌, length, drop, get_or, Option, Some, Result, Ok, Err, refl, ap, sym, subst, ◌∙◌}
use Rattle.std.proofs.Math.Numerals.{suc-eq-add-one}
use Rattle.std.proofs.Math.Seq.{drop-cons}
use Rattle.std.proofs.lemmas.List.{append_assoc}
use Rattle.serde_json.specs.View.{view, items_view}
use Rattle.serde_json.specs.declared.value.Value.{Value}
use Rattle.memory_image.specs.Results.{◌>>=◌, result_map}
use Rattle.fact_checks.specs.declared.facts.ClaimedFacts.{ClaimedFacts}
use Rattle.fact_claims.specs.declared.errors.ClaimsError.{ClaimsError}
use Rattle.fact_claims.specs.Claims.{claim_in, claims_from, needs_claim}

-- the values before, and then those that are read
abbrev pub with_front : {A E : Type 0} → List A → Result (List A) E → Result (List A) E
with_front front read = result_map (λ xs. front ++ xs) read

abbrev Reading : Type 0
Reading = Result (List ClaimedFacts) ClaimsError

-- a claim before those that are read, and those before it
joined : (front : List ClaimedFacts) (claim : ClaimedFacts) (read : Reading) → with_front front (read >>= λ claims. Ok (claim ∷ claims)) ≡ with_front (front ++ claim ∷ []) read
joined front claim (Ok claims) = ap Ok (sym (append_assoc front (claim ∷ []) claims))
joined front claim (Err error) = refl

module _ (items : List Value) (i : ℕ) (x : Value) (below : i < length items) (here : x ≡ get_or items i x) where
  left_is : drop i items ≡ x ∷ drop (i + 1) items
  left_is = subst (λ n. drop i items ≡ x ∷ drop n items) (suc-eq-add-one i) (subst (λ y. drop i items ≡ y ∷ drop (suc i) items) (sym here) (drop-cons items i x below))

  abbrev later : ℕ → Reading
  later n = claims_from n (items_view (drop (i + 1) items))

  abbrev after : Option ClaimedFacts → Reading
  after o = needs_claim i o >>= λ claim. later (suc i) >>= λ claims. Ok (claim ∷ claims)

  -- an item that says a claim is read after those before it
  pub next_read : (claim : ClaimedFacts) (front : List ClaimedFacts) → claim_in (view x) ≡ Some claim → with_front (front ++ claim ∷ []) (later (i + 1)) ≡ with_front front (claims_from i (items_view (drop i items)))
  next_read claim front says =
      let whole : claims_from i (items_view (drop i items)) ≡ after (Some claim) = ap (λ (xs : List Value). claims_from i (items_view xs)) left_is ∙ ap after says in
      let next : with_front front (claims_from i (items_view (drop i items))) ≡ with_front (front ++ claim ∷ []) (later (suc i)) = ap (with_front front) whole ∙ joined front claim (later (suc i)) in
      sym (next ∙ ap (λ (n : ℕ). with_front (front ++ claim ∷ []) (later n)) (suc-eq-add-one i))
