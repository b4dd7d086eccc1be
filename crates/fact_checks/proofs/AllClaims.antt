-- The differences of all claims, one claim after another.
use Rattle.std.proofs.Common.{◌≡◌, ℕ, zero, suc, ◌+◌, ◌<◌, ◌≤◌, List, [], ◌∷◌, ◌++◌, length, map, take, get_or, Some, refl, sym, ap, subst, ◌∙◌, append-nil, append_assoc, arith}
use Rattle.std.specs.Prelude.{◌≢◌, slice_get}
use Rattle.std.specs.List.{AllByRecursion, AllPairs}
use Rattle.std.proofs.Math.Numerals.{suc-eq-add-one}
use Rattle.unwind_definitions.specs.Pointers.{Bases}
use Rattle.unwind_definitions.specs.Entries.{Fde}
use Rattle.unwind_definitions.specs.Module.{DescriptionsApart}
use Rattle.frame_facts.specs.Claims.{Claim, IsClaimSaid}
use Rattle.fact_checks.specs.declared.stretches.Difference.{Difference}
use Rattle.fact_checks.specs.Audits.{AreAudited, AreDifferencesOf, IsDifferenceOf, NoneOf}
use Rattle.fact_checks.specs.InOrder.{AreInOrder}
use Rattle.fact_checks.proofs.Spans.{all_as, all_both}
use Rattle.fact_checks.proofs.OneClaim.{not_said}

module _ (bases : Bases) (fdes : List Fde) where
  module _ {X : Type 0} (f : X → Claim) where
    more : (n : ℕ) (xs : List X) (i : ℕ) (d : X) (ds own : List Difference) → i < length xs → AreAudited bases fdes n (map f (take i xs)) ds → AreDifferencesOf bases fdes (n + i) (f (get_or xs i d)) own →
        AreAudited bases fdes n (map f (take (suc i) xs)) (ds ++ own)
    more n [] i d ds own below done one = absurd (omega arith)
    more n (x ∷ xs) zero d ds own below done one = (own, [], ap (λ l. l ++ own) done ∙ sym (append-nil own), subst (λ k. AreDifferencesOf bases fdes k (f x) own) (omega arith) one, refl)
    more n (x ∷ xs) (suc i) d ds own below (first, rest, is, here, later) one = (
      first,
      rest ++ own,
      ap (λ l. l ++ own) is ∙ append_assoc first rest own,
      here,
      more (suc n) xs i d rest own (omega arith) later (subst (λ k. AreDifferencesOf bases fdes k (f (get_or xs i d)) own) (omega arith) one),
    )

    -- one claim more
    pub audited_more : (xs : List X) (i : ℕ) (d : X) (ds own : List Difference) → i < length xs → AreAudited bases fdes 0 (map f (take i xs)) ds → AreDifferencesOf bases fdes i (f (get_or xs i d)) own →
        AreAudited bases fdes 0 (map f (take (i + 1) xs)) (ds ++ own)
    audited_more xs i d ds own below done one = subst (λ n. AreAudited bases fdes 0 (map f (take n xs)) (ds ++ own)) (suc-eq-add-one i) (more 0 xs i d ds own below done (subst (λ k. AreDifferencesOf bases fdes k (f (get_or xs i d)) own) (omega arith) one))

    pub audited_all : (n : ℕ) (xs : List X) (i : ℕ) (ds : List Difference) → length xs ≤ i → AreAudited bases fdes n (map f (take i xs)) ds → AreAudited bases fdes n (map f xs) ds
    audited_all n [] zero ds done all = all
    audited_all n [] (suc i) ds done all = all
    audited_all n (x ∷ xs) zero ds done all = absurd (omega arith)
    audited_all n (x ∷ xs) (suc i) ds done (own, rest, is, here, later) = (own, rest, is, here, audited_all (suc n) xs i rest (omega arith) later)

  -- ---- each claim

  all_above : (n : ℕ) (cs : List Claim) (ds : List Difference) → AreAudited bases fdes n cs ds → AllByRecursion (λ (d : Difference). n ≤ d.claim) ds
  all_above n [] ds done = subst (AllByRecursion (λ (d : Difference). n ≤ d.claim)) (sym done) tt
  all_above n (c ∷ cs) ds (own, rest, is, here, later) = subst (AllByRecursion (λ (d : Difference). n ≤ d.claim)) (sym is)
      (all_both (λ (d : Difference). n ≤ d.claim) own rest
      (all_as (IsDifferenceOf bases fdes n c) (λ (d : Difference). n ≤ d.claim) own (λ d of. let same = of.0 in omega (arith, same)) here.each)
      (all_as (λ (d : Difference). suc n ≤ d.claim) (λ (d : Difference). n ≤ d.claim) rest (λ d above. omega (arith, above)) (all_above (suc n) cs rest later)))

  parts : (P : Difference → Type 0) (xs ys : List Difference) → AllByRecursion P (xs ++ ys) → AllByRecursion P xs × AllByRecursion P ys
  parts P [] ys all = (tt, all)
  parts P (x ∷ xs) ys all = let more = parts P xs ys all.1 in ((all.0, more.0), more.1)

  none_own : (n : ℕ) (c : Claim) (own : List Difference) → AllByRecursion (IsDifferenceOf bases fdes n c) own → NoneOf n own → own ≡ []
  none_own n c [] each none = refl
  none_own n c (d ∷ ds) each none = absurd (none.0 each.0.0)

  -- a claim that is in no difference is said
  pub passed_said : (n i : ℕ) (cs : List Claim) (c : Claim) (ds : List Difference) → slice_get cs i ≡ Some c → AreAudited bases fdes n cs ds → NoneOf (n + i) ds → IsClaimSaid bases fdes c
  passed_said n i [] c ds at done none = absurd cc
  passed_said n zero (x ∷ cs) c ds at (own, rest, is, here, later) none =
      let same : x ≡ c = cc in
      let mine : NoneOf n own = subst (λ k. NoneOf k own) (omega arith) ((parts _ own rest (subst (NoneOf (n + 0)) is none)).0) in
      subst (IsClaimSaid bases fdes) same (here.said (none_own n x own here.each mine))
  passed_said n (suc i) (x ∷ cs) c ds at (own, rest, is, here, later) none =
      let mine : NoneOf (suc n + i) rest = subst (λ k. NoneOf k rest) (omega arith) ((parts _ own rest (subst (NoneOf (n + suc i)) is none)).1) in
      passed_said (suc n) i cs c rest at later mine

  -- a claim that is said is in no difference
  pub said_passed : AllPairs DescriptionsApart fdes → (n i low : ℕ) (cs : List Claim) (c : Claim) (ds : List Difference) → AreInOrder low cs → slice_get cs i ≡ Some c → AreAudited bases fdes n cs ds → IsClaimSaid bases fdes c → NoneOf (n + i) ds
  said_passed apart n i low [] c ds order at done said = absurd cc
  said_passed apart n zero low (x ∷ cs) c ds order at (own, rest, is, here, later) said =
      let same : x ≡ c = cc in
      let mine : IsClaimSaid bases fdes x = subst (IsClaimSaid bases fdes) (sym same) said in
      subst (NoneOf (n + 0)) (sym is) (all_both _ own rest
      (all_as (IsDifferenceOf bases fdes n x) (λ (d : Difference). d.claim ≢ n + 0) own (λ d of. absurd (not_said bases fdes apart x order.0.1 d.address d.mismatch of.1 mine)) here.each)
      (all_as (λ (d : Difference). suc n ≤ d.claim) (λ (d : Difference). d.claim ≢ n + 0) rest (λ d above same. omega (arith, above, same)) (all_above (suc n) cs rest later)))
  said_passed apart n (suc i) low (x ∷ cs) c ds order at (own, rest, is, here, later) said =
      let more : NoneOf (suc n + i) rest = said_passed apart (suc n) i x.range.to cs c rest order.1 at later said in
      subst (NoneOf (n + suc i)) (sym is) (all_both _ own rest
      (all_as (IsDifferenceOf bases fdes n x) (λ (d : Difference). d.claim ≢ n + suc i) own (λ d of same. let at = of.0 in omega (arith, at, same)) here.each)
      (subst (λ k. NoneOf k rest) (omega arith) more))

  -- where all are said, there is no difference
  pub all_passed : AllPairs DescriptionsApart fdes → (n low : ℕ) (cs : List Claim) (ds : List Difference) → AreInOrder low cs → AreAudited bases fdes n cs ds → AllByRecursion (IsClaimSaid bases fdes) cs → ds ≡ []
  all_passed apart n low [] ds order done said = done
  all_passed apart n low (c ∷ cs) ds order (own, rest, is, here, later) said = go own is here.each (all_passed apart (suc n) c.range.to cs rest order.1 later said.1)
    where
      go : (own : List Difference) → ds ≡ own ++ rest → AllByRecursion (IsDifferenceOf bases fdes n c) own → rest ≡ [] → ds ≡ []
      go [] is each none = is ∙ none
      go (d ∷ more) is each none = absurd (not_said bases fdes apart c order.0.1 d.address d.mismatch each.0.1 said.0)
