-- Entries that came by ascending pad, and a map of the others.
use Rattle.std.proofs.Common.{◌≡◌, ℕ, ◌==◌, true, false, not, cond, List, [], ◌∷◌, ◌++◌, length, Bool, Option, Some, None, refl, sym, ap, ◌∙◌, arith, ltb}
use Rattle.std.proofs.lemmas.Bool.Decides.{nat_tests}
use Rattle.std.specs.Option.{is_some}
use Rattle.std.specs.Ordering.{nat_cmp}
use Rattle.std.specs.Map.{lookup}
use Rattle.std.specs.BTreeMap.{insert_entry, is_at}
use Rattle.stack_deliver.specs.Resumes.{return_of, by_pad, with_resume, with_resumes, LieBelow}
use Rattle.stack_deliver.proofs.Ascending.{added_last}
use Rattle.stack_deliver.proofs.FirstEntry.{first_of, with_all, with_one}

at_test : (pad q : ℕ) → is_at (nat_cmp pad) q ≡ (q == pad)
at_test pad q = grind (arith, nat_tests)

pub return_found : (es : List (ℕ × ℕ)) (pad : ℕ) → lookup (is_at (nat_cmp pad)) es ≡ return_of es pad
return_found [] pad = refl
return_found (e ∷ es) pad = rw (at_test pad e.0, return_found es pad) refl

-- a pad without a return address is inserted
pad_inserted : (es : List (ℕ × ℕ)) (pad ret : ℕ) → return_of es pad ≡ None → insert_entry nat_cmp es pad ret ≡ by_pad es pad ret
pad_inserted [] pad ret none = refl
pad_inserted (e ∷ es) pad ret none = go (e.0 == pad) refl (pad_inserted es pad ret)
  where
    go : (b : Bool) → (e.0 == pad) ≡ b → (return_of es pad ≡ None → insert_entry nat_cmp es pad ret ≡ by_pad es pad ret) → insert_entry nat_cmp (e ∷ es) pad ret ≡ by_pad (e ∷ es) pad ret
    go true is more = let bad : Some e.1 ≡ None = rw is at none in absurd (cc)
    go false is more =
        let rest : return_of es pad ≡ None = rw is at none in
        let other : (pad == e.0) ≡ false = grind (arith, nat_tests) in
        order (ltb pad e.0) refl other (more rest)
      where
        order : (b : Bool) → ltb pad e.0 ≡ b → (pad == e.0) ≡ false → insert_entry nat_cmp es pad ret ≡ by_pad es pad ret → insert_entry nat_cmp (e ∷ es) pad ret ≡ by_pad (e ∷ es) pad ret
        order true l other rest = rw l refl
        order false l other rest = rw (l, other) (ap (λ ds. e ∷ ds) rest)

module _ (p r q s : ℕ) (other : (p == q) ≡ false) where
  -- two pads come into one order whichever is put first
  pub put_both : (t : List (ℕ × ℕ)) → by_pad (by_pad t p r) q s ≡ by_pad (by_pad t q s) p r
  put_both [] = go (ltb q p) refl (ltb p q) refl
    where
      go : (b : Bool) → ltb q p ≡ b → (b' : Bool) → ltb p q ≡ b' → by_pad (by_pad [] p r) q s ≡ by_pad (by_pad [] q s) p r
      go true l true l' = absurd (grind (arith, nat_tests))
      go true l false l' = rw (l, l') refl
      go false l true l' = rw (l, l') refl
      go false l false l' = absurd (grind (arith, nat_tests))
  put_both (e ∷ t) = go (ltb p e.0) refl (ltb q e.0) refl (ltb q p) refl (ltb p q) refl (put_both t)
    where
      go : (a : Bool) → ltb p e.0 ≡ a → (a' : Bool) → ltb q e.0 ≡ a' → (b : Bool) → ltb q p ≡ b → (b' : Bool) → ltb p q ≡ b' → by_pad (by_pad t p r) q s ≡ by_pad (by_pad t q s) p r → by_pad (by_pad (e ∷ t) p r) q s ≡ by_pad (by_pad (e ∷ t) q s) p r
      go true k true k' true l true l' more = absurd (grind (arith, nat_tests))
      go true k true k' true l false l' more = rw (k, k', l, l') (rw k refl)
      go true k true k' false l true l' more = rw (k, k', l, l') refl
      go true k true k' false l false l' more = absurd (grind (arith, nat_tests))
      go true k false k' true l b' l' more = absurd (grind (arith, nat_tests))
      go true k false k' false l b' l' more = rw (k, k', l) (rw k refl)
      go false k true k' b l true l' more = absurd (grind (arith, nat_tests))
      go false k true k' b l false l' more = rw (k, k', l') (rw k refl)
      go false k false k' b l b' l' more = rw (k, k') (rw k (ap (λ ds. e ∷ ds) more))

  -- the other pad's return address stays
  other_stays : (t : List (ℕ × ℕ)) → return_of (by_pad t p r) q ≡ return_of t q
  other_stays [] = rw other refl
  other_stays (e ∷ t) = go (ltb p e.0) refl (other_stays t)
    where
      go : (b : Bool) → ltb p e.0 ≡ b → return_of (by_pad t p r) q ≡ return_of t q → return_of (by_pad (e ∷ t) p r) q ≡ return_of (e ∷ t) q
      go true l more = rw (l, other) refl
      go false l more = rw l (ap (λ o. cond (e.0 == q) (Some e.1) o) more)

  pub then_other : (t : List (ℕ × ℕ)) → with_resume (by_pad t p r) q s ≡ by_pad (with_resume t q s) p r
  then_other t = go (return_of t q) refl
    where
      go : (o : Option ℕ) → return_of t q ≡ o → with_resume (by_pad t p r) q s ≡ by_pad (with_resume t q s) p r
      go None is = rw (other_stays t, is) (put_both t)
      go (Some found) is = rw (other_stays t, is) refl

-- an entry that is put in before others
pub then_others : (es t : List (ℕ × ℕ)) (pad ret : ℕ) → return_of es pad ≡ None → with_resumes (by_pad t pad ret) es ≡ by_pad (with_resumes t es) pad ret
then_others [] t pad ret none = refl
then_others (e ∷ es) t pad ret none = go (e.0 == pad) refl (then_others es (with_resume t e.0 e.1) pad ret)
  where
    go : (b : Bool) → (e.0 == pad) ≡ b → (return_of es pad ≡ None → with_resumes (by_pad (with_resume t e.0 e.1) pad ret) es ≡ by_pad (with_resumes (with_resume t e.0 e.1) es) pad ret) → with_resumes (by_pad t pad ret) (e ∷ es) ≡ by_pad (with_resumes t (e ∷ es)) pad ret
    go true is more = let bad : Some e.1 ≡ None = rw is at none in absurd (cc)
    go false is more =
        let rest : return_of es pad ≡ None = rw is at none in
        let differ : (pad == e.0) ≡ false = grind (arith, nat_tests) in
        ap (λ u. with_resumes u es) (then_other pad ret e.0 e.1 differ t) ∙ more rest

-- an entry that is put among others
among_others : (es t : List (ℕ × ℕ)) (pad ret : ℕ) → return_of t pad ≡ None → return_of es pad ≡ None → with_resumes t (by_pad es pad ret) ≡ by_pad (with_resumes t es) pad ret
among_others [] t pad ret new none = rw new refl
among_others (e ∷ es) t pad ret new none = go (e.0 == pad) refl (ltb pad e.0) refl (among_others es (with_resume t e.0 e.1) pad ret)
  where
    go : (b : Bool) → (e.0 == pad) ≡ b → (l : Bool) → ltb pad e.0 ≡ l → (return_of (with_resume t e.0 e.1) pad ≡ None → return_of es pad ≡ None → with_resumes (with_resume t e.0 e.1) (by_pad es pad ret) ≡ by_pad (with_resumes (with_resume t e.0 e.1) es) pad ret) → with_resumes t (by_pad (e ∷ es) pad ret) ≡ by_pad (with_resumes t (e ∷ es)) pad ret
    go true is l lt more = let bad : Some e.1 ≡ None = rw is at none in absurd (cc)
    go false is true lt more =
        let first : with_resume t pad ret ≡ by_pad t pad ret = rw new refl in
        rw lt (ap (λ u. with_resumes u (e ∷ es)) first ∙ then_others (e ∷ es) t pad ret none)
    go false is false lt more =
        let rest : return_of es pad ≡ None = rw is at none in
        let still : return_of (with_resume t e.0 e.1) pad ≡ None = with_one t e.0 e.1 pad ∙ rw (new, is) refl in
        rw lt (more still rest)

no_entries : (ds : List (ℕ × ℕ)) → length ds ≡ 0 → ds ≡ []
no_entries [] none = refl
no_entries (d ∷ ds) none = absurd (omega arith)

-- a pad above all that came in order, while the map is empty
pub resume_last : (es ds new : List (ℕ × ℕ)) (pad ret : ℕ) → length ds ≡ 0 → LieBelow pad es → new ≡ es ++ (pad, ret) ∷ [] → with_resumes new ds ≡ with_resume (with_resumes es ds) pad ret
resume_last es ds new pad ret none below is = rw (no_entries ds none, is) (sym (added_last es pad ret below))

none_in_both : (o p : Option ℕ) → first_of o p ≡ None → (o ≡ None) × (p ≡ None)
none_in_both None p is = (refl, is)
none_in_both (Some r) p is = absurd (cc)

-- what is found among those that came in order, or else in the map
pub found_first : (es ds : List (ℕ × ℕ)) (pad ret : ℕ) → Some ret ≡ return_of es pad → Some ret ≡ return_of (with_resumes es ds) pad
found_first es ds pad ret is = sym (with_all ds es pad ∙ rw (← is) refl)

pub found_else : (es ds : List (ℕ × ℕ)) (pad : ℕ) → None ≡ return_of es pad → lookup (is_at (nat_cmp pad)) ds ≡ return_of (with_resumes es ds) pad
found_else es ds pad is = return_found ds pad ∙ sym (with_all ds es pad ∙ rw (← is) refl)

pub none_of : (o : Option ℕ) (b : Bool) → is_some o ≡ not b → b ≡ true → o ≡ None
none_of None b is yes_ = refl
none_of (Some r) b is yes_ = let bad : true ≡ false = is ∙ ap not yes_ in absurd (cc)

-- a pad that has no return address is put into the map
pub resume_scattered : (es ds new : List (ℕ × ℕ)) (pad ret : ℕ) → return_of (with_resumes es ds) pad ≡ None → new ≡ insert_entry nat_cmp ds pad ret → with_resumes es new ≡ with_resume (with_resumes es ds) pad ret
resume_scattered es ds new pad ret none is =
    let both = none_in_both _ _ (sym (with_all ds es pad) ∙ none) in
    let put : new ≡ by_pad ds pad ret = is ∙ pad_inserted ds pad ret both.1 in
    let last : by_pad (with_resumes es ds) pad ret ≡ with_resume (with_resumes es ds) pad ret = rw none refl in
    ap (λ u. with_resumes es u) put ∙ (among_others ds es pad ret both.0 both.1 ∙ last)
