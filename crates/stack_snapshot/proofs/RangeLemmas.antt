-- Ranges that are put in the order of their addresses: each begins after the end of the one before exactly where no address
-- lies in two of them.
use Rattle.std.proofs.Common.{◌≡◌, ℕ, ◌+◌, ◌<◌, ◌≤◌, Bool, true, false, cond, List, [], ◌∷◌, ◌∙◌, inl, inr, refl, arith, ltb, zero-add}
use Rattle.std.specs.List.{All, count_by}
use Rattle.std.specs.List.Sorted.{IsNonDecreasingBy, IsPermutation}
use Rattle.std.proofs.lemmas.Bool.Decides.{nat_tests, leb_tells}
use Rattle.std.proofs.lemmas.List.Elements.{All-tail}
use Rattle.std.proofs.lemmas.List.Sorted.{IsNonDecreasingBy-drop, sum_by-IsPermutation}
use Rattle.std.proofs.lemmas.List.Sums.{sum_by-cons}
use Rattle.unwind_laws.proofs.Booleans as lists
use Rattle.stack_snapshot.specs.declared.ranges.AddressRange.{AddressRange}
use Rattle.stack_snapshot.specs.Ranges.{lies_in, AreDisjoint, ascend_after, are_ascending}

-- ---- how many pass a test

module _ {X : Type 0} (p : X → Bool) where
  pub counts : (x : X) (xs : List X) → count_by p (x ∷ xs) ≡ cond (p x) 1 0 + count_by p xs
  counts x xs = sum_by-cons (λ y. cond (p y) 1 0) x xs

  pub one_more : (x : X) (xs : List X) → p x ≡ true → count_by p (x ∷ xs) ≡ 1 + count_by p xs
  one_more x xs passes = counts x xs ∙ rw passes

  pub no_more : (x : X) (xs : List X) → p x ≡ false → count_by p (x ∷ xs) ≡ count_by p xs
  no_more x xs fails = counts x xs ∙ rw fails (zero-add (count_by p xs))

  pub at_least : (x : X) (xs : List X) → count_by p xs ≤ count_by p (x ∷ xs)
  at_least x xs = let more = counts x xs in omega arith

  one_at_most : (n m : ℕ) (b : Bool) → n ≡ cond b 1 0 + m → m ≡ 0 → n ≤ 1
  one_at_most n m true e none = omega arith
  one_at_most n m false e none = omega arith

  pub only_one : (x : X) (xs : List X) → count_by p xs ≡ 0 → count_by p (x ∷ xs) ≤ 1
  only_one x xs none = one_at_most _ _ (p x) (counts x xs) none

-- ---- ranges that ascend

-- the first address is no higher than the last
abbrev pub IsRange : AddressRange → Type 0
IsRange r = r.first ≤ r.last

inside : (r : AddressRange) (a : ℕ) → r.first ≤ a → a ≤ r.last → lies_in a r ≡ true
inside r a low high = grind (arith, nat_tests)

before : (r : AddressRange) (a : ℕ) → a < r.first → lies_in a r ≡ false
before r a low = grind (arith, nat_tests)

after : (r : AddressRange) (a : ℕ) → r.last < a → lies_in a r ≡ false
after r a high = grind (arith, nat_tests)

below_first : (last : ℕ) (r : AddressRange) → ltb last r.first ≡ true → last < r.first
below_first last r e = grind (arith, nat_tests)

-- no address up to the last one lies in what ascends after it
none_after : (last : ℕ) (rs : List AddressRange) → ascend_after last rs ≡ true → All IsRange rs → (a : ℕ) → a ≤ last → count_by (lies_in a) rs ≡ 0
none_after last [] up ranges a le = refl
none_after last (r ∷ rs) up ranges a le =
    let both = lists.both_true (ltb last r.first) (ascend_after r.last rs) up in
    let lt = below_first last r both.0 in
    let some : r.first ≤ r.last = ranges 0 r (omega arith) in
    no_more (lies_in a) r rs (before r a (omega arith)) ∙ none_after r.last rs both.1 (All-tail IsRange r rs ranges) a (omega arith)

-- an address lies in one at most of those that ascend
once : (r : AddressRange) (rs : List AddressRange) → ascend_after r.last rs ≡ true → All IsRange (r ∷ rs) → (a : ℕ) → count_by (lies_in a) (r ∷ rs) ≤ 1
once r [] up ranges a = only_one (lies_in a) r [] refl
once r (s ∷ ss) up ranges a =
    let rest = All-tail IsRange r (s ∷ ss) ranges in
    elim (leb_tells a r.last) [
      | inl p ↦ only_one (lies_in a) r (s ∷ ss) (none_after r.last (s ∷ ss) up rest a p.1)
      | inr p ↦
          let both = lists.both_true (ltb r.last s.first) (ascend_after s.last ss) up in
          let less = no_more (lies_in a) r (s ∷ ss) (after r a p.1) in
          let later = once s ss both.1 rest a in
          omega arith
    ]

pub ascending_disjoint : (rs : List AddressRange) → All IsRange rs → are_ascending rs ≡ true → AreDisjoint rs
ascending_disjoint [] ranges up a = omega arith
ascending_disjoint (r ∷ rs) ranges up a = once r rs up ranges a

-- ---- ranges in the order of their first addresses that don't ascend

abbrev SharesOne : List AddressRange → Type 0
SharesOne rs = (a : ℕ) × (2 ≤ count_by (lies_in a) rs)

shared : (r : AddressRange) (rs : List AddressRange) → IsNonDecreasingBy (λ (q : AddressRange). q.first) (r ∷ rs) → All IsRange (r ∷ rs) → ascend_after r.last rs ≡ false → SharesOne (r ∷ rs)
shared r [] sorted ranges fails = absurd (cc)
shared r (s ∷ ss) sorted ranges fails =
    let rest = All-tail IsRange r (s ∷ ss) ranges in
    elim (leb_tells s.first r.last) [
      | inl p ↦
          let ordered : r.first ≤ s.first = sorted 0 1 r (omega arith) (omega arith) in
          let some : s.first ≤ s.last = rest 0 s (omega arith) in
          let two = one_more (lies_in s.first) r (s ∷ ss) (inside r s.first ordered p.1) in
          let one = one_more (lies_in s.first) s ss (inside s s.first (omega arith) some) in
          (s.first, omega arith)
      | inr p ↦
          let next : ltb r.last s.first ≡ true = grind (arith, nat_tests) in
          let later : ascend_after s.last ss ≡ false = rw next at fails in
          let found = shared s ss (IsNonDecreasingBy-drop (λ (q : AddressRange). q.first) 1 (r ∷ s ∷ ss) sorted) rest later in
          let both = found.1 in
          let more = at_least (lies_in found.0) r (s ∷ ss) in
          (found.0, omega arith)
    ]

pub disjoint_ascending : (rs : List AddressRange) → IsNonDecreasingBy (λ (q : AddressRange). q.first) rs → All IsRange rs → AreDisjoint rs → are_ascending rs ≡ true
disjoint_ascending [] sorted ranges apart = refl
disjoint_ascending (r ∷ rs) sorted ranges apart = go (ascend_after r.last rs) refl
  where
    go : (b : Bool) → ascend_after r.last rs ≡ b → ascend_after r.last rs ≡ true
    go true is = is
    go false is = let found = shared r rs sorted ranges is in let two = found.1 in let one = apart found.0 in absurd (omega arith)

-- ---- in another order

pub disjoint_moved : (rs moved : List AddressRange) → IsPermutation rs moved → AreDisjoint rs → AreDisjoint moved
disjoint_moved rs moved same apart a =
    let count = sum_by-IsPermutation (λ r. cond (lies_in a r) 1 0) rs moved same in
    let one = apart a in
    omega arith
