-- Numbers and lists of distinct registers are one to one, and other numbers are refused.
use Rattle.std.specs.Prelude.{Result, Ok, Err, IfOk, IsErr, IsOkAnd}
use Rattle.std.proofs.Common.{◌≡◌, ℕ, zero, suc, ◌+◌, ◌-◌, ◌/◌, ◌%◌, ◌<◌, ◌≤◌, rules, Bool, true, false, cond, eqb, leb, ltb, ◌&&◌, ◌||◌, List, [], ◌∷◌, ◌++◌, length, take, Option, Some, None, refl, sym, ap, subst, ◌∙◌, arith}
use Rattle.std.specs.Prelude.{not, replicate}
use Rattle.std.specs.List.{list_any, list_all}
use Rattle.std.specs.Prelude.{option_map}
use Rattle.std.proofs.lemmas.Option.{slice_get_past}
use Rattle.std.proofs.lemmas.List.{length-append, length-replicate, take_at}
use Rattle.std.proofs.lemmas.Bool.{eqb-true, eq-eqb, ltb-true, ltb-false, leb-true, le-ltb}
use Rattle.macho_unwind_info.specs.Permutation.{permutation, registers_named, and_named, unused_registers, digits, six, arrangements, without, permutation_number, distinct, IsArrangement}

both_true : (a b : Bool) → (a && b) ≡ true → (a ≡ true) × (b ≡ true)
both_true true b e = (refl, e)
both_true false b e = absurd cc

-- what a number of a count spells: k distinct registers, whose number it is, and then zeros
abbrev spells_back : ℕ → ℕ → Option (List ℕ) → Bool
spells_back k n None = false
spells_back k n (Some xs) = distinct (take k xs) && ((eqb (length xs) 6) && (eqb (permutation_number (take k xs)) n))

abbrev checks : ℕ → ℕ → Bool
checks k n = spells_back k n (permutation k n)

-- a test at each of n numbers from a on
abbrev pub all_from : ℕ → ℕ → (ℕ → Bool) → Bool
all_from a zero p = true
all_from a (suc n) p = p a && all_from (suc a) n p

-- a test at each list of k distinct registers of those that are left
abbrev every : ℕ → List ℕ → (List ℕ → Bool) → Bool
every zero left p = p []
every (suc k) left p = list_all (λ x. every k (without x left) (λ rs. p (x ∷ rs))) left

abbrev pub same_list : List ℕ → List ℕ → Bool
same_list [] [] = true
same_list (x ∷ xs) (y ∷ ys) = eqb x y && same_list xs ys
same_list [] (y ∷ ys) = false
same_list (x ∷ xs) [] = false

abbrev spells : Option (List ℕ) → List ℕ → Bool
spells None ys = false
spells (Some xs) ys = same_list xs ys

-- a list's number is below the count of lists, and spells the list
abbrev is_spelled : ℕ → List ℕ → Bool
is_spelled k rs = ltb (permutation_number rs) (arrangements k) && spells (permutation k (permutation_number rs)) (rs ++ replicate (6 - k) 0)

-- ---- the tables, computed
table : (k : ℕ) → 1 ≤ k → k ≤ 6 → all_from 0 (arrangements k) (checks k) ≡ true
table zero low high = absurd (omega arith)
table (suc zero) low high = refl
table (suc (suc zero)) low high = refl
table (suc (suc (suc zero))) low high = refl
table (suc (suc (suc (suc zero)))) low high = refl
table (suc (suc (suc (suc (suc zero))))) low high = refl
table (suc (suc (suc (suc (suc (suc zero)))))) low high = refl
table (suc (suc (suc (suc (suc (suc (suc k))))))) low high = absurd (omega arith)

lists : (k : ℕ) → 1 ≤ k → k ≤ 6 → every k six (is_spelled k) ≡ true
lists zero low high = absurd (omega arith)
lists (suc zero) low high = refl
lists (suc (suc zero)) low high = refl
lists (suc (suc (suc zero))) low high = refl
lists (suc (suc (suc (suc zero)))) low high = refl
lists (suc (suc (suc (suc (suc zero))))) low high = refl
lists (suc (suc (suc (suc (suc (suc zero)))))) low high = refl
lists (suc (suc (suc (suc (suc (suc (suc k))))))) low high = absurd (omega arith)

pub each_from : (n a : ℕ) (p : ℕ → Bool) → all_from a n p ≡ true → (x : ℕ) → a ≤ x → x < a + n → p x ≡ true
each_from zero a p h x low high = absurd (omega arith)
each_from (suc n) a p h x low high = go (ltb a x) refl (λ low'. each_from n (suc a) p (both_true (p a) (all_from (suc a) n p) h).1 x low' (omega arith))
  where
    go : (b : Bool) → ltb a x ≡ b → (suc a ≤ x → p x ≡ true) → p x ≡ true
    go true e ih = ih (let lt = ltb-true a x e in omega arith)
    go false e ih = let le = ltb-false a x e in let same : a ≡ x = omega arith in subst (λ y. p y ≡ true) same (both_true (p a) (all_from (suc a) n p) h).0

-- what a number below the count spells
pub record Spelled (k n : ℕ) : Type 0 where
  pub xs : List ℕ
  pub is : permutation k n ≡ Some xs
  pub six_long : length xs ≡ 6
  pub each_once : distinct (take k xs) ≡ true
  pub back : permutation_number (take k xs) ≡ n

pub spelled : (k n : ℕ) → 1 ≤ k → k ≤ 6 → n < arrangements k → Spelled k n
spelled k n low high lt = go (permutation k n) refl (each_from (arrangements k) 0 (checks k) (table k low high) n (omega arith) (omega arith))
  where
    go : (o : Option (List ℕ)) → permutation k n ≡ o → checks k n ≡ true → Spelled k n
    go None e h = let h' : spells_back k n None ≡ true = subst (λ o. spells_back k n o ≡ true) e h in absurd cc
    go (Some xs) e h =
        let h' : spells_back k n (Some xs) ≡ true = subst (λ o. spells_back k n o ≡ true) e h in
        let a = both_true (distinct (take k xs)) (eqb (length xs) 6 && eqb (permutation_number (take k xs)) n) h' in
        let b = both_true (eqb (length xs) 6) (eqb (permutation_number (take k xs)) n) a.1 in
        record { xs = xs; is = e; six_long = eqb-true (length xs) 6 b.0; each_once = a.0; back = eqb-true (permutation_number (take k xs)) n b.1 }

-- one number at most spells a list
some_list : (a b : List ℕ) → ◌≡◌ {A = Option (List ℕ)} (Some a) (Some b) → a ≡ b
some_list a b e = cc

pub one_number : (k n n' : ℕ) → 1 ≤ k → k ≤ 6 → n < arrangements k → n' < arrangements k → permutation k n ≡ permutation k n' → n ≡ n'
one_number k n n' low high lt lt' same =
    let a = spelled k n low high lt in
    let b = spelled k n' low high lt' in
    let xs : a.xs ≡ b.xs = some_list a.xs b.xs (sym a.is ∙ same ∙ b.is) in
    sym a.back ∙ ap (λ l. permutation_number (take k l)) xs ∙ b.back

-- ---- each list of distinct registers
all_of : (p : ℕ → Bool) (xs : List ℕ) (x : ℕ) → list_all p xs ≡ true → list_any (λ y. eqb y x) xs ≡ true → p x ≡ true
all_of p [] x h i = absurd cc
all_of p (y ∷ ys) x h i = go (eqb y x) refl (both_true (p y) (list_all p ys) h) (all_of p ys x)
  where
    go : (b : Bool) → eqb y x ≡ b → (p y ≡ true) × (list_all p ys ≡ true) → (list_all p ys ≡ true → list_any (λ z. eqb z x) ys ≡ true → p x ≡ true) → p x ≡ true
    go true e both ih = subst (λ z. p z ≡ true) (eqb-true y x e) both.0
    go false e both ih = ih both.1 (sym (ap (λ b. b || list_any (λ z. eqb z x) ys) e) ∙ i)

-- what isn't taken away stays
stays : (r q : ℕ) (xs : List ℕ) → eqb q r ≡ false → list_any (λ y. eqb y q) xs ≡ true → list_any (λ y. eqb y q) (without r xs) ≡ true
stays r q [] differ i = absurd cc
stays r q (x ∷ xs) differ i = go (eqb x r) refl (eqb x q) refl (stays r q xs differ)
  where
    go : (a : Bool) → eqb x r ≡ a → (b : Bool) → eqb x q ≡ b → (list_any (λ y. eqb y q) xs ≡ true → list_any (λ y. eqb y q) (without r xs) ≡ true) → list_any (λ y. eqb y q) (without r (x ∷ xs)) ≡ true
    go true e true f ih = let is : x ≡ r = eqb-true x r e in let iq : x ≡ q = eqb-true x q f in let h = eq-eqb q r (sym iq ∙ is) in absurd cc
    go true e false f ih = rw e (sym (ap (λ b. b || list_any (λ y. eqb y q) xs) f) ∙ i)
    go false e true f ih = rw (e, f) refl
    go false e false f ih = rw (e, f) (ih (sym (ap (λ b. b || list_any (λ y. eqb y q) xs) f) ∙ i))

-- each of a list is among some numbers
abbrev Within : List ℕ → List ℕ → Type 0
Within [] xs = Unit {0}
Within (r ∷ rs) xs = (list_any (λ y. eqb y r) xs ≡ true) × Within rs xs

all_stay : (r : ℕ) (rs xs : List ℕ) → list_any (λ q. eqb q r) rs ≡ false → Within rs xs → Within rs (without r xs)
all_stay r [] xs differ within = tt
all_stay r (q ∷ rs) xs differ within = go (λ h. all_stay r rs xs h within.1) (eqb q r) refl
  where
    go : (list_any (λ p. eqb p r) rs ≡ false → Within rs (without r xs)) → (b : Bool) → eqb q r ≡ b → Within (q ∷ rs) (without r xs)
    go ih true e = let h = sym (ap (λ b. b || list_any (λ p. eqb p r) rs) e) ∙ differ in absurd cc
    go ih false e = (stays r q xs e within.0, ih (sym (ap (λ b. b || list_any (λ p. eqb p r) rs) e) ∙ differ))

not_true : (b : Bool) → not b ≡ true → b ≡ false
not_true true e = absurd cc
not_true false e = refl

at_each : (k : ℕ) (rs unused : List ℕ) (p : List ℕ → Bool) → every k unused p ≡ true → length rs ≡ k → distinct rs ≡ true → Within rs unused → p rs ≡ true
at_each zero [] unused p h len once within = h
at_each zero (r ∷ rs) unused p h len once within = absurd (omega arith)
at_each (suc k) [] unused p h len once within = absurd (omega arith)
at_each (suc k) (r ∷ rs) unused p h len once within =
    let a = both_true (leb 1 r) _ once in
    let b = both_true (leb r 6) _ a.1 in
    let c = both_true (not (list_any (λ q. eqb q r) rs)) (distinct rs) b.1 in
    at_each k rs (without r unused) (λ ys. p (r ∷ ys)) (all_of (λ x. every k (without x unused) (λ ys. p (x ∷ ys))) unused r h within.0) (omega arith) c.1 (all_stay r rs unused (not_true _ c.0) within.1)

in_six : (r : ℕ) → 1 ≤ r → r ≤ 6 → list_any (λ y. eqb y r) six ≡ true
in_six zero low high = absurd (omega arith)
in_six (suc zero) low high = refl
in_six (suc (suc zero)) low high = refl
in_six (suc (suc (suc zero))) low high = refl
in_six (suc (suc (suc (suc zero)))) low high = refl
in_six (suc (suc (suc (suc (suc zero))))) low high = refl
in_six (suc (suc (suc (suc (suc (suc zero)))))) low high = refl
in_six (suc (suc (suc (suc (suc (suc (suc r))))))) low high = absurd (omega arith)

within_six : (rs : List ℕ) → distinct rs ≡ true → Within rs six
within_six [] once = tt
within_six (r ∷ rs) once =
    let a = both_true (leb 1 r) _ once in
    let b = both_true (leb r 6) _ a.1 in
    let c = both_true (not (list_any (λ q. eqb q r) rs)) (distinct rs) b.1 in
    (in_six r (leb-true 1 r a.0) (leb-true r 6 b.0), within_six rs c.1)

pub same_is : (xs ys : List ℕ) → same_list xs ys ≡ true → xs ≡ ys
same_is [] [] e = refl
same_is [] (y ∷ ys) e = absurd cc
same_is (x ∷ xs) [] e = absurd cc
same_is (x ∷ xs) (y ∷ ys) e = let both = both_true (eqb x y) (same_list xs ys) e in ap (λ z. z ∷ xs) (eqb-true x y both.0) ∙ ap (λ l. y ∷ l) (same_is xs ys both.1)

-- each list of k distinct registers is spelled by its number
pub each_list : (k : ℕ) (rs : List ℕ) → 1 ≤ k → k ≤ 6 → length rs ≡ k → distinct rs ≡ true → (permutation_number rs < arrangements k) × (permutation k (permutation_number rs) ≡ Some (rs ++ replicate (6 - k) 0))
each_list k rs low high len once =
    let h = at_each k rs six (is_spelled k) (lists k low high) len once (within_six rs once) in
    let both = both_true (ltb (permutation_number rs) (arrangements k)) (spells (permutation k (permutation_number rs)) (rs ++ replicate (6 - k) 0)) h in
    (ltb-true (permutation_number rs) (arrangements k) both.0, go (permutation k (permutation_number rs)) both.1)
  where
    go : (o : Option (List ℕ)) → spells o (rs ++ replicate (6 - k) 0) ≡ true → o ≡ Some (rs ++ replicate (6 - k) 0)
    go None e = absurd cc
    go (Some xs) e = ap (λ l. Some l) (same_is xs (rs ++ replicate (6 - k) 0) e)

-- ---- refused numbers
-- a first digit of 6 or more names no register
first_past : (d : ℕ) (ds : List ℕ) (k : ℕ) → 6 ≤ d → option_map (λ xs. xs ++ replicate (6 - k) 0) (registers_named (d ∷ ds) []) ≡ None
first_past d ds k le = ap (λ o. option_map (λ xs. xs ++ replicate (6 - k) 0) (and_named [] o (registers_named ds))) (slice_get_past six d le)

pub past_all : (k n : ℕ) → 1 ≤ k → k ≤ 6 → arrangements k ≤ n → permutation k n ≡ None
past_all zero n low high le = absurd (omega arith)
past_all (suc zero) n low high le = first_past n [] 1 (omega arith)
past_all (suc (suc zero)) n low high le = first_past (n / 5) (n % 5 ∷ []) 2 (omega arith)
past_all (suc (suc (suc zero))) n low high le = first_past (n / 4 / 5) (n / 4 % 5 ∷ n % 4 ∷ []) 3 (omega arith)
past_all (suc (suc (suc (suc zero)))) n low high le = first_past (n / 3 / 4 / 5) (n / 3 / 4 % 5 ∷ n / 3 % 4 ∷ n % 3 ∷ []) 4 (omega arith)
past_all (suc (suc (suc (suc (suc zero))))) n low high le = first_past (n / 2 / 3 / 4 / 5) (n / 2 / 3 / 4 % 5 ∷ n / 2 / 3 % 4 ∷ n / 2 % 3 ∷ n % 2 ∷ []) 5 (omega arith)
past_all (suc (suc (suc (suc (suc (suc zero)))))) n low high le = first_past (n / 1 / 2 / 3 / 4 / 5) (n / 1 / 2 / 3 / 4 % 5 ∷ n / 1 / 2 / 3 % 4 ∷ n / 1 / 2 % 3 ∷ n / 1 % 2 ∷ n % 1 ∷ []) 6 (omega arith)
past_all (suc (suc (suc (suc (suc (suc (suc k))))))) n low high le = absurd (omega arith)

-- ---- what is decoded
mapped : (k : ℕ) (o : Option (List ℕ)) (xs : List ℕ) → option_map (λ rs. rs ++ replicate (6 - k) 0) o ≡ Some xs → (rs : List ℕ) × (rs ++ replicate (6 - k) 0 ≡ xs)
mapped k None xs e = absurd cc
mapped k (Some rs) xs e = (rs, some_list (rs ++ replicate (6 - k) 0) xs e)

-- the registers that a number below the count spells
pub arranged : (k n : ℕ) → 1 ≤ k → k ≤ 6 → n < arrangements k → (xs : List ℕ) → permutation k n ≡ Some xs → IsArrangement k n xs
arranged k n low high lt xs is =
    let s = spelled k n low high lt in
    let same : s.xs ≡ xs = some_list s.xs xs (sym s.is ∙ is) in
    let small : ltb 6 k ≡ false = le-ltb 6 k high in
    let rs = mapped k (registers_named (digits k n) []) xs (sym (ap (λ b. cond b None (option_map (λ rs. rs ++ replicate (6 - k) 0) (registers_named (digits k n) []))) small) ∙ is) in
    let whole : length rs.0 + (6 - k) ≡ 6 = sym (length-append rs.0 (replicate (6 - k) 0) ∙ ap (λ m. length rs.0 + m) (length-replicate (6 - k) 0)) ∙ ap length rs.1 ∙ sym (ap length same) ∙ s.six_long in
    let first : take k xs ≡ rs.0 = sym (ap (take k) rs.1) ∙ take_at rs.0 (replicate (6 - k) 0) k (omega arith) in
    record {
      each_once = subst (λ l. distinct (take k l) ≡ true) same s.each_once;
      zeros = sym rs.1 ∙ ap (λ l. l ++ replicate (6 - k) 0) (sym first);
      number_is = subst (λ l. permutation_number (take k l) ≡ n) same s.back;
    }

-- what a call that decodes by `permutation` answers
pub decoded_below : (k n : ℕ) (r : Result (List ℕ) (Unit {0})) → IfOk r (λ xs. permutation k n ≡ Some xs) → (IsErr r → permutation k n ≡ None) → 1 ≤ k → k ≤ 6 → n < arrangements k → IsOkAnd r (IsArrangement k n)
decoded_below k n (Ok xs) ok refused low high lt = search (rules, arranged k n low high lt xs ok)
decoded_below k n (Err e) ok refused low high lt =
    let none : permutation k n ≡ None = refused (search rules) in
    let some = (spelled k n low high lt).is in
    absurd cc

pub decoded_onto : (k n : ℕ) (r : Result (List ℕ) (Unit {0})) → IfOk r (λ xs. permutation k n ≡ Some xs) → (IsErr r → permutation k n ≡ None) → (rs : List ℕ) → 1 ≤ k → k ≤ 6 → length rs ≡ k → distinct rs ≡ true → n ≡ permutation_number rs → r ≡ Ok (rs ++ replicate (6 - k) 0)
decoded_onto k n (Ok xs) ok refused rs low high long once number =
    let spells : permutation k n ≡ Some (rs ++ replicate (6 - k) 0) = ap (permutation k) number ∙ (each_list k rs low high long once).1 in
    let same : xs ≡ rs ++ replicate (6 - k) 0 = some_list xs (rs ++ replicate (6 - k) 0) (sym ok ∙ spells) in
    ap (λ l. Ok l) same
decoded_onto k n (Err e) ok refused rs low high long once number =
    let none : permutation k n ≡ None = refused (search rules) in
    let spells : permutation k n ≡ Some (rs ++ replicate (6 - k) 0) = ap (permutation k) number ∙ (each_list k rs low high long once).1 in
    absurd cc
