-- Lists of registers by tables: those of all six by their rows, and those of fewer by the numbers of lists of all six.
use Rattle.std.specs.Prelude.{option_map}
use Rattle.std.proofs.Common.{◌≡◌, ℕ, zero, suc, ◌*◌, ◌/◌, ◌%◌, ◌<◌, ◌≤◌, Bool, true, false, List, [], ◌∷◌, Option, Some, None, get_or, refl, sym, ap, subst, ◌∙◌, arith}
use Rattle.macho_unwind_info.specs.Permutation.{permutation, arrangements}
use Rattle.macho_unwind_info.specs.FirstOnes.{first_ones}
use Rattle.macho_unwind_info.specs.declared.opcodes.permutation.TheConstants.{PAIRS, ORDERS, SCALES}
use Rattle.macho_unwind_info.proofs.PermutationTable.{all_from, each_from, same_list, same_is, past_all}

-- ---- all six registers
-- the list of a number by the rows of the tables
abbrev pub by_rows : List ℕ → List ℕ → List ℕ
by_rows row order =
    get_or row 0 0 ∷ get_or row 1 0 ∷ get_or row (get_or order 0 0) 0 ∷ get_or row (get_or order 1 0) 0 ∷ get_or row (get_or order 2 0) 0 ∷ get_or row (get_or order 3 0) 0 ∷ []

abbrev spells : Option (List ℕ) → List ℕ → Bool
spells None ys = false
spells (Some xs) ys = same_list xs ys

spelled : (o : Option (List ℕ)) (ys : List ℕ) → spells o ys ≡ true → o ≡ Some ys
spelled None ys e = absurd cc
spelled (Some xs) ys e = ap (λ (l : List ℕ). Some l) (same_is xs ys e)

abbrev row_spells : List ℕ → ℕ → Bool
row_spells none n = spells (permutation 6 n) (by_rows (get_or PAIRS (n / 24) none) (get_or ORDERS (n % 24) none))

rows : (none : List ℕ) → all_from 0 720 (row_spells none) ≡ true
rows none = refl

pub whole_is : (none : List ℕ) (n : ℕ) → n < 720 → permutation 6 n ≡ Some (by_rows (get_or PAIRS (n / 24) none) (get_or ORDERS (n % 24) none))
whole_is none n lt = spelled (permutation 6 n) _ (each_from 720 0 (row_spells none) (rows none) n (omega arith) (omega arith))

-- ---- fewer registers
abbrev pub scale : ℕ → ℕ
scale k = get_or SCALES k 0

abbrev agree : Option (List ℕ) → Option (List ℕ) → Bool
agree o None = false
agree o (Some ys) = spells o ys

agreed : (o p : Option (List ℕ)) → agree o p ≡ true → o ≡ p
agreed o None e = absurd cc
agreed o (Some ys) e = spelled o ys e

abbrev is_scaled : ℕ → ℕ → Bool
is_scaled k n = agree (permutation k n) (option_map (first_ones k) (permutation 6 (n * scale k)))

scaled : (k : ℕ) → 1 ≤ k → k ≤ 6 → all_from 0 (arrangements k) (is_scaled k) ≡ true
scaled zero low high = absurd (omega arith)
scaled (suc zero) low high = refl
scaled (suc (suc zero)) low high = refl
scaled (suc (suc (suc zero))) low high = refl
scaled (suc (suc (suc (suc zero)))) low high = refl
scaled (suc (suc (suc (suc (suc zero))))) low high = refl
scaled (suc (suc (suc (suc (suc (suc zero)))))) low high = refl
scaled (suc (suc (suc (suc (suc (suc (suc k))))))) low high = absurd (omega arith)

-- a scaled number is below 720 where the number is below the count of lists
below_count : (k n : ℕ) → 1 ≤ k → k ≤ 6 → n * scale k < 720 → n < arrangements k
below_count zero n low high lt = absurd (omega arith)
below_count (suc zero) n low high lt = omega arith
below_count (suc (suc zero)) n low high lt = omega arith
below_count (suc (suc (suc zero))) n low high lt = omega arith
below_count (suc (suc (suc (suc zero)))) n low high lt = omega arith
below_count (suc (suc (suc (suc (suc zero))))) n low high lt = omega arith
below_count (suc (suc (suc (suc (suc (suc zero)))))) n low high lt = omega arith
below_count (suc (suc (suc (suc (suc (suc (suc k))))))) n low high lt = absurd (omega arith)

past_count : (k n : ℕ) → 1 ≤ k → k ≤ 6 → 720 ≤ n * scale k → arrangements k ≤ n
past_count zero n low high le = absurd (omega arith)
past_count (suc zero) n low high le = omega arith
past_count (suc (suc zero)) n low high le = omega arith
past_count (suc (suc (suc zero))) n low high le = omega arith
past_count (suc (suc (suc (suc zero)))) n low high le = omega arith
past_count (suc (suc (suc (suc (suc zero))))) n low high le = omega arith
past_count (suc (suc (suc (suc (suc (suc zero)))))) n low high le = omega arith
past_count (suc (suc (suc (suc (suc (suc (suc k))))))) n low high le = absurd (omega arith)

none_named : (n : ℕ) (all : List ℕ) → permutation 6 0 ≡ Some all → permutation 0 n ≡ Some (first_ones 0 all)
none_named n all e =
    let ones : 1 ∷ 2 ∷ 3 ∷ 4 ∷ 5 ∷ 6 ∷ [] ≡ all = some_list _ all e in
    subst (λ (xs : List ℕ). permutation 0 n ≡ Some (first_ones 0 xs)) ones refl
  where
    some_list : (xs ys : List ℕ) → ◌≡◌ {A = Option (List ℕ)} (Some xs) (Some ys) → xs ≡ ys
    some_list xs ys e = cc

pub fewer_is : (k n : ℕ) (all : List ℕ) → k ≤ 6 → n * scale k < 720 → permutation 6 (n * scale k) ≡ Some all → permutation k n ≡ Some (first_ones k all)
fewer_is zero n all high lt e = let none : n * scale 0 ≡ 0 = omega arith in none_named n all (ap (permutation 6) (sym none) ∙ e)
fewer_is (suc k) n all high lt e =
    agreed (permutation (suc k) n) (option_map (first_ones (suc k)) (permutation 6 (n * scale (suc k))))
    (each_from (arrangements (suc k)) 0 (is_scaled (suc k)) (scaled (suc k) (omega arith) high) n (omega arith) (let lt' = below_count (suc k) n (omega arith) high lt in omega arith))
    ∙ ap (option_map (first_ones (suc k))) e

pub none_is : (k n : ℕ) → k ≤ 6 → 720 ≤ n * scale k → permutation k n ≡ None
none_is zero n high le = absurd (omega arith)
none_is (suc k) n high le = past_all (suc k) n (omega arith) high (past_count (suc k) n (omega arith) high le)
