-- The list of registers that a number spells.
use Rattle.std.specs.Prelude.{◌≡◌, ℕ, zero, suc, ◌+◌, ◌-◌, ◌*◌, ◌/◌, ◌%◌, Bool, true, not, ◌&&◌, List, [], ◌∷◌, ◌++◌, filter, replicate, take, Option, Some, None, option_map, slice_get, nat_lt, nat_le, ◌==◌, if◌then◌else◌}
use Rattle.std.specs.List.{list_any}

-- the registers
abbrev pub six : List ℕ
six = 1 ∷ 2 ∷ 3 ∷ 4 ∷ 5 ∷ 6 ∷ []

-- The digits of a number, the first first: digit i of k has radix 6 less i, the first has none, and the sixth is 0.
abbrev pub digits : ℕ → ℕ → List ℕ
digits zero n = []
digits (suc zero) n = n ∷ []
digits (suc (suc i)) n = digits (suc i) (n / (6 - suc i)) ++ n % (6 - suc i) ∷ []

-- the registers that aren't used yet
abbrev pub is_used : List ℕ → ℕ → Bool
is_used used register = list_any (λ u. u == register) used

abbrev pub unused_registers : List ℕ → List ℕ → List ℕ
unused_registers used registers = filter (λ register. not (is_used used register)) registers

-- each digit names that many-th register not used yet, counted from 0
abbrev pub and_named : List ℕ → Option ℕ → (List ℕ → Option (List ℕ)) → Option (List ℕ)
and_named used None later = None
and_named used (Some register) later = later (used ++ register ∷ [])

abbrev pub registers_named : List ℕ → List ℕ → Option (List ℕ)
registers_named [] used = Some used
registers_named (digit ∷ digits) used = and_named used (slice_get (unused_registers used six) digit) (registers_named digits)

-- the list of k registers that a number spells, followed by zeros
abbrev pub permutation : ℕ → ℕ → Option (List ℕ)
permutation k n = if nat_lt 6 k then None else option_map (λ registers. registers ++ replicate (6 - k) 0) (registers_named (digits k n) [])

-- ---- lists of distinct registers and their numbers
-- how many lists of k distinct registers there are: 6! / (6 - k)!
abbrev pub arrangements : ℕ → ℕ
arrangements zero = 1
arrangements (suc k) = arrangements k * (6 - k)

-- registers from 1 to 6, each once
abbrev pub distinct : List ℕ → Bool
distinct [] = true
distinct (r ∷ rs) = nat_le 1 r && (nat_le r 6 && (not (is_used rs r) && distinct rs))

-- the place of a register among those that aren't used yet, and the others
abbrev pub place_of : ℕ → List ℕ → ℕ
place_of r [] = 0
place_of r (x ∷ xs) = if x == r then 0 else suc (place_of r xs)

abbrev pub without : ℕ → List ℕ → List ℕ
without r [] = []
without r (x ∷ xs) = if x == r then xs else x ∷ without r xs

abbrev pub places_in : List ℕ → List ℕ → List ℕ
places_in left [] = []
places_in left (r ∷ rs) = place_of r left ∷ places_in (without r left) rs

-- digits put together, digit i having radix 6 less i
abbrev pub number_from : ℕ → ℕ → List ℕ → ℕ
number_from n i [] = n
number_from n i (d ∷ ds) = number_from (n * (6 - i) + d) (suc i) ds

-- the number of a list of registers
abbrev pub permutation_number : List ℕ → ℕ
permutation_number registers = number_from 0 0 (places_in six registers)

-- count distinct registers and then zeros, the list having a number
pub record IsArrangement (count number : ℕ) (registers : List ℕ) : Type 0 where
  pub each_once : distinct (take count registers) ≡ true
  pub zeros : registers ≡ take count registers ++ replicate (6 - count) 0
  pub number_is : permutation_number (take count registers) ≡ number
