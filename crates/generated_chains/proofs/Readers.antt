-- What the readers of tables answer on bytes that begin with a number or a pointer.
use Rattle.std.proofs.Common.{◌≡◌, ℕ, ◌+◌, ◌-◌, ◌%◌, ◌<◌, ◌≤◌, ◌^◌, false, List, [], ◌∷◌, ◌++◌, length, Some, Ok, refl, arith, inl, inr}
use Rattle.std.specs.Prelude.{◌==◌, ◌≢◌}
use Rattle.std.specs.Int.{w8, w32, from_le_bytes}
use Rattle.std.proofs.lemmas.List.{length-append, take_at, drop_at}
use Rattle.std.proofs.lemmas.Bool.{le-ltb, lt-ltb, ne_eqb, cases_lt}
use Rattle.unwind_definitions.specs.Input.{Input, number, split, signed_word, uleb}
use Rattle.unwind_definitions.specs.Pointers.{Bases, Direct, pointer, direct}
use Rattle.unwind_definitions.specs.Entries.{body}
use Rattle.generated_chains.specs.Spelled.{half}
use Rattle.generated_chains.specs.Tables.{distance_from, relative}
use Rattle.generated_chains.proofs.SpelledLemmas.{length-half, half-read}

-- bytes of a table from an offset on
abbrev pub input : ℕ → ℕ → List ℕ → Input
input base p bytes = record { base = base; offset = p; bytes = bytes }

pub read_u32 : (base p v : ℕ) (rest : List ℕ) → v < 2 ^ 32 → number w32 (input base p (half v ++ rest)) ≡ Ok (v, input base (p + 4) rest)
read_u32 base p v rest lt =
    let long : 4 ≤ length (half v ++ rest) = rw (length-append, length-half) (omega arith) in
    rw (le-ltb (length (half v ++ rest)) 4 long, take_at (half v) rest 4 (length-half v), drop_at (half v) rest 4 (length-half v), half-read v lt) refl

-- four bytes that are written out
pub read_four : (base p a b c d : ℕ) (rest : List ℕ) → number w32 (input base p (a ∷ b ∷ c ∷ d ∷ rest)) ≡ Ok (from_le_bytes w32 (a ∷ b ∷ c ∷ d ∷ []), input base (p + 4) rest)
read_four base p a b c d rest =
    let long : 4 ≤ length (a ∷ b ∷ c ∷ d ∷ rest) = omega arith in
    rw (le-ltb (length (a ∷ b ∷ c ∷ d ∷ rest)) 4 long) refl

pub read_byte : (base p b : ℕ) (rest : List ℕ) → number w8 (input base p (b ∷ rest)) ≡ Ok (b, input base (p + 1) rest)
read_byte base p b rest =
    let long : 1 ≤ length (b ∷ rest) = omega arith in
    rw (le-ltb (length (b ∷ rest)) 1 long) refl

pub split_front : (base p n : ℕ) (front rest : List ℕ) → length front ≡ n → split n (input base p (front ++ rest)) ≡ Ok (input base p front, input base (p + n) rest)
split_front base p n front rest long =
    let fits : n ≤ length (front ++ rest) = rw length-append (omega arith) in
    rw (le-ltb (length (front ++ rest)) n fits, take_at front rest n long, drop_at front rest n long) refl

-- a number of one byte
pub read_small : (base p b : ℕ) (rest : List ℕ) → b < 128 → uleb (input base p (b ∷ rest)) ≡ Ok (b, input base (p + 1) rest)
read_small base p b rest lt = rw (read_byte base p b rest, lt-ltb b 128 lt) refl

-- ---- relative pointers

distance_is : (at to : ℕ) → at < 2 ^ 31 → to < 2 ^ 31 → (at + signed_word 32 (distance_from at to)) % 2 ^ 64 ≡ to
distance_is at to la lt = elim (cases_lt to at) [
  | inl below ↦
      let d : distance_from at to ≡ 2 ^ 32 + to - at = omega arith in
      rw (d, le-ltb (2 ^ 32 + to - at) (2 ^ 31) (omega arith)) (omega arith)
  | inr above ↦
      let d : distance_from at to ≡ to - at = omega arith in
      rw (d, lt-ltb (to - at) (2 ^ 31) (omega arith)) (omega arith)
]

distance_fits : (at to : ℕ) → distance_from at to < 2 ^ 32
distance_fits at to = omega arith

-- a pointer relative to its place
pub read_relative : (bases : Bases) (base p to : ℕ) (rest : List ℕ) → base + p < 2 ^ 31 → to < 2 ^ 31 → pointer 0x1b bases (input base p (relative (base + p) to ++ rest)) ≡ Ok (Direct to, input base (p + 4) rest)
read_relative bases base p to rest la lt =
    let place : (base + p) % 2 ^ 64 ≡ base + p = omega arith in
    rw (read_u32 base p (distance_from (base + p) to) rest (distance_fits (base + p) to), place, distance_is (base + p) to la lt) refl

-- a pointer relative to a header
pub read_from_header : (bases : Bases) (h base p to : ℕ) (rest : List ℕ) → h < 2 ^ 31 → to < 2 ^ 31 → bases.data_base ≡ Some h → direct 0x3b bases (input base p (relative h to ++ rest)) ≡ Ok (to, input base (p + 4) rest)
read_from_header bases h base p to rest la lt known =
    rw (known, read_u32 base p (distance_from h to) rest (distance_fits h to), distance_is h to la lt) refl

-- ---- the body of an entry

-- a length of four bytes, and so many bytes after it
pub read_body : (base p n a b c d : ℕ) (front rest : List ℕ) → from_le_bytes w32 (a ∷ b ∷ c ∷ d ∷ []) ≡ n → n ≢ 0 → n < 2 ^ 32 - 1 → length front ≡ n →
    body (input base p (a ∷ b ∷ c ∷ d ∷ front ++ rest)) ≡ Ok (Some (input base (p + 4) front), input base ((p + 4) + n) rest)
read_body base p n a b c d front rest spelled some lt long =
    let short : (n == 2 ^ 32 - 1) ≡ false = ne_eqb n (2 ^ 32 - 1) (λ e. absurd (omega arith)) in
    rw (ne_eqb (length (a ∷ b ∷ c ∷ d ∷ front ++ rest)) 0 (λ e. absurd (omega arith)), read_four base p a b c d (front ++ rest), spelled, ne_eqb n 0 some, short, split_front base (p + 4) n front rest long) refl
