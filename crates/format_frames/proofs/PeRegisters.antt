-- The registers of PE's unwind data, by their numbers, and those of a context, by their columns.
use Rattle.std.proofs.Common.{◌≡◌, ◌≢◌, ℕ, zero, suc, ◌<◌, ◌≤◌, Bool, true, false, eqb, ltb, ◌&&◌, length, Option, Some, refl, sym, ap, subst, ◌∙◌, inl, inr, arith, lit<}
use Rattle.std.specs.Prelude.{slice_index, slice_set}
use Rattle.std.specs.Option.{unwrap_or}
use Rattle.std.proofs.lemmas.Bool.{lt-ltb, ltb-true, ltb-false}
use Rattle.std.proofs.lemmas.Bool.Decides.{eqb_tells}
use Rattle.unwind_definitions.specs.Caller.{Columns}
use Rattle.unwind_arch.specs.declared.x86_64.Context.{Context}
use Rattle.unwind_arch.specs.ContextViews.{columns_of}
use Rattle.pe_unwind_info.specs.declared.x86_64.registers.Register.{Register}
use Rattle.pe_unwind_info.specs.declared.x86_64.registers.Register.TheVariants as pe
use Rattle.pe_unwind_info.specs.Registers.{register_number}
use Rattle.pe_unwind_info.specs.Machine.{map_with}
use Rattle.format_definitions.specs.CompactStep.{with_column}
use Rattle.format_definitions.specs.PeRegisters.{column_at, number_at, registers_in, columns_with}
use Rattle.format_frames.proofs.Written.{register_columns}

-- ---- numbers and columns

abbrev all_below : ℕ → (ℕ → Bool) → Bool
all_below zero p = true
all_below (suc n) p = p n && all_below n p

both : (a b : Bool) → (a && b) ≡ true → (a ≡ true) × (b ≡ true)
both true true e = (refl, refl)
both true false e = absurd cc
both false b e = absurd cc

each_below : (n : ℕ) (p : ℕ → Bool) → all_below n p ≡ true → (k : ℕ) → k < n → p k ≡ true
each_below zero p all k lt = absurd (omega arith)
each_below (suc n) p all k lt = elim (eqb_tells k n) as (λ t. p k ≡ true) [
  | inl e ↦ subst (λ (m : ℕ). p m ≡ true) (sym e.1) (both (p n) (all_below n p) all).0
  | inr e ↦ each_below n p (both (p n) (all_below n p) all).1 k (let apart : k ≢ n = e.1 in omega arith)
]

equal : (a b : ℕ) → eqb a b ≡ true → a ≡ b
equal a b e = elim (eqb_tells a b) as (λ t. a ≡ b) [
  | inl same ↦ same.1
  | inr other ↦ let bad : true ≡ false = sym e ∙ other.0 in absurd cc
]

differ : (a b : ℕ) → a ≢ b → eqb a b ≡ false
differ a b apart = elim (eqb_tells a b) as (λ t. eqb a b ≡ false) [
  | inl same ↦ absurd (apart same.1)
  | inr other ↦ other.0
]

abbrev comes_back : ℕ → Bool
comes_back n = ltb (column_at n) 16 && (eqb (number_at (column_at n)) n && eqb (column_at (number_at n)) n)

column_facts : (n : ℕ) → n < 16 → (column_at n < 16) × (number_at (column_at n) ≡ n) × (column_at (number_at n) ≡ n)
column_facts n small =
    let all = each_below 16 comes_back refl n small in
    let first = both (ltb (column_at n) 16) (eqb (number_at (column_at n)) n && eqb (column_at (number_at n)) n) all in
    let later = both (eqb (number_at (column_at n)) n) (eqb (column_at (number_at n)) n) first.1 in
    (ltb-true (column_at n) 16 first.0, equal (number_at (column_at n)) n later.0, equal (column_at (number_at n)) n later.1)

-- no other number has another column
beyond : (n : ℕ) → 16 ≤ n → column_at n ≡ n
beyond n big = rw (differ n 1 (λ e. omega arith), differ n 2 (λ e. omega arith), differ n 4 (λ e. omega arith), differ n 5 (λ e. omega arith), differ n 6 (λ e. omega arith), differ n 7 (λ e. omega arith)) refl

columns_apart : (n r : ℕ) → r < 16 → n ≢ r → column_at n ≢ column_at r
columns_apart n r small apart e = go (ltb n 16) refl
  where
    go : (b : Bool) → ltb n 16 ≡ b → ⊥
    go true h =
        let here = column_facts n (ltb-true n 16 h) in
        let there = column_facts r small in
        apart (sym here.1 ∙ ap number_at e ∙ there.1)
    go false h = let big = ltb-false n 16 h in let same = beyond n big in let there = column_facts r small in let fits = there.0 in omega arith

number_fits : (r : Register) → register_number r < 16
number_fits pe.RAX = lit< tt
number_fits pe.RCX = lit< tt
number_fits pe.RDX = lit< tt
number_fits pe.RBX = lit< tt
number_fits pe.RSP = lit< tt
number_fits pe.RBP = lit< tt
number_fits pe.RSI = lit< tt
number_fits pe.RDI = lit< tt
number_fits pe.R8 = lit< tt
number_fits pe.R9 = lit< tt
number_fits pe.R10 = lit< tt
number_fits pe.R11 = lit< tt
number_fits pe.R12 = lit< tt
number_fits pe.R13 = lit< tt
number_fits pe.R14 = lit< tt
number_fits pe.R15 = lit< tt

-- ---- reads and writes

-- what a context holds in a general register
general_column : (c : Context) (k : ℕ) → k < 16 → columns_of c k ≡ Some (slice_index c.registers k)
general_column c k small = rw (lt-ltb k 16 small) refl

pub register_read : (c : Context) (r : Register) (k : ℕ) → k ≡ column_at (register_number r) → slice_index c.registers k ≡ (registers_in (columns_of c)).general (register_number r)
register_read c r k at =
    let facts = column_facts (register_number r) (number_fits r) in
    ap (slice_index c.registers) at ∙ sym (ap (λ (o : Option ℕ). unwrap_or o 0) (general_column c (column_at (register_number r)) facts.0))

pub register_written : (c : Context) (r : Register) (k v : ℕ) → k ≡ column_at (register_number r) → length c.registers ≡ 16 →
    (registers_in (columns_of (record c { registers = slice_set c.registers k v }))).general ≡ map_with (registers_in (columns_of c)).general (register_number r) v
register_written c r k v at all = λ i n. each n i
  where
    small : k < 16
    small = let facts = column_facts (register_number r) (number_fits r) in let fits = facts.0 in omega arith

    with : Columns → ℕ → ℕ
    with columns n = (registers_in columns).general n

    each : (n : ℕ) → (registers_in (columns_of (record c { registers = slice_set c.registers k v }))).general n ≡ map_with (registers_in (columns_of c)).general (register_number r) v n
    each n =
        ap (λ (columns : Columns). (registers_in columns).general n) (register_columns c k v small all)
        ∙ elim (eqb_tells n (register_number r)) as (λ t. (registers_in (with_column (columns_of c) k v)).general n ≡ map_with (registers_in (columns_of c)).general (register_number r) v n) [
          | inl e ↦ let same : eqb (column_at n) k ≡ true = rw (e.1, at) (elim (eqb_tells (column_at (register_number r)) (column_at (register_number r))) as (λ t. eqb (column_at (register_number r)) (column_at (register_number r)) ≡ true) [
            | inl s ↦ s.0
            | inr o ↦ absurd (o.1 refl)
          ]) in rw (same, e.0) refl
          | inr e ↦ let other : eqb (column_at n) k ≡ false = differ (column_at n) k (λ (s : column_at n ≡ k). columns_apart n (register_number r) (number_fits r) e.1 (s ∙ at)) in rw (other, e.0) refl
        ]

-- ---- the caller

-- the columns of a caller, whose registers were unwound, and whose return address was popped
pub unwound : (old c : Context) (ret : ℕ) → columns_of (record old { registers = c.registers; ra = ret }) ≡ columns_with (columns_of old) ret (registers_in (columns_of c))
unwound old c ret = λ i k. each k i
  where
    new : Context
    new = record old { registers = c.registers; ra = ret }

    general : (k : ℕ) → k < 16 → columns_of new k ≡ columns_with (columns_of old) ret (registers_in (columns_of c)) k
    general k small =
        let facts = column_facts k small in
        let apart : eqb k 16 ≡ false = differ k 16 (λ e. omega arith) in
        rw (apart, lt-ltb k 16 small) (ap (λ (w : ℕ). Some w) (sym (ap (λ (o : Option ℕ). unwrap_or o 0) (ap (columns_of c) facts.2 ∙ general_column c k small))))

    each : (k : ℕ) → columns_of new k ≡ columns_with (columns_of old) ret (registers_in (columns_of c)) k
    each k = go (ltb k 16) refl
      where
        go : (b : Bool) → ltb k 16 ≡ b → columns_of new k ≡ columns_with (columns_of old) ret (registers_in (columns_of c)) k
        go true h = general k (ltb-true k 16 h)
        go false h = elim (eqb_tells k 16) as (λ t. columns_of new k ≡ columns_with (columns_of old) ret (registers_in (columns_of c)) k) [
          | inl e ↦ rw (h, e.0) refl
          | inr e ↦ rw (h, e.0) refl
        ]
