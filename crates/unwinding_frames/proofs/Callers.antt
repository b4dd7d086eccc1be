-- Applying a row's rules in ascending column order gives the caller that the row says.
use Rattle.std.proofs.Common.{inl, inr, ◌≡◌, ℕ, zero, suc, ◌^◌, ◌<◌, ◌≤◌, ◌≢◌, true, false, List, [], ◌∷◌, Option, Some, None, Result, Ok, Err, refl, sym, ap, ◌∙◌, arith, eqb, ◌==◌, if◌then◌else◌}
use Rattle.std.specs.Prelude.{◌⊎◌, is_some}
use Rattle.std.specs.Option.{option_or}
use Rattle.std.proofs.lemmas.Bool.{cases_lt}
use Rattle.std.proofs.lemmas.Bool.Decides.{nat_tests, eqb_tells}
use Rattle.memory_image.specs.Image.{Span}
use Rattle.memory_image.specs.Results.{◌>>=◌}
use Rattle.unwind_definitions.specs.declared.error.Error.TheVariants.{UnsupportedRegister}
use Rattle.unwind_definitions.specs.Instructions.{Rule}
use Rattle.unwind_definitions.specs.Row.{RowInstructions, CfaRule, rule_of, cfa_rule}
use Rattle.unwind_definitions.specs.Caller.{Columns, Machine, Evaluates, StepFault, Table, rule_value, value_for_column, value_without_rule, column_value, first_fault_below, fault_in, value_in, column_limit, cfa_value, caller_with, caller_of}
use Rattle.frame_rows.specs.Rules.{rule_in, AscendsFrom}
use Rattle.unwinding_frames.specs.Calling.{rules_applied, written_to}

-- a column has a value
abbrev pub HasValue : Result (Option ℕ) StepFault → Type 0
HasValue r = (v : Option ℕ) × (r ≡ Ok v)

-- where each column has a value there is no fault
pub first_fault_below-none : (n : ℕ) (value : ℕ → Result (Option ℕ) StepFault) → ((k : ℕ) → k < n → HasValue (value k)) → first_fault_below n value ≡ None
unfolding first_fault_below
first_fault_below-none zero value each = refl
first_fault_below-none (suc n) value each =
    let before : first_fault_below n value ≡ None = first_fault_below-none n value (λ k low. each k (omega arith)) in
    let here = each n (omega arith) in
    rw (before, here.1) refl

-- the fault of a column below which each has a value
pub first_fault_below-lowest : (n k : ℕ) (e : StepFault) (value : ℕ → Result (Option ℕ) StepFault) → k < n → value k ≡ Err e → ((j : ℕ) → j < k → HasValue (value j)) → first_fault_below n value ≡ Some e
unfolding first_fault_below
first_fault_below-lowest zero k e value low fault before = absurd (omega arith)
first_fault_below-lowest (suc n) k e value low fault before = go (λ less. first_fault_below-lowest n k e value less fault before) (cases_lt k n)
  where
    go : (k < n → first_fault_below n value ≡ Some e) → (k < n) ⊎ (n ≤ k) → option_or (first_fault_below n value) (fault_in (value n)) ≡ Some e
    go earlier (inl less) = rw (earlier less) refl
    go earlier (inr more) =
        let last : n ≡ k = omega arith in
        rw (first_fault_below-none n value (λ j small. before j (omega arith)), last, fault) refl

-- columns that ascend end below the limit
ascends-below : (low : ℕ) (rules : List (ℕ × Rule)) → AscendsFrom low rules → low ≤ 2 ^ 16
ascends-below low [] up = up
ascends-below low (p ∷ ps) up = let from : low ≤ p.0 = up.0 in let later : suc p.0 ≤ 2 ^ 16 = ascends-below (suc p.0) ps up.1 in omega arith

-- a column below all rules has none
rule_in-below : (low k : ℕ) (rules : List (ℕ × Rule)) → AscendsFrom low rules → k < low → rule_in rules k ≡ None
rule_in-below low k [] up small = refl
rule_in-below low k (p ∷ ps) up small =
    let from : low ≤ p.0 = up.0 in
    let later : rule_in ps k ≡ None = rule_in-below (suc p.0) k ps up.1 (omega arith) in
    let other : eqb p.0 k ≡ false = grind (arith, nat_tests) in
    rw (other, later) refl

no_column : (o : Option ℕ) → is_some o ≡ false → o ≡ None
no_column None e = refl
no_column (Some v) e = absurd cc

some_column : (o : Option ℕ) → is_some o ≡ true → (v : ℕ) × (o ≡ Some v)
some_column (Some v) e = (v, refl)
some_column None e = absurd cc

module _ (machine : Machine) (evaluates : Evaluates) (image : List Span) (old : Columns) (cfa : ℕ) (run : RowInstructions) where
  abbrev value : ℕ → Result (Option ℕ) StepFault
  value k = column_value machine evaluates image old cfa run k

  abbrev due : Result Columns StepFault
  due = caller_with machine evaluates image old run (Ok cfa)

  -- So far the columns hold the value of each one that has no rule left.
  pub record Stands (low : ℕ) (rest : List (ℕ × Rule)) (now : Columns) : Type 0 where
    pub same : (k : ℕ) → is_some (now k) ≡ is_some (old k)
    pub done : (k : ℕ) → rule_in rest k ≡ None → column_value machine evaluates image old cfa run k ≡ Ok (now k)
    pub todo : (k : ℕ) (rule : Rule) → rule_in rest k ≡ Some rule → rule_of run k ≡ Some rule
    pub ascend : AscendsFrom low rest

  -- with no rule left they are the caller's
  finished : (low : ℕ) (now : Columns) → Stands low [] now → Ok now ≡ due
  finished low now stands =
      let none : first_fault_below column_limit value ≡ None = first_fault_below-none column_limit value (λ k small. (now k, stands.done k refl)) in
      let kept : (λ (k : ℕ). value_in (value k)) ≡ now = λ i k. ap value_in (stands.done k refl) i in
      rw (none, kept) refl

  -- what the first rule left gives its column
  first_value : (low : ℕ) (p : ℕ × Rule) (ps : List (ℕ × Rule)) (now : Columns) → Stands low (p ∷ ps) now → value p.0 ≡ value_for_column (old p.0) (rule_value evaluates image old cfa p.0 p.1)
  first_value low p ps now stands =
      let here : eqb p.0 p.0 ≡ true = grind (arith, nat_tests) in
      let first : rule_in (p ∷ ps) p.0 ≡ Some p.1 = rw here refl in
      rw (stands.todo p.0 p.1 first) refl

  -- a fault of the first rule left is the caller's
  failed : (low : ℕ) (p : ℕ × Rule) (ps : List (ℕ × Rule)) (now : Columns) (e : StepFault) → Stands low (p ∷ ps) now → value p.0 ≡ Err e → Err e ≡ due
  failed low p ps now e stands fault =
      let up = stands.ascend in
      let last : suc p.0 ≤ 2 ^ 16 = ascends-below (suc p.0) ps up.1 in
      let small : p.0 < column_limit = omega arith in
      let below : (j : ℕ) → j < p.0 → HasValue (value j) = λ j less. (now j, stands.done j (rule_in-below p.0 j (p ∷ ps) (omega arith, up.1) less)) in
      rw (first_fault_below-lowest column_limit p.0 e value small fault below) refl

  abbrev with_value : Columns → ℕ → ℕ → Columns
  with_value now k v = λ j. if j == k then Some v else now j

  -- the first rule left is applied
  moved : (low : ℕ) (p : ℕ × Rule) (ps : List (ℕ × Rule)) (now : Columns) (v : ℕ) → Stands low (p ∷ ps) now → rule_value evaluates image old cfa p.0 p.1 ≡ Ok v →
      is_some (now p.0) ≡ true → Stands (suc p.0) ps (with_value now p.0 v)
  moved low p ps now v stands gives some =
      let later : rule_in ps p.0 ≡ None = rule_in-below (suc p.0) p.0 ps stands.ascend.1 (omega arith) in
      let was = some_column (old p.0) (sym (stands.same p.0) ∙ some) in
      record {
        same = λ k. elim (eqb_tells k p.0) as (λ t. is_some (with_value now p.0 v k) ≡ is_some (old k)) [
          | inl e ↦ let at : k ≡ p.0 = e.1 in rw (e.0, at, was.1) refl
          | inr other ↦ rw other.0 (stands.same k)
        ];
        done = λ k none. elim (eqb_tells k p.0) as (λ t. value k ≡ Ok (with_value now p.0 v k)) [
          | inl e ↦ let at : k ≡ p.0 = e.1 in rw (e.0, at) (first_value low p ps now stands ∙ rw (gives, was.1) refl)
          | inr other ↦
              let apart : eqb p.0 k ≡ false = let differ : k ≢ p.0 = other.1 in grind (arith, nat_tests) in
              let passed : rule_in (p ∷ ps) k ≡ None = rw apart none in
              rw other.0 (stands.done k passed)
        ];
        todo = λ k rule found. elim (eqb_tells p.0 k) as (λ t. rule_of run k ≡ Some rule) [
          | inl e ↦ let at : p.0 ≡ k = e.1 in let none : rule_in ps k ≡ None = rw (← at) later in absurd cc
          | inr other ↦ let passed : rule_in (p ∷ ps) k ≡ Some rule = rw other.0 found in stands.todo k rule passed
        ];
        ascend = stands.ascend.1;
      }

  -- what follows the first rule left, once its value is written or not
  after_write : (low : ℕ) (p : ℕ × Rule) (ps : List (ℕ × Rule)) (now : Columns) (v : ℕ) → Stands low (p ∷ ps) now → rule_value evaluates image old cfa p.0 p.1 ≡ Ok v →
      ((next : Columns) → Stands (suc p.0) ps next → rules_applied evaluates image old cfa ps next ≡ due) → (o : Option ℕ) → now p.0 ≡ o →
      (written_to o now p.0 v >>= rules_applied evaluates image old cfa ps) ≡ due
  after_write low p ps now v stands gives later None missing =
      let absent : old p.0 ≡ None = no_column (old p.0) (sym (stands.same p.0) ∙ ap is_some missing) in
      failed low p ps now (Table UnsupportedRegister) stands (first_value low p ps now stands ∙ rw (gives, absent) refl)
  after_write low p ps now v stands gives later (Some w) there = later (with_value now p.0 v) (moved low p ps now v stands gives (ap is_some there))

  -- what follows the value of the first rule left
  after_value : (low : ℕ) (p : ℕ × Rule) (ps : List (ℕ × Rule)) (now : Columns) → Stands low (p ∷ ps) now →
      ((next : Columns) → Stands (suc p.0) ps next → rules_applied evaluates image old cfa ps next ≡ due) → (given : Result ℕ StepFault) → rule_value evaluates image old cfa p.0 p.1 ≡ given →
      ((given >>= (λ v. written_to (now p.0) now p.0 v)) >>= rules_applied evaluates image old cfa ps) ≡ due
  after_value low p ps now stands later (Err e) gives = failed low p ps now e stands (first_value low p ps now stands ∙ rw gives refl)
  after_value low p ps now stands later (Ok v) gives = after_write low p ps now v stands gives later (now p.0) refl

  -- Applied in ascending column order, the rules left lead to the caller or to its first fault.
  pub applied-is_caller : (low : ℕ) (rest : List (ℕ × Rule)) (now : Columns) → Stands low rest now → rules_applied evaluates image old cfa rest now ≡ due
  applied-is_caller low [] now stands = finished low now stands
  applied-is_caller low (p ∷ ps) now stands =
      after_value low p ps now stands (λ next later. applied-is_caller (suc p.0) ps next later) (rule_value evaluates image old cfa p.0 p.1) refl

begun-same : (machine : Machine) (old : Columns) (cfa k : ℕ) → is_some (old machine.stack_pointer) ≡ true → is_some (old machine.return_address) ≡ true → is_some (value_without_rule machine old cfa k) ≡ is_some (old k)
begun-same machine old cfa k sp ra = elim (eqb_tells k machine.stack_pointer) as (λ t. is_some (value_without_rule machine old cfa k) ≡ is_some (old k)) [
  | inl e ↦ let at : k ≡ machine.stack_pointer = e.1 in rw (e.0, at, sp) refl
  | inr other ↦ elim (eqb_tells k machine.return_address) as (λ t. is_some (value_without_rule machine old cfa k) ≡ is_some (old k)) [
    | inl e ↦ let at : k ≡ machine.return_address = e.1 in rw (other.0, e.0, at, ra) refl
    | inr apart ↦ rw (other.0, apart.0) refl
  ]
]

-- a row's rules stand before the first is applied
pub begun-stands : (machine : Machine) (evaluates : Evaluates) (image : List Span) (old : Columns) (cfa : ℕ) (run : RowInstructions) (rules : List (ℕ × Rule)) → is_some (old machine.stack_pointer) ≡ true → is_some (old machine.return_address) ≡ true →
    AscendsFrom 0 rules → ((k : ℕ) → rule_in rules k ≡ rule_of run k) → Stands machine evaluates image old cfa run 0 rules (value_without_rule machine old cfa)
begun-stands machine evaluates image old cfa run rules sp ra up each = record {
  same = λ k. begun-same machine old cfa k sp ra;
  done = λ k none. let free : rule_of run k ≡ None = sym (each k) ∙ none in rw free refl;
  todo = λ k rule found. sym (each k) ∙ found;
  ascend = up;
}

-- A row's rules, applied to the columns with its CFA, give the caller by the row.
pub row_caller : (machine : Machine) (evaluates : Evaluates) (image : List Span) (old : Columns) (cfa : ℕ) (run : RowInstructions) (rule : CfaRule) (rules : List (ℕ × Rule)) → is_some (old machine.stack_pointer) ≡ true → is_some (old machine.return_address) ≡ true →
    cfa_rule run ≡ Some rule → cfa_value evaluates old rule ≡ Ok cfa → AscendsFrom 0 rules → ((k : ℕ) → rule_in rules k ≡ rule_of run k) →
    rules_applied evaluates image old cfa rules (value_without_rule machine old cfa) ≡ caller_of machine evaluates image old run
row_caller machine evaluates image old cfa run rule rules sp ra ruled gives up each =
    let stands = begun-stands machine evaluates image old cfa run rules sp ra up each in
    applied-is_caller machine evaluates image old cfa run 0 rules (value_without_rule machine old cfa) stands ∙ rw (ruled, gives) refl
