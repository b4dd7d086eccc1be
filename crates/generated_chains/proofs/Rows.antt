-- The rows of the functions of a generated chain.
use Rattle.std.proofs.Common.{◌≡◌, ℕ, ◌+◌, ◌-◌, ◌<◌, ◌≤◌, ◌^◌, Bool, true, false, ltb, leb, List, [], ◌∷◌, ◌++◌, None, Ok, refl, sym, ap, ◌∙◌, arith, inl, inr, lit≤}
use Rattle.std.specs.Prelude.{IsTrue}
use Rattle.std.specs.Option.{option_or}
use Rattle.std.proofs.lemmas.Bool.{leb-true, ltb-true, le-leb, lt-leb, lt-ltb, le-ltb, cases_lt}
use Rattle.unwind_definitions.specs.Pointers.{Bases}
use Rattle.unwind_definitions.specs.Entries.{coding_of}
use Rattle.unwind_definitions.specs.Instructions.{Offset, Instruction, Nop, Remember, Restore, Advance, SetLocation, Write, Reset, Cfa, CfaColumn, CfaOffset, CfaExpression, Arguments, Program, program, instruction_of}
use Rattle.unwind_definitions.specs.Row.{RowInstructions, up_to, location, fault_of, first_fault, row, row_at, rule_of}
use Rattle.unwind_definitions.specs.State.{column_of}
use Rattle.unwind_definitions.specs.Prologue.{steps_of, distance}
use Rattle.unwind_definitions.specs.Function.{in_body}
use Rattle.unwind_definitions.specs.DescribedRows.{HasRow, IsBodyRow, IsPrologueRow, MayFindLate, FindsRegister, ended_by, DescribesRows}
use Rattle.unwind_laws.proofs.Booleans.{both_true, either_false}
use Rattle.unwind_laws.proofs.RowFacts.{by_register, unnamed, same_ended, none_ends}
use Rattle.unwind_laws.proofs.Steady.{is_steady, same_up_to}
use Rattle.generated_chains.specs.declared.outline.Kind.{Kind}
use Rattle.generated_chains.specs.declared.outline.Kind.TheVariants.{Pushes, PushesAndAllocates, SetsFrame, SetsFrameAndPushes}
use Rattle.generated_chains.specs.declared.outline.Handling.{Handling}
use Rattle.generated_chains.specs.declared.outline.Handling.TheVariants.{PassesOn, CleansUp, Catches}
use Rattle.generated_chains.specs.Code.{prologue_of, code_at}
use Rattle.generated_chains.proofs.Entries.{cie_by, fde_at}

-- ---- a program's rows don't depend on where its function starts

-- how far instructions lead, where none sets the location
abbrev length_of : List Instruction → ℕ
length_of [] = 0
length_of (Advance n ∷ is) = n + length_of is
length_of (i ∷ is) = length_of is

-- none sets the location
abbrev only_advances : List Instruction → Bool
only_advances [] = true
only_advances (SetLocation a ∷ is) = false
only_advances (i ∷ is) = only_advances is

module _ (start offset : ℕ) where
  up_to-moved : (at : ℕ) (is : List Instruction) → only_advances is ≡ true → start + at + length_of is < 2 ^ 64 → up_to (start + at) (start + offset) is ≡ up_to at offset is
  up_to-moved at [] plain lt = refl
  up_to-moved at (Advance n ∷ is) plain lt =
      let place : (start + at) + n ≡ start + (at + n) = omega arith in
      let low : ltb (start + (at + n)) (2 ^ 64) ≡ true = lt-ltb (start + (at + n)) (2 ^ 64) (omega arith) in
      let low' : ltb (at + n) (2 ^ 64) ≡ true = lt-ltb (at + n) (2 ^ 64) (omega arith) in
      let ih : up_to (start + (at + n)) (start + offset) is ≡ up_to (at + n) offset is = up_to-moved (at + n) is plain (omega arith) in
      let same : ltb (start + offset) (start + (at + n)) ≡ ltb offset (at + n) = before (at + n) in
      rw (place, same, low, low', ih) refl
    where
      before : (b : ℕ) → ltb (start + offset) (start + b) ≡ ltb offset b
      before b = elim (cases_lt offset b) [
        | inl lt ↦ lt-ltb (start + offset) (start + b) (omega arith) ∙ sym (lt-ltb offset b lt)
        | inr ge ↦ le-ltb (start + offset) (start + b) (omega arith) ∙ sym (le-ltb offset b ge)
      ]
  up_to-moved at (SetLocation a ∷ is) plain lt = absurd cc
  up_to-moved at (Nop ∷ is) plain lt = ap (λ x. Nop ∷ x) (up_to-moved at is plain lt)
  up_to-moved at (Remember ∷ is) plain lt = ap (λ x. Remember ∷ x) (up_to-moved at is plain lt)
  up_to-moved at (Restore ∷ is) plain lt = ap (λ x. Restore ∷ x) (up_to-moved at is plain lt)
  up_to-moved at (Write c r ∷ is) plain lt = ap (λ x. Write c r ∷ x) (up_to-moved at is plain lt)
  up_to-moved at (Reset c ∷ is) plain lt = ap (λ x. Reset c ∷ x) (up_to-moved at is plain lt)
  up_to-moved at (Cfa c n ∷ is) plain lt = ap (λ x. Cfa c n ∷ x) (up_to-moved at is plain lt)
  up_to-moved at (CfaColumn c ∷ is) plain lt = ap (λ x. CfaColumn c ∷ x) (up_to-moved at is plain lt)
  up_to-moved at (CfaOffset n ∷ is) plain lt = ap (λ x. CfaOffset n ∷ x) (up_to-moved at is plain lt)
  up_to-moved at (CfaExpression b ∷ is) plain lt = ap (λ x. CfaExpression b ∷ x) (up_to-moved at is plain lt)
  up_to-moved at (Arguments n ∷ is) plain lt = ap (λ x. Arguments n ∷ x) (up_to-moved at is plain lt)

-- ---- nor do its faults

location-after : (at : ℕ) (xs ys : List Instruction) → location at (xs ++ ys) ≡ location (location at xs) ys
location-after at [] ys = refl
location-after at (Advance n ∷ xs) ys = location-after (at + n) xs ys
location-after at (SetLocation a ∷ xs) ys = location-after a xs ys
location-after at (Nop ∷ xs) ys = location-after at xs ys
location-after at (Remember ∷ xs) ys = location-after at xs ys
location-after at (Restore ∷ xs) ys = location-after at xs ys
location-after at (Write c r ∷ xs) ys = location-after at xs ys
location-after at (Reset c ∷ xs) ys = location-after at xs ys
location-after at (Cfa c n ∷ xs) ys = location-after at xs ys
location-after at (CfaColumn c ∷ xs) ys = location-after at xs ys
location-after at (CfaOffset n ∷ xs) ys = location-after at xs ys
location-after at (CfaExpression b ∷ xs) ys = location-after at xs ys
location-after at (Arguments n ∷ xs) ys = location-after at xs ys

-- instructions lead so far from wherever they begin
abbrev LeadBy : ℕ → List Instruction → Type 0
LeadBy d is = (at : ℕ) → location at is ≡ at + d

module _ (start : ℕ) where
  advances : (run : RowInstructions) (n d : ℕ) → LeadBy d run.own → start + d + n < 2 ^ 64 → fault_of start run (Advance n) ≡ fault_of 0 run (Advance n)
  advances run n d leads lt =
      let here : leb (2 ^ 64) (location start run.own + n) ≡ false = rw (leads start) (lt-leb (2 ^ 64) ((start + d) + n) (omega arith)) in
      let there : leb (2 ^ 64) (location 0 run.own + n) ≡ false = rw (leads 0) (lt-leb (2 ^ 64) ((0 + d) + n) (omega arith)) in
      rw (here, there) refl

  first_fault-moved : (run : RowInstructions) (is : List Instruction) (d : ℕ) → LeadBy d run.own → only_advances is ≡ true → start + d + length_of is < 2 ^ 64 → first_fault start run is ≡ first_fault 0 run is
  first_fault-moved run [] d leads plain lt = refl
  first_fault-moved run (Advance n ∷ is) d leads plain lt =
      let ih = first_fault-moved (record run { own = run.own ++ Advance n ∷ [] }) is (d + n) (λ at. location-after at run.own (Advance n ∷ []) ∙ ap (λ (x : ℕ). x + n) (leads at) ∙ further at) plain (omega arith) in
      rw (advances run n d leads (omega arith), ih) refl
    where
      further : (at : ℕ) → (at + d) + n ≡ at + (d + n)
      further at = omega arith
  first_fault-moved run (SetLocation a ∷ is) d leads plain lt = absurd cc
  first_fault-moved run (Nop ∷ is) d leads plain lt = ap (option_or (fault_of 0 run (Nop))) (first_fault-moved (record run { own = run.own ++ Nop ∷ [] }) is d (λ at. location-after at run.own (Nop ∷ []) ∙ leads at) plain lt)
  first_fault-moved run (Remember ∷ is) d leads plain lt = ap (option_or (fault_of 0 run (Remember))) (first_fault-moved (record run { own = run.own ++ Remember ∷ [] }) is d (λ at. location-after at run.own (Remember ∷ []) ∙ leads at) plain lt)
  first_fault-moved run (Restore ∷ is) d leads plain lt = ap (option_or (fault_of 0 run (Restore))) (first_fault-moved (record run { own = run.own ++ Restore ∷ [] }) is d (λ at. location-after at run.own (Restore ∷ []) ∙ leads at) plain lt)
  first_fault-moved run (Write c r ∷ is) d leads plain lt = ap (option_or (fault_of 0 run (Write c r))) (first_fault-moved (record run { own = run.own ++ (Write c r) ∷ [] }) is d (λ at. location-after at run.own (Write c r ∷ []) ∙ leads at) plain lt)
  first_fault-moved run (Reset c ∷ is) d leads plain lt = ap (option_or (fault_of 0 run (Reset c))) (first_fault-moved (record run { own = run.own ++ (Reset c) ∷ [] }) is d (λ at. location-after at run.own (Reset c ∷ []) ∙ leads at) plain lt)
  first_fault-moved run (Cfa c n ∷ is) d leads plain lt = ap (option_or (fault_of 0 run (Cfa c n))) (first_fault-moved (record run { own = run.own ++ (Cfa c n) ∷ [] }) is d (λ at. location-after at run.own (Cfa c n ∷ []) ∙ leads at) plain lt)
  first_fault-moved run (CfaColumn c ∷ is) d leads plain lt = ap (option_or (fault_of 0 run (CfaColumn c))) (first_fault-moved (record run { own = run.own ++ (CfaColumn c) ∷ [] }) is d (λ at. location-after at run.own (CfaColumn c ∷ []) ∙ leads at) plain lt)
  first_fault-moved run (CfaOffset n ∷ is) d leads plain lt = ap (option_or (fault_of 0 run (CfaOffset n))) (first_fault-moved (record run { own = run.own ++ (CfaOffset n) ∷ [] }) is d (λ at. location-after at run.own (CfaOffset n ∷ []) ∙ leads at) plain lt)
  first_fault-moved run (CfaExpression b ∷ is) d leads plain lt = ap (option_or (fault_of 0 run (CfaExpression b))) (first_fault-moved (record run { own = run.own ++ (CfaExpression b) ∷ [] }) is d (λ at. location-after at run.own (CfaExpression b ∷ []) ∙ leads at) plain lt)
  first_fault-moved run (Arguments n ∷ is) d leads plain lt = ap (option_or (fault_of 0 run (Arguments n))) (first_fault-moved (record run { own = run.own ++ (Arguments n) ∷ [] }) is d (λ at. location-after at run.own (Arguments n ∷ []) ∙ leads at) plain lt)

-- ---- the programs

abbrev common : Program
common = record { instructions = Cfa 7 8 ∷ Write 16 (Offset (2 ^ 64 - 8)) ∷ Nop ∷ Nop ∷ []; fault = None }

abbrev own_of : Kind → Program
own_of Pushes = record { instructions = Advance 1 ∷ CfaOffset 16 ∷ Write 3 (Offset (2 ^ 64 - 16)) ∷ Nop ∷ Nop ∷ Nop ∷ Nop ∷ Nop ∷ Nop ∷ []; fault = None }
own_of PushesAndAllocates = record { instructions = Advance 1 ∷ CfaOffset 16 ∷ Write 3 (Offset (2 ^ 64 - 16)) ∷ Advance 4 ∷ CfaOffset 32 ∷ Nop ∷ Nop ∷ Nop ∷ []; fault = None }
own_of SetsFrame = record { instructions = Advance 1 ∷ CfaOffset 16 ∷ Write 6 (Offset (2 ^ 64 - 16)) ∷ Advance 3 ∷ CfaColumn 6 ∷ Nop ∷ Nop ∷ Nop ∷ []; fault = None }
own_of SetsFrameAndPushes = record { instructions = Advance 1 ∷ CfaOffset 16 ∷ Write 6 (Offset (2 ^ 64 - 16)) ∷ Advance 3 ∷ CfaColumn 6 ∷ Advance 1 ∷ Write 3 (Offset (2 ^ 64 - 24)) ∷ []; fault = None }

common_is : (bases : Bases) (handling : Handling) → program (coding_of bases (cie_by handling)) (cie_by handling).program ≡ common
unfolding instruction_of
common_is bases PassesOn = refl
common_is bases CleansUp = refl
common_is bases Catches = refl

own_is : (bases : Bases) (kind : Kind) (handling : Handling) (q start : ℕ) → program (coding_of bases (cie_by handling)) (fde_at kind handling q start).program ≡ own_of kind
unfolding instruction_of
own_is bases Pushes PassesOn q start = refl
own_is bases Pushes CleansUp q start = refl
own_is bases Pushes Catches q start = refl
own_is bases PushesAndAllocates PassesOn q start = refl
own_is bases PushesAndAllocates CleansUp q start = refl
own_is bases PushesAndAllocates Catches q start = refl
own_is bases SetsFrame PassesOn q start = refl
own_is bases SetsFrame CleansUp q start = refl
own_is bases SetsFrame Catches q start = refl
own_is bases SetsFrameAndPushes PassesOn q start = refl
own_is bases SetsFrameAndPushes CleansUp q start = refl
own_is bases SetsFrameAndPushes Catches q start = refl

-- ---- the row between two ends of steps

-- What is so of a program's instructions, and of those that are reached from its start at low.
pub record HasSteady (kind : Kind) (low high : ℕ) (run : RowInstructions) : Type 0 where
  pub steady : is_steady 0 low high (own_of kind).instructions ≡ true
  pub plain : only_advances (own_of kind).instructions ≡ true
  pub short : length_of (own_of kind).instructions ≤ 64
  pub plain_reached : only_advances (up_to 0 low (own_of kind).instructions) ≡ true
  pub short_reached : length_of (up_to 0 low (own_of kind).instructions) ≤ 64
  pub row : row 0 low common (own_of kind) ≡ Ok run
  pub inside : high ≤ 64

row_between : (bases : Bases) (kind : Kind) (handling : Handling) (q start low high pc : ℕ) (run : RowInstructions) → HasSteady kind low high run → start < 2 ^ 31 → start + low ≤ pc → pc < start + high → row_at bases (fde_at kind handling q start) pc ≡ Ok run
unfolding row_at
row_between bases kind handling q start low high pc run has lt from below =
    let offset : ℕ = pc - start in
    let is : List Instruction = (own_of kind).instructions in
    let place : start + offset ≡ pc = omega arith in
    let zero_after : start + 0 ≡ start = omega arith in
    let moved : up_to (start + 0) (start + offset) is ≡ up_to 0 offset is = up_to-moved start offset 0 is has.plain (omega (arith, has.short)) in
    let moved' : up_to start pc is ≡ up_to 0 offset is = rw (zero_after, place) at moved in
    let reached : up_to start pc is ≡ up_to 0 low is = moved' ∙ same_up_to low high offset (omega arith) (omega arith) 0 is has.steady in
    let faults : first_fault start (record { common = common.instructions; own = [] }) (up_to 0 low is) ≡ first_fault 0 (record { common = common.instructions; own = [] }) (up_to 0 low is) =
    first_fault-moved start (record { common = common.instructions; own = [] }) (up_to 0 low is) 0 (λ at. omega arith) has.plain_reached (omega (arith, has.short_reached)) in
    rw (le-leb start pc (omega arith), lt-ltb pc (start + 64) (omega (arith, has.inside)), common_is bases handling, own_is bases kind handling q start, reached, faults) has.row

-- of a prologue, the row where the steps that end by an offset have run
prologue_between : (bases : Bases) (kind : Kind) (handling : Handling) (q start low high pc : ℕ) (run : RowInstructions) → HasSteady kind low high run → none_ends low high (prologue_of kind) ≡ true → IsPrologueRow (ended_by low (prologue_of kind)) run →
    start < 2 ^ 31 → start + low ≤ pc → pc < start + high → HasRow bases (fde_at kind handling q start) pc (IsPrologueRow (ended_by (pc - start) (prologue_of kind)))
prologue_between bases kind handling q start low high pc run has none is lt from below =
    let steps : ended_by (pc - start) (prologue_of kind) ≡ ended_by low (prologue_of kind) = same_ended (prologue_of kind) low high (pc - start) (omega arith) (omega arith) none in
    (run, row_between bases kind handling q start low high pc run has lt from below, rw steps is)

abbrev run_pushes_0 : RowInstructions
run_pushes_0 = record { common = common.instructions; own = [] }

steady_pushes_0 : HasSteady Pushes 0 1 run_pushes_0
steady_pushes_0 = record { steady = refl; plain = refl; short = lit≤ tt; plain_reached = refl; short_reached = lit≤ tt; row = refl; inside = lit≤ tt }

prologue_pushes_0 : IsPrologueRow (ended_by 0 (prologue_of Pushes)) run_pushes_0
prologue_pushes_0 = record {
  cfa = refl;
  ret = refl;
  saved = λ r. by_register (λ r. MayFindLate r (ended_by 0 (prologue_of Pushes)) (rule_of run_pushes_0 (column_of r))) (inl (inl refl)) (inl (inl refl)) (inl (inl refl)) (inl (inl refl)) (inl (inl refl)) (inl (inl refl)) r;
  others = λ c e. unnamed run_pushes_0 refl refl c e;
  arguments = refl;
}

abbrev run_pushes_1 : RowInstructions
run_pushes_1 = record { common = common.instructions; own = Advance 1 ∷ CfaOffset 16 ∷ Write 3 (Offset (2 ^ 64 - 16)) ∷ Nop ∷ Nop ∷ Nop ∷ Nop ∷ Nop ∷ Nop ∷ [] }

steady_pushes_1 : HasSteady Pushes 1 64 run_pushes_1
steady_pushes_1 = record { steady = refl; plain = refl; short = lit≤ tt; plain_reached = refl; short_reached = lit≤ tt; row = refl; inside = lit≤ tt }

prologue_pushes_1 : IsPrologueRow (ended_by 1 (prologue_of Pushes)) run_pushes_1
prologue_pushes_1 = record {
  cfa = refl;
  ret = refl;
  saved = λ r. by_register (λ r. MayFindLate r (ended_by 1 (prologue_of Pushes)) (rule_of run_pushes_1 (column_of r))) (inl refl) (inl (inl refl)) (inl (inl refl)) (inl (inl refl)) (inl (inl refl)) (inl (inl refl)) r;
  others = λ c e. unnamed run_pushes_1 refl refl c e;
  arguments = refl;
}

body_pushes : IsBodyRow (steps_of (prologue_of Pushes)) run_pushes_1
body_pushes = record {
  cfa = refl;
  ret = refl;
  saved = λ r. by_register (λ r. FindsRegister (distance r (steps_of (prologue_of Pushes))) (rule_of run_pushes_1 (column_of r))) (refl) (inl refl) (inl refl) (inl refl) (inl refl) (inl refl) r;
  others = λ c e. unnamed run_pushes_1 refl refl c e;
  arguments = refl;
}

abbrev run_allocates_0 : RowInstructions
run_allocates_0 = record { common = common.instructions; own = [] }

steady_allocates_0 : HasSteady PushesAndAllocates 0 1 run_allocates_0
steady_allocates_0 = record { steady = refl; plain = refl; short = lit≤ tt; plain_reached = refl; short_reached = lit≤ tt; row = refl; inside = lit≤ tt }

prologue_allocates_0 : IsPrologueRow (ended_by 0 (prologue_of PushesAndAllocates)) run_allocates_0
prologue_allocates_0 = record {
  cfa = refl;
  ret = refl;
  saved = λ r. by_register (λ r. MayFindLate r (ended_by 0 (prologue_of PushesAndAllocates)) (rule_of run_allocates_0 (column_of r))) (inl (inl refl)) (inl (inl refl)) (inl (inl refl)) (inl (inl refl)) (inl (inl refl)) (inl (inl refl)) r;
  others = λ c e. unnamed run_allocates_0 refl refl c e;
  arguments = refl;
}

abbrev run_allocates_1 : RowInstructions
run_allocates_1 = record { common = common.instructions; own = Advance 1 ∷ CfaOffset 16 ∷ Write 3 (Offset (2 ^ 64 - 16)) ∷ [] }

steady_allocates_1 : HasSteady PushesAndAllocates 1 5 run_allocates_1
steady_allocates_1 = record { steady = refl; plain = refl; short = lit≤ tt; plain_reached = refl; short_reached = lit≤ tt; row = refl; inside = lit≤ tt }

prologue_allocates_1 : IsPrologueRow (ended_by 1 (prologue_of PushesAndAllocates)) run_allocates_1
prologue_allocates_1 = record {
  cfa = refl;
  ret = refl;
  saved = λ r. by_register (λ r. MayFindLate r (ended_by 1 (prologue_of PushesAndAllocates)) (rule_of run_allocates_1 (column_of r))) (inl refl) (inl (inl refl)) (inl (inl refl)) (inl (inl refl)) (inl (inl refl)) (inl (inl refl)) r;
  others = λ c e. unnamed run_allocates_1 refl refl c e;
  arguments = refl;
}

abbrev run_allocates_5 : RowInstructions
run_allocates_5 = record { common = common.instructions; own = Advance 1 ∷ CfaOffset 16 ∷ Write 3 (Offset (2 ^ 64 - 16)) ∷ Advance 4 ∷ CfaOffset 32 ∷ Nop ∷ Nop ∷ Nop ∷ [] }

steady_allocates_5 : HasSteady PushesAndAllocates 5 64 run_allocates_5
steady_allocates_5 = record { steady = refl; plain = refl; short = lit≤ tt; plain_reached = refl; short_reached = lit≤ tt; row = refl; inside = lit≤ tt }

prologue_allocates_5 : IsPrologueRow (ended_by 5 (prologue_of PushesAndAllocates)) run_allocates_5
prologue_allocates_5 = record {
  cfa = refl;
  ret = refl;
  saved = λ r. by_register (λ r. MayFindLate r (ended_by 5 (prologue_of PushesAndAllocates)) (rule_of run_allocates_5 (column_of r))) (inl refl) (inl (inl refl)) (inl (inl refl)) (inl (inl refl)) (inl (inl refl)) (inl (inl refl)) r;
  others = λ c e. unnamed run_allocates_5 refl refl c e;
  arguments = refl;
}

body_allocates : IsBodyRow (steps_of (prologue_of PushesAndAllocates)) run_allocates_5
body_allocates = record {
  cfa = refl;
  ret = refl;
  saved = λ r. by_register (λ r. FindsRegister (distance r (steps_of (prologue_of PushesAndAllocates))) (rule_of run_allocates_5 (column_of r))) (refl) (inl refl) (inl refl) (inl refl) (inl refl) (inl refl) r;
  others = λ c e. unnamed run_allocates_5 refl refl c e;
  arguments = refl;
}

abbrev run_sets_0 : RowInstructions
run_sets_0 = record { common = common.instructions; own = [] }

steady_sets_0 : HasSteady SetsFrame 0 1 run_sets_0
steady_sets_0 = record { steady = refl; plain = refl; short = lit≤ tt; plain_reached = refl; short_reached = lit≤ tt; row = refl; inside = lit≤ tt }

prologue_sets_0 : IsPrologueRow (ended_by 0 (prologue_of SetsFrame)) run_sets_0
prologue_sets_0 = record {
  cfa = refl;
  ret = refl;
  saved = λ r. by_register (λ r. MayFindLate r (ended_by 0 (prologue_of SetsFrame)) (rule_of run_sets_0 (column_of r))) (inl (inl refl)) (inl (inl refl)) (inl (inl refl)) (inl (inl refl)) (inl (inl refl)) (inl (inl refl)) r;
  others = λ c e. unnamed run_sets_0 refl refl c e;
  arguments = refl;
}

abbrev run_sets_1 : RowInstructions
run_sets_1 = record { common = common.instructions; own = Advance 1 ∷ CfaOffset 16 ∷ Write 6 (Offset (2 ^ 64 - 16)) ∷ [] }

steady_sets_1 : HasSteady SetsFrame 1 4 run_sets_1
steady_sets_1 = record { steady = refl; plain = refl; short = lit≤ tt; plain_reached = refl; short_reached = lit≤ tt; row = refl; inside = lit≤ tt }

prologue_sets_1 : IsPrologueRow (ended_by 1 (prologue_of SetsFrame)) run_sets_1
prologue_sets_1 = record {
  cfa = refl;
  ret = refl;
  saved = λ r. by_register (λ r. MayFindLate r (ended_by 1 (prologue_of SetsFrame)) (rule_of run_sets_1 (column_of r))) (inl (inl refl)) (inl refl) (inl (inl refl)) (inl (inl refl)) (inl (inl refl)) (inl (inl refl)) r;
  others = λ c e. unnamed run_sets_1 refl refl c e;
  arguments = refl;
}

abbrev run_sets_4 : RowInstructions
run_sets_4 = record { common = common.instructions; own = Advance 1 ∷ CfaOffset 16 ∷ Write 6 (Offset (2 ^ 64 - 16)) ∷ Advance 3 ∷ CfaColumn 6 ∷ Nop ∷ Nop ∷ Nop ∷ [] }

steady_sets_4 : HasSteady SetsFrame 4 64 run_sets_4
steady_sets_4 = record { steady = refl; plain = refl; short = lit≤ tt; plain_reached = refl; short_reached = lit≤ tt; row = refl; inside = lit≤ tt }

prologue_sets_4 : IsPrologueRow (ended_by 4 (prologue_of SetsFrame)) run_sets_4
prologue_sets_4 = record {
  cfa = refl;
  ret = refl;
  saved = λ r. by_register (λ r. MayFindLate r (ended_by 4 (prologue_of SetsFrame)) (rule_of run_sets_4 (column_of r))) (inl (inl refl)) (inl refl) (inl (inl refl)) (inl (inl refl)) (inl (inl refl)) (inl (inl refl)) r;
  others = λ c e. unnamed run_sets_4 refl refl c e;
  arguments = refl;
}

body_sets : IsBodyRow (steps_of (prologue_of SetsFrame)) run_sets_4
body_sets = record {
  cfa = refl;
  ret = refl;
  saved = λ r. by_register (λ r. FindsRegister (distance r (steps_of (prologue_of SetsFrame))) (rule_of run_sets_4 (column_of r))) (inl refl) (refl) (inl refl) (inl refl) (inl refl) (inl refl) r;
  others = λ c e. unnamed run_sets_4 refl refl c e;
  arguments = refl;
}

abbrev run_sets_and_pushes_0 : RowInstructions
run_sets_and_pushes_0 = record { common = common.instructions; own = [] }

steady_sets_and_pushes_0 : HasSteady SetsFrameAndPushes 0 1 run_sets_and_pushes_0
steady_sets_and_pushes_0 = record { steady = refl; plain = refl; short = lit≤ tt; plain_reached = refl; short_reached = lit≤ tt; row = refl; inside = lit≤ tt }

prologue_sets_and_pushes_0 : IsPrologueRow (ended_by 0 (prologue_of SetsFrameAndPushes)) run_sets_and_pushes_0
prologue_sets_and_pushes_0 = record {
  cfa = refl;
  ret = refl;
  saved = λ r. by_register (λ r. MayFindLate r (ended_by 0 (prologue_of SetsFrameAndPushes)) (rule_of run_sets_and_pushes_0 (column_of r))) (inl (inl refl)) (inl (inl refl)) (inl (inl refl)) (inl (inl refl)) (inl (inl refl)) (inl (inl refl)) r;
  others = λ c e. unnamed run_sets_and_pushes_0 refl refl c e;
  arguments = refl;
}

abbrev run_sets_and_pushes_1 : RowInstructions
run_sets_and_pushes_1 = record { common = common.instructions; own = Advance 1 ∷ CfaOffset 16 ∷ Write 6 (Offset (2 ^ 64 - 16)) ∷ [] }

steady_sets_and_pushes_1 : HasSteady SetsFrameAndPushes 1 4 run_sets_and_pushes_1
steady_sets_and_pushes_1 = record { steady = refl; plain = refl; short = lit≤ tt; plain_reached = refl; short_reached = lit≤ tt; row = refl; inside = lit≤ tt }

prologue_sets_and_pushes_1 : IsPrologueRow (ended_by 1 (prologue_of SetsFrameAndPushes)) run_sets_and_pushes_1
prologue_sets_and_pushes_1 = record {
  cfa = refl;
  ret = refl;
  saved = λ r. by_register (λ r. MayFindLate r (ended_by 1 (prologue_of SetsFrameAndPushes)) (rule_of run_sets_and_pushes_1 (column_of r))) (inl (inl refl)) (inl refl) (inl (inl refl)) (inl (inl refl)) (inl (inl refl)) (inl (inl refl)) r;
  others = λ c e. unnamed run_sets_and_pushes_1 refl refl c e;
  arguments = refl;
}

abbrev run_sets_and_pushes_4 : RowInstructions
run_sets_and_pushes_4 = record { common = common.instructions; own = Advance 1 ∷ CfaOffset 16 ∷ Write 6 (Offset (2 ^ 64 - 16)) ∷ Advance 3 ∷ CfaColumn 6 ∷ [] }

steady_sets_and_pushes_4 : HasSteady SetsFrameAndPushes 4 5 run_sets_and_pushes_4
steady_sets_and_pushes_4 = record { steady = refl; plain = refl; short = lit≤ tt; plain_reached = refl; short_reached = lit≤ tt; row = refl; inside = lit≤ tt }

prologue_sets_and_pushes_4 : IsPrologueRow (ended_by 4 (prologue_of SetsFrameAndPushes)) run_sets_and_pushes_4
prologue_sets_and_pushes_4 = record {
  cfa = refl;
  ret = refl;
  saved = λ r. by_register (λ r. MayFindLate r (ended_by 4 (prologue_of SetsFrameAndPushes)) (rule_of run_sets_and_pushes_4 (column_of r))) (inl (inl refl)) (inl refl) (inl (inl refl)) (inl (inl refl)) (inl (inl refl)) (inl (inl refl)) r;
  others = λ c e. unnamed run_sets_and_pushes_4 refl refl c e;
  arguments = refl;
}

abbrev run_sets_and_pushes_5 : RowInstructions
run_sets_and_pushes_5 = record { common = common.instructions; own = Advance 1 ∷ CfaOffset 16 ∷ Write 6 (Offset (2 ^ 64 - 16)) ∷ Advance 3 ∷ CfaColumn 6 ∷ Advance 1 ∷ Write 3 (Offset (2 ^ 64 - 24)) ∷ [] }

steady_sets_and_pushes_5 : HasSteady SetsFrameAndPushes 5 9 run_sets_and_pushes_5
steady_sets_and_pushes_5 = record { steady = refl; plain = refl; short = lit≤ tt; plain_reached = refl; short_reached = lit≤ tt; row = refl; inside = lit≤ tt }

prologue_sets_and_pushes_5 : IsPrologueRow (ended_by 5 (prologue_of SetsFrameAndPushes)) run_sets_and_pushes_5
prologue_sets_and_pushes_5 = record {
  cfa = refl;
  ret = refl;
  saved = λ r. by_register (λ r. MayFindLate r (ended_by 5 (prologue_of SetsFrameAndPushes)) (rule_of run_sets_and_pushes_5 (column_of r))) (inl refl) (inl refl) (inl (inl refl)) (inl (inl refl)) (inl (inl refl)) (inl (inl refl)) r;
  others = λ c e. unnamed run_sets_and_pushes_5 refl refl c e;
  arguments = refl;
}

abbrev run_sets_and_pushes_9 : RowInstructions
run_sets_and_pushes_9 = record { common = common.instructions; own = Advance 1 ∷ CfaOffset 16 ∷ Write 6 (Offset (2 ^ 64 - 16)) ∷ Advance 3 ∷ CfaColumn 6 ∷ Advance 1 ∷ Write 3 (Offset (2 ^ 64 - 24)) ∷ [] }

steady_sets_and_pushes_9 : HasSteady SetsFrameAndPushes 9 64 run_sets_and_pushes_9
steady_sets_and_pushes_9 = record { steady = refl; plain = refl; short = lit≤ tt; plain_reached = refl; short_reached = lit≤ tt; row = refl; inside = lit≤ tt }

prologue_sets_and_pushes_9 : IsPrologueRow (ended_by 9 (prologue_of SetsFrameAndPushes)) run_sets_and_pushes_9
prologue_sets_and_pushes_9 = record {
  cfa = refl;
  ret = refl;
  saved = λ r. by_register (λ r. MayFindLate r (ended_by 9 (prologue_of SetsFrameAndPushes)) (rule_of run_sets_and_pushes_9 (column_of r))) (inl refl) (inl refl) (inl (inl refl)) (inl (inl refl)) (inl (inl refl)) (inl (inl refl)) r;
  others = λ c e. unnamed run_sets_and_pushes_9 refl refl c e;
  arguments = refl;
}

body_sets_and_pushes : IsBodyRow (steps_of (prologue_of SetsFrameAndPushes)) run_sets_and_pushes_9
body_sets_and_pushes = record {
  cfa = refl;
  ret = refl;
  saved = λ r. by_register (λ r. FindsRegister (distance r (steps_of (prologue_of SetsFrameAndPushes))) (rule_of run_sets_and_pushes_9 (column_of r))) (refl) (refl) (inl refl) (inl refl) (inl refl) (inl refl) r;
  others = λ c e. unnamed run_sets_and_pushes_9 refl refl c e;
  arguments = refl;
}

-- ---- all rows of a function

body_rows : (bases : Bases) (kind : Kind) (handling : Handling) (q start pc : ℕ) → start < 2 ^ 31 → start + 16 ≤ pc → pc < start + 64 → HasRow bases (fde_at kind handling q start) pc (IsBodyRow (steps_of (prologue_of kind)))
body_rows bases Pushes handling q start pc lt from below = (run_pushes_1, row_between bases Pushes handling q start 1 64 pc run_pushes_1 steady_pushes_1 lt (omega arith) below, body_pushes)
body_rows bases PushesAndAllocates handling q start pc lt from below = (run_allocates_5, row_between bases PushesAndAllocates handling q start 5 64 pc run_allocates_5 steady_allocates_5 lt (omega arith) below, body_allocates)
body_rows bases SetsFrame handling q start pc lt from below = (run_sets_4, row_between bases SetsFrame handling q start 4 64 pc run_sets_4 steady_sets_4 lt (omega arith) below, body_sets)
body_rows bases SetsFrameAndPushes handling q start pc lt from below = (run_sets_and_pushes_9, row_between bases SetsFrameAndPushes handling q start 9 64 pc run_sets_and_pushes_9 steady_sets_and_pushes_9 lt (omega arith) below, body_sets_and_pushes)

prologue_rows : (bases : Bases) (kind : Kind) (handling : Handling) (q start pc : ℕ) → start < 2 ^ 31 → start ≤ pc → pc < start + 16 → HasRow bases (fde_at kind handling q start) pc (IsPrologueRow (ended_by (pc - start) (prologue_of kind)))
prologue_rows bases Pushes handling q start pc lt from below =
    elim (cases_lt pc (start + 1)) [
      | inl below_0 ↦ prologue_between bases Pushes handling q start 0 1 pc run_pushes_0 steady_pushes_0 refl prologue_pushes_0 lt (omega arith) (omega arith)
      | inr from_0 ↦ prologue_between bases Pushes handling q start 1 64 pc run_pushes_1 steady_pushes_1 refl prologue_pushes_1 lt (omega arith) (omega arith)
    ]
prologue_rows bases PushesAndAllocates handling q start pc lt from below =
    elim (cases_lt pc (start + 1)) [
      | inl below_0 ↦ prologue_between bases PushesAndAllocates handling q start 0 1 pc run_allocates_0 steady_allocates_0 refl prologue_allocates_0 lt (omega arith) (omega arith)
      | inr from_0 ↦ elim (cases_lt pc (start + 5)) [
        | inl below_1 ↦ prologue_between bases PushesAndAllocates handling q start 1 5 pc run_allocates_1 steady_allocates_1 refl prologue_allocates_1 lt (omega arith) (omega arith)
        | inr from_1 ↦ prologue_between bases PushesAndAllocates handling q start 5 64 pc run_allocates_5 steady_allocates_5 refl prologue_allocates_5 lt (omega arith) (omega arith)
      ]
    ]
prologue_rows bases SetsFrame handling q start pc lt from below =
    elim (cases_lt pc (start + 1)) [
      | inl below_0 ↦ prologue_between bases SetsFrame handling q start 0 1 pc run_sets_0 steady_sets_0 refl prologue_sets_0 lt (omega arith) (omega arith)
      | inr from_0 ↦ elim (cases_lt pc (start + 4)) [
        | inl below_1 ↦ prologue_between bases SetsFrame handling q start 1 4 pc run_sets_1 steady_sets_1 refl prologue_sets_1 lt (omega arith) (omega arith)
        | inr from_1 ↦ prologue_between bases SetsFrame handling q start 4 64 pc run_sets_4 steady_sets_4 refl prologue_sets_4 lt (omega arith) (omega arith)
      ]
    ]
prologue_rows bases SetsFrameAndPushes handling q start pc lt from below =
    elim (cases_lt pc (start + 1)) [
      | inl below_0 ↦ prologue_between bases SetsFrameAndPushes handling q start 0 1 pc run_sets_and_pushes_0 steady_sets_and_pushes_0 refl prologue_sets_and_pushes_0 lt (omega arith) (omega arith)
      | inr from_0 ↦ elim (cases_lt pc (start + 4)) [
        | inl below_1 ↦ prologue_between bases SetsFrameAndPushes handling q start 1 4 pc run_sets_and_pushes_1 steady_sets_and_pushes_1 refl prologue_sets_and_pushes_1 lt (omega arith) (omega arith)
        | inr from_1 ↦ elim (cases_lt pc (start + 5)) [
          | inl below_2 ↦ prologue_between bases SetsFrameAndPushes handling q start 4 5 pc run_sets_and_pushes_4 steady_sets_and_pushes_4 refl prologue_sets_and_pushes_4 lt (omega arith) (omega arith)
          | inr from_2 ↦ elim (cases_lt pc (start + 9)) [
            | inl below_3 ↦ prologue_between bases SetsFrameAndPushes handling q start 5 9 pc run_sets_and_pushes_5 steady_sets_and_pushes_5 refl prologue_sets_and_pushes_5 lt (omega arith) (omega arith)
            | inr from_3 ↦ prologue_between bases SetsFrameAndPushes handling q start 9 64 pc run_sets_and_pushes_9 steady_sets_and_pushes_9 refl prologue_sets_and_pushes_9 lt (omega arith) (omega arith)
          ]
        ]
      ]
    ]

in_body_is : (kind : Kind) (handling : Handling) (start pc : ℕ) → IsTrue (in_body (code_at kind handling start) pc) → (start + 16 ≤ pc) × (pc < start + 64)
in_body_is kind handling start pc h =
    let both = both_true (leb (start + 16) pc) (ltb pc (start + 64)) (either_false _ h) in
    (leb-true (start + 16) pc both.0, ltb-true pc (start + 64) both.1)

-- the rows of each function are described
pub rows_described : (bases : Bases) (kind : Kind) (handling : Handling) (q start : ℕ) → start < 2 ^ 31 → DescribesRows bases (code_at kind handling start) (fde_at kind handling q start)
rows_described bases kind handling q start lt = record {
  bodies = λ inner pc h. let lies = in_body_is kind handling start pc h in body_rows bases kind handling q start pc lt lies.0 lies.1;
  prologue = λ inner pc from below. prologue_rows bases kind handling q start pc lt from below;
  outermost = λ outer pc h. absurd cc;
}
