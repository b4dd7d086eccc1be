-- Reading one instruction after another gives the row of the whole program.
use Rattle.std.proofs.Common.{◌≡◌, ℕ, zero, suc, ◌+◌, Bool, true, false, cond, eqb, List, [], ◌∷◌, ◌++◌, length, Option, Some, None, Result, Ok, Err, refl, sym, ap, ◌∙◌, append_assoc}
use Rattle.std.specs.Prelude.{◌==◌, if◌then◌else◌}
use Rattle.std.specs.Option.{option_or}
use Rattle.std.proofs.lemmas.List.{append-nil}
use Rattle.std.proofs.Math.Dec.{eqb-zero-suc, eqb-suc-suc}
use Rattle.unwind_definitions.specs.declared.error.Error.{Error as Fault}
use Rattle.unwind_definitions.specs.Faults.{◌>>=◌}
use Rattle.unwind_definitions.specs.Input.{Input}
use Rattle.unwind_definitions.specs.Instructions.{Instruction, Nop, Remember, Restore, Advance, SetLocation, Write, Reset, Cfa, CfaColumn, CfaOffset, CfaExpression, Arguments, Coding, instruction, Program, program, program_from, after}
use Rattle.unwind_definitions.specs.Row.{RowInstructions, fault_of, first_fault, location, up_to, or_else, from_common, common_fault, own_fault, row}
use Rattle.unwind_laws.specs.Reached.{leads_past_limit, push, act, instructions_reached, common_reached, own_reached, row_reached}

same_number : (n : ℕ) → eqb n n ≡ true
same_number zero = refl
same_number (suc n) = eqb-suc-suc n n ∙ same_number n

-- the part of a program that is reached
abbrev pub part : Option ℕ → ℕ → List Instruction → List Instruction
part None at is = is
part (Some pc) at is = up_to at pc is

-- what the part of a program that is reached makes of what ran before it
abbrev pub rest_of : ℕ → RowInstructions → Program → List Instruction → Result RowInstructions Fault
rest_of start run p is = or_else (option_or (first_fault start run is) (if length is == length p.instructions then p.fault else None)) (Ok (record run { own = run.own ++ is }))

abbrev pub whole_rest : ℕ → Option ℕ → RowInstructions → Program → Result RowInstructions Fault
whole_rest start limit run p = rest_of start run p (part limit (location start run.own) p.instructions)

-- where one instruction leads
abbrev pub lead : ℕ → Instruction → ℕ
lead at (Advance n) = at + n
lead at (SetLocation a) = a
lead at _ = at

location_one : (start : ℕ) (i : Instruction) → location start (i ∷ []) ≡ lead start i
location_one start Nop = refl
location_one start Remember = refl
location_one start Restore = refl
location_one start (Advance n) = refl
location_one start (SetLocation n) = refl
location_one start (Write q r) = refl
location_one start (Reset q) = refl
location_one start (Cfa q n) = refl
location_one start (CfaColumn n) = refl
location_one start (CfaOffset n) = refl
location_one start (CfaExpression n) = refl
location_one start (Arguments n) = refl

pub location-push : (start : ℕ) (is : List Instruction) (i : Instruction) → location start (is ++ i ∷ []) ≡ lead (location start is) i
location-push start [] i = location_one start i
location-push start (Nop ∷ is) i = location-push start is i
location-push start (Remember ∷ is) i = location-push start is i
location-push start (Restore ∷ is) i = location-push start is i
location-push start (Advance n ∷ is) i = location-push (start + n) is i
location-push start (SetLocation n ∷ is) i = location-push n is i
location-push start (Write q r ∷ is) i = location-push start is i
location-push start (Reset q ∷ is) i = location-push start is i
location-push start (Cfa q n ∷ is) i = location-push start is i
location-push start (CfaColumn n ∷ is) i = location-push start is i
location-push start (CfaOffset n ∷ is) i = location-push start is i
location-push start (CfaExpression n ∷ is) i = location-push start is i
location-push start (Arguments n ∷ is) i = location-push start is i

part_is : (limit : Option ℕ) (at : ℕ) (i : Instruction) (is : List Instruction) → part limit at (i ∷ is) ≡ cond (leads_past_limit at limit i) [] (i ∷ part limit (lead at i) is)
part_is None at i is = refl
part_is (Some pc) at (Advance n) is = refl
part_is (Some pc) at (SetLocation a) is = refl
part_is (Some pc) at Nop is = refl
part_is (Some pc) at Remember is = refl
part_is (Some pc) at Restore is = refl
part_is (Some pc) at (Write q r) is = refl
part_is (Some pc) at (Reset q) is = refl
part_is (Some pc) at (Cfa q n) is = refl
part_is (Some pc) at (CfaColumn n) is = refl
part_is (Some pc) at (CfaOffset n) is = refl
part_is (Some pc) at (CfaExpression b) is = refl
part_is (Some pc) at (Arguments n) is = refl

part_nil : (limit : Option ℕ) (at : ℕ) → part limit at [] ≡ []
part_nil None at = refl
part_nil (Some pc) at = refl

abbrev ended : RowInstructions → Result RowInstructions Fault
ended run = Ok run

same_run : (run : RowInstructions) → ended (record run { own = run.own ++ [] }) ≡ Ok run
same_run run = ap (λ (o : List Instruction). ended (record run { own = o })) (append-nil run.own)

-- nothing is reached, and something is there
stopped : (start : ℕ) (run : RowInstructions) (i : Instruction) (p : Program) → rest_of start run (record { instructions = i ∷ p.instructions; fault = p.fault }) [] ≡ Ok run
stopped start run i p = ap (λ b. or_else (cond b p.fault None) (Ok (record run { own = run.own ++ [] }))) (eqb-zero-suc (length p.instructions)) ∙ same_run run

parts : (o f pf : Option Fault) (b b' : Bool) (x y : Result RowInstructions Fault) → b ≡ b' → x ≡ y → or_else (option_or (option_or o f) (cond b pf None)) x ≡ or_else o (or_else (option_or f (cond b' pf None)) y)
parts None f pf b b' x y e h = rw (e, h) refl
parts (Some d) f pf b b' x y e h = refl

-- one instruction is reached, and what follows it
further : (start : ℕ) (run : RowInstructions) (i : Instruction) (p : Program) (is : List Instruction) →
    rest_of start run (record { instructions = i ∷ p.instructions; fault = p.fault }) (i ∷ is) ≡ or_else (fault_of start run i) (rest_of start (push run i) p is)
further start run i p is = parts (fault_of start run i) (first_fault start (push run i) is) p.fault _ _ _ _ (eqb-suc-suc (length is) (length p.instructions))
    (ap (λ (o : List Instruction). ended (record run { own = o })) (sym (append_assoc run.own (i ∷ []) is)))

one : (start : ℕ) (limit : Option ℕ) (run : RowInstructions) (i : Instruction) (p : Program) → whole_rest start limit run (record { instructions = i ∷ p.instructions; fault = p.fault }) ≡ act start limit run i (whole_rest start limit (push run i) p)
one start limit run i p = ap (rest_of start run (record { instructions = i ∷ p.instructions; fault = p.fault })) (part_is limit (location start run.own) i p.instructions) ∙ go (leads_past_limit (location start run.own) limit i)
  where
    go : (b : Bool) → rest_of start run (record { instructions = i ∷ p.instructions; fault = p.fault }) (cond b [] (i ∷ part limit (lead (location start run.own) i) p.instructions)) ≡
        cond b (Ok run) (or_else (fault_of start run i) (whole_rest start limit (push run i) p))
    go true = stopped start run i p
    go false = further start run i p (part limit (lead (location start run.own) i) p.instructions)
        ∙ ap (λ at. or_else (fault_of start run i) (rest_of start (push run i) p (part limit at p.instructions))) (sym (location-push start run.own i))

nothing : (start : ℕ) (limit : Option ℕ) (run : RowInstructions) → whole_rest start limit run (record { instructions = []; fault = None }) ≡ Ok run
nothing start limit run = ap (rest_of start run (record { instructions = []; fault = None })) (part_nil limit (location start run.own)) ∙ same_run run

unread : (start : ℕ) (limit : Option ℕ) (run : RowInstructions) (e : Fault) → whole_rest start limit run (record { instructions = []; fault = Some e }) ≡ Err e
unread start limit run e = ap (rest_of start run (record { instructions = []; fault = Some e })) (part_nil limit (location start run.own))

cases : (turns : ℕ) (coding : Coding) (start : ℕ) (limit : Option ℕ) (run : RowInstructions) → ((run : RowInstructions) (c : Input) → instructions_reached turns coding start limit run c ≡ whole_rest start limit run (program_from turns coding c)) →
    (b : Bool) (r : Result (Instruction × Input) Fault) → cond b (Ok run) (r >>= λ x. act start limit run x.0 (instructions_reached turns coding start limit (push run x.0) x.1)) ≡
    whole_rest start limit run (cond b (record { instructions = []; fault = None }) (after r (program_from turns coding)))
cases turns coding start limit run ih true r = sym (nothing start limit run)
cases turns coding start limit run ih false (Ok x) = ap (act start limit run x.0) (ih (push run x.0) x.1) ∙ sym (one start limit run x.0 (program_from turns coding x.1))
cases turns coding start limit run ih false (Err e) = sym (unread start limit run e)

-- what is reached of what is left of a program, after what ran
pub reached_is : (turns : ℕ) (coding : Coding) (start : ℕ) (limit : Option ℕ) (run : RowInstructions) (c : Input) → instructions_reached turns coding start limit run c ≡ whole_rest start limit run (program_from turns coding c)
unfolding instructions_reached
reached_is zero coding start limit run c = sym (nothing start limit run)
reached_is (suc turns) coding start limit run c = cases turns coding start limit run (reached_is turns coding start limit) (length c.bytes == 0) (instruction coding c)

then_run : (o : Option Fault) (x : RowInstructions) (f : RowInstructions → Result RowInstructions Fault) → (or_else o (ended x) >>= f) ≡ or_else o (f x)
then_run None x f = refl
then_run (Some e) x f = refl

whole_common : (p : Program) → whole_rest 0 None (from_common []) p ≡ or_else (common_fault p) (Ok (record { common = []; own = p.instructions }))
whole_common p = ap (λ b. or_else (option_or (first_fault 0 (from_common []) p.instructions) (cond b p.fault None)) (ended (record { common = []; own = p.instructions }))) (same_number (length p.instructions))

-- reading both programs gives their row
pub row_is_read : (coding : Coding) (start pc : ℕ) (common own : Input) →
    (common_reached coding common >>= λ before. own_reached coding start pc before own >>= λ run. row_reached run) ≡ row start pc (program coding common) (program coding own)
row_is_read coding start pc common own =
    let cp : Program = program coding common in
    let op : Program = program coding own in
    let first = reached_is (length common.bytes) coding 0 None (from_common []) common ∙ whole_common cp in
    let second : (before : RowInstructions) → own_reached coding start pc before own ≡ whole_rest start (Some pc) (from_common before.own) op =
    λ before. reached_is (length own.bytes) coding start (Some pc) (from_common before.own) own in
    let rest : RowInstructions → Result RowInstructions Fault = λ before. own_reached coding start pc before own >>= λ run. row_reached run in
    let at_end : RowInstructions = record { common = []; own = cp.instructions } in
    let is : List Instruction = up_to start pc op.instructions in
    let run : RowInstructions = record { common = cp.instructions; own = is } in
    ap (λ r. r >>= rest) first ∙ then_run (common_fault cp) at_end rest
    ∙ ap (or_else (common_fault cp)) (ap (λ r. r >>= λ x. row_reached x) (second at_end) ∙ then_run (own_fault start cp.instructions op is) run (λ x. row_reached x))
