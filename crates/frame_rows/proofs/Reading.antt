-- Reading one instruction after another gives what the whole program's definition says.
use Rattle.std.proofs.Common.{◌≡◌, ℕ, suc, Bool, true, false, cond, List, [], ◌∷◌, ◌++◌, length, Option, Some, None, Result, Ok, Err, refl, sym, ap, ◌∙◌, append_assoc}
use Rattle.std.specs.Prelude.{◌==◌}
use Rattle.std.specs.Option.{option_or}
use Rattle.std.proofs.lemmas.List.{append-nil}
use Rattle.std.proofs.Math.Dec.{eqb-zero-suc, eqb-suc-suc}
use Rattle.unwind_definitions.specs.declared.error.Error.{Error as Fault}
use Rattle.unwind_definitions.specs.Input.{Input}
use Rattle.unwind_definitions.specs.Instructions.{Instruction, Nop, Remember, Restore, Advance, SetLocation, Write, Reset, Cfa, CfaColumn, CfaOffset, CfaExpression, Arguments, Coding, instruction, Program, program_from, after}
use Rattle.unwind_definitions.specs.Row.{RowInstructions, fault_of, first_fault, location, up_to, or_else}
use Rattle.frame_rows.specs.Running.{push, stops, part, outcome}
use Rattle.frame_rows.proofs.Pushed.{lead, location-push}

pub up_to_is : (at pc : ℕ) (i : Instruction) (is : List Instruction) → up_to at pc (i ∷ is) ≡ cond (stops at (Some pc) i) [] (i ∷ up_to (lead at i) pc is)
up_to_is at pc (Advance n) is = refl
up_to_is at pc (SetLocation a) is = refl
up_to_is at pc Nop is = refl
up_to_is at pc Remember is = refl
up_to_is at pc Restore is = refl
up_to_is at pc (Write q r) is = refl
up_to_is at pc (Reset q) is = refl
up_to_is at pc (Cfa q n) is = refl
up_to_is at pc (CfaColumn n) is = refl
up_to_is at pc (CfaOffset n) is = refl
up_to_is at pc (CfaExpression b) is = refl
up_to_is at pc (Arguments n) is = refl

part_is : (at : ℕ) (pc : Option ℕ) (i : Instruction) (is : List Instruction) → part at pc (i ∷ is) ≡ cond (stops at pc i) [] (i ∷ part (lead at i) pc is)
part_is at None i is = refl
part_is at (Some pc) i is = up_to_is at pc i is

-- what a part of a program makes of what ran before it
abbrev rest_of : ℕ → RowInstructions → Program → List Instruction → Result RowInstructions Fault
rest_of start run p is = or_else (option_or (first_fault start run is) (cond (length is == length p.instructions) p.fault None)) (Ok (record run { own = run.own ++ is }))

abbrev ended : RowInstructions → Result RowInstructions Fault
ended run = Ok run

same_run : (run : RowInstructions) → ended (record run { own = run.own ++ [] }) ≡ Ok run
same_run run = ap (λ (o : List Instruction). ended (record run { own = o })) (append-nil run.own)

-- nothing is reached, and something is there
stopped : (start : ℕ) (run : RowInstructions) (i : Instruction) (p : Program) → rest_of start run (record { instructions = i ∷ p.instructions; fault = p.fault }) [] ≡ Ok run
stopped start run i p = ap (λ b. or_else (cond b p.fault None) (ended (record run { own = run.own ++ [] }))) (eqb-zero-suc (length p.instructions)) ∙ same_run run

parts : (o f pf : Option Fault) (b b' : Bool) (x y : Result RowInstructions Fault) → b ≡ b' → x ≡ y → or_else (option_or (option_or o f) (cond b pf None)) x ≡ or_else o (or_else (option_or f (cond b' pf None)) y)
parts None f pf b b' x y e h = rw (e, h) refl
parts (Some d) f pf b b' x y e h = refl

-- one instruction is reached, and what follows it
further : (start : ℕ) (run : RowInstructions) (i : Instruction) (p : Program) (is : List Instruction) →
    rest_of start run (record { instructions = i ∷ p.instructions; fault = p.fault }) (i ∷ is) ≡ or_else (fault_of start run i) (rest_of start (push run i) p is)
further start run i p is = parts (fault_of start run i) (first_fault start (push run i) is) p.fault _ _ _ _ (eqb-suc-suc (length is) (length p.instructions))
    (ap (λ (o : List Instruction). ended (record run { own = o })) (sym (append_assoc run.own (i ∷ []) is)))

module _ (start : ℕ) (pc : Option ℕ) where
  outcome_is : (run : RowInstructions) (p : Program) → outcome start pc run p ≡ rest_of start run p (part (location start run.own) pc p.instructions)
  unfolding outcome
  outcome_is run p = refl

  pub nothing : (run : RowInstructions) → outcome start pc run (record { instructions = []; fault = None }) ≡ Ok run
  nothing run = outcome_is run (record { instructions = []; fault = None }) ∙ none pc
    where
      none : (o : Option ℕ) → rest_of start run (record { instructions = []; fault = None }) (part (location start run.own) o []) ≡ Ok run
      none None = same_run run
      none (Some a) = same_run run

  pub unread : (run : RowInstructions) (e : Fault) → outcome start pc run (record { instructions = []; fault = Some e }) ≡ Err e
  unread run e = outcome_is run (record { instructions = []; fault = Some e }) ∙ none pc
    where
      none : (o : Option ℕ) → rest_of start run (record { instructions = []; fault = Some e }) (part (location start run.own) o []) ≡ Err e
      none None = refl
      none (Some a) = refl

  pub one : (run : RowInstructions) (i : Instruction) (p : Program) (b : Bool) → stops (location start run.own) pc i ≡ b →
      outcome start pc run (record { instructions = i ∷ p.instructions; fault = p.fault }) ≡ cond b (Ok run) (or_else (fault_of start run i) (outcome start pc (push run i) p))
  one run i p b is =
      outcome_is run (record { instructions = i ∷ p.instructions; fault = p.fault })
      ∙ ap (rest_of start run (record { instructions = i ∷ p.instructions; fault = p.fault })) (part_is (location start run.own) pc i p.instructions ∙ ap (λ t. cond t [] (i ∷ part (lead (location start run.own) i) pc p.instructions)) is)
      ∙ go b
    where
      go : (b : Bool) → rest_of start run (record { instructions = i ∷ p.instructions; fault = p.fault }) (cond b [] (i ∷ part (lead (location start run.own) i) pc p.instructions)) ≡
          cond b (Ok run) (or_else (fault_of start run i) (outcome start pc (push run i) p))
      go true = stopped start run i p
      go false = further start run i p (part (lead (location start run.own) i) pc p.instructions)
          ∙ ap (λ at. or_else (fault_of start run i) (rest_of start (push run i) p (part at pc p.instructions))) (sym (location-push start run.own i))
          ∙ ap (or_else (fault_of start run i)) (sym (outcome_is (push run i) p))

  module _ (coding : Coding) (run : RowInstructions) (c : Input) where
    pub at_end : (n : ℕ) → n ≡ 0 → outcome start pc run (program_from n coding c) ≡ Ok run
    at_end n e = ap (λ n. outcome start pc run (program_from n coding c)) e ∙ nothing run

    turn : (n m : ℕ) → n ≡ suc m → program_from n coding c ≡ cond (length c.bytes == 0) (record { instructions = []; fault = None }) (after (instruction coding c) (program_from m coding))
    turn n m e = ap (λ n. program_from n coding c) e

    pub at_empty : (n m : ℕ) → n ≡ suc m → (length c.bytes == 0) ≡ true → outcome start pc run (program_from n coding c) ≡ Ok run
    at_empty n m e h = ap (outcome start pc run) (turn n m e ∙ ap (λ b. cond b (record { instructions = []; fault = None }) (after (instruction coding c) (program_from m coding))) h) ∙ nothing run

    read : (n m : ℕ) (r : Result (Instruction × Input) Fault) → n ≡ suc m → (length c.bytes == 0) ≡ false → instruction coding c ≡ r → program_from n coding c ≡ after r (program_from m coding)
    read n m r e h f = turn n m e ∙ ap (λ b. cond b (record { instructions = []; fault = None }) (after (instruction coding c) (program_from m coding))) h ∙ ap (λ r. after r (program_from m coding)) f

    pub at_fault : (n m : ℕ) (d : Fault) → n ≡ suc m → (length c.bytes == 0) ≡ false → instruction coding c ≡ Err d → outcome start pc run (program_from n coding c) ≡ Err d
    at_fault n m d e h f = ap (outcome start pc run) (read n m (Err d) e h f) ∙ unread run d

    pub at_stop : (n m : ℕ) (i : Instruction) (next : Input) → n ≡ suc m → (length c.bytes == 0) ≡ false → instruction coding c ≡ Ok (i, next) → stops (location start run.own) pc i ≡ true → outcome start pc run (program_from n coding c) ≡ Ok run
    at_stop n m i next e h f st = ap (outcome start pc run) (read n m (Ok (i, next)) e h f) ∙ one run i (program_from m coding next) true st

    pub at_bad : (n m : ℕ) (i : Instruction) (next : Input) (d : Fault) → n ≡ suc m → (length c.bytes == 0) ≡ false → instruction coding c ≡ Ok (i, next) → stops (location start run.own) pc i ≡ false → fault_of start run i ≡ Some d → outcome start pc run (program_from n coding c) ≡ Err d
    at_bad n m i next d e h f st bad = ap (outcome start pc run) (read n m (Ok (i, next)) e h f) ∙ one run i (program_from m coding next) false st ∙ ap (λ o. or_else o (outcome start pc (push run i) (program_from m coding next))) bad

    pub at_next : (n m : ℕ) (i : Instruction) (next : Input) → n ≡ suc m → (length c.bytes == 0) ≡ false → instruction coding c ≡ Ok (i, next) → stops (location start run.own) pc i ≡ false → fault_of start run i ≡ None →
        outcome start pc run (program_from n coding c) ≡ outcome start pc (push run i) (program_from m coding next)
    at_next n m i next e h f st fine = ap (outcome start pc run) (read n m (Ok (i, next)) e h f) ∙ one run i (program_from m coding next) false st ∙ ap (λ o. or_else o (outcome start pc (push run i) (program_from m coding next))) fine
