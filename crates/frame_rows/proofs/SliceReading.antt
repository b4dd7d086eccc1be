-- Reading a program from bytes alone, wherever they stand.
use Rattle.std.proofs.Common.{◌≡◌, ℕ, zero, suc, ◌<◌, ◌≤◌, false, List, [], ◌∷◌, length, None, Result, Ok, Err, refl, sym, ap, ◌∙◌, subst, arith}
use Rattle.std.specs.Prelude.{◌==◌}
use Rattle.std.proofs.Math.Dec.{eqb-suc-zero}
use Rattle.unwind_definitions.specs.declared.error.Error.{Error as Fault}
use Rattle.unwind_definitions.specs.Input.{Input}
use Rattle.unwind_definitions.specs.Instructions.{Coding, Instruction, Program, after, instruction, program, program_from}
use Rattle.frame_rows.specs.Movable.{IsRelative}
use Rattle.frame_rows.specs.Stepping.{IsLeft}
use Rattle.frame_rows.specs.Stretches.{BeginsWith}
use Rattle.frame_rows.proofs.ByBytes.{Agrees, instruction_agrees}

not_zero : (n : ℕ) → 0 < n → (n == 0) ≡ false
not_zero zero lt = absurd (omega arith)
not_zero (suc n) lt = eqb-suc-zero n

abbrev nothing : Program
nothing = record { instructions = []; fault = None }

module _ (k : Coding) where
  pub record Next (q : Program) (i : Instruction) (rest : List ℕ) : Type 0 where
    pub later : Program
    pub begins : BeginsWith q i later
    pub left : IsLeft k rest later

  next_of : (m : ℕ) (i : Instruction) (next : Input) (rest : List ℕ) (r : Result (Instruction × Input) Fault) → next.bytes ≡ rest → length rest ≤ m → IsRelative i → Agrees (Ok (i, next)) r → Next (after r (program_from m k)) i rest
  next_of m i next rest (Err e) same enough relative agrees = absurd (agrees relative)
  next_of m i next rest (Ok s) same enough relative agrees =
      let both = agrees relative in
      record {
        later = program_from m k s.1;
        begins = ap (λ (j : Instruction). let p : Program = record { instructions = j ∷ (program_from m k s.1).instructions; fault = (program_from m k s.1).fault } in p) (sym both.0);
        left = record { input = s.1; turns = m; bytes = sym both.1 ∙ same; enough = enough; is = refl };
      }

  from_turns : (turns : ℕ) (c d next : Input) (i : Instruction) (rest : List ℕ) → c.bytes ≡ d.bytes → instruction k c ≡ Ok (i, next) → next.bytes ≡ rest → length rest < length d.bytes → length d.bytes ≤ turns → IsRelative i → Next (program_from turns k d) i rest
  from_turns zero c d next i rest same is after fewer enough relative = absurd (omega arith)
  from_turns (suc m) c d next i rest same is after fewer enough relative =
      let some : (length d.bytes == 0) ≡ false = not_zero (length d.bytes) (omega arith) in
      let agrees = subst (λ (r : Result (Instruction × Input) Fault). Agrees r (instruction k d)) is (instruction_agrees k k refl refl c d same) in
      rw some (next_of m i next rest (instruction k d) after (omega arith) relative agrees)

  -- an instruction that is read from bytes alone is the next of a program of which these are left
  pub read_left : (c next : Input) (i : Instruction) (bytes rest : List ℕ) (q : Program) → c.bytes ≡ bytes → instruction k c ≡ Ok (i, next) → next.bytes ≡ rest → length rest < length bytes → IsRelative i → IsLeft k bytes q → Next q i rest
  read_left c next i bytes rest q same is after fewer relative left =
      let n = ap length left.bytes in
      let enough = left.enough in
      subst (λ (p : Program). Next p i rest) (sym left.is) (from_turns left.turns c left.input next i rest (same ∙ sym left.bytes) is after (omega arith) (omega arith) relative)

  nothing_in : (turns : ℕ) (d : Input) → length d.bytes ≡ 0 → program_from turns k d ≡ nothing
  nothing_in zero d none = refl
  nothing_in (suc m) d none = rw none refl

  -- where no bytes are left, no instructions are
  pub none_left : (q : Program) → IsLeft k [] q → q ≡ nothing
  none_left q left = left.is ∙ nothing_in left.turns left.input (ap length left.bytes)

  -- all bytes of a program are left
  pub all_left : (c : Input) → IsLeft k c.bytes (program k c)
  all_left c = record { input = c; turns = length c.bytes; bytes = refl; enough = omega arith; is = refl }
