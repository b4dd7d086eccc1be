-- Between two advances the row stays the same.
use Rattle.std.proofs.Common.{◌≡◌, ℕ, ◌+◌, ◌^◌, ◌<◌, ◌≤◌, Bool, true, false, cond, ltb, leb, ◌&&◌, List, [], ◌∷◌, refl, ap, arith}
use Rattle.std.proofs.lemmas.Bool.{leb-true, le-ltb, lt-ltb, le-leb}
use Rattle.unwind_definitions.specs.Pointers.{Bases}
use Rattle.unwind_definitions.specs.Instructions.{Instruction, Nop, Remember, Restore, Advance, SetLocation, Write, Reset, Cfa, CfaColumn, CfaOffset, CfaExpression, Arguments, Program, program}
use Rattle.unwind_definitions.specs.Row.{up_to, row_of, row_at}
use Rattle.unwind_definitions.specs.Entries.{Fde, coding_of}
use Rattle.unwind_laws.proofs.Booleans.{both_true}

-- no instruction leads to a location above low and below high
abbrev pub is_steady : ℕ → ℕ → ℕ → List Instruction → Bool
is_steady at low high [] = true
is_steady at low high (Advance n ∷ is) = cond (leb (at + n) low) (is_steady (at + n) low high is) (leb high (at + n) && ltb (at + n) (2 ^ 64))
is_steady at low high (SetLocation a ∷ is) = cond (leb a low) (is_steady a low high is) (leb high a && leb at a)
is_steady at low high (Nop ∷ is) = is_steady at low high is
is_steady at low high (Remember ∷ is) = is_steady at low high is
is_steady at low high (Restore ∷ is) = is_steady at low high is
is_steady at low high (Write c r ∷ is) = is_steady at low high is
is_steady at low high (Reset c ∷ is) = is_steady at low high is
is_steady at low high (Cfa c n ∷ is) = is_steady at low high is
is_steady at low high (CfaColumn c ∷ is) = is_steady at low high is
is_steady at low high (CfaOffset n ∷ is) = is_steady at low high is
is_steady at low high (CfaExpression b ∷ is) = is_steady at low high is
is_steady at low high (Arguments n ∷ is) = is_steady at low high is

module _ (low high pc : ℕ) (from : low ≤ pc) (below : pc < high) where
  step_case : (at to : ℕ) (i : Instruction) (is : List Instruction) (tail : Bool) (stops : Bool) (b : Bool) → leb to low ≡ b → cond b tail (leb high to && stops) ≡ true →
      (tail ≡ true → up_to to pc is ≡ up_to to low is) →
      cond (ltb pc to && stops) [] (i ∷ up_to to pc is) ≡ cond (ltb low to && stops) [] (i ∷ up_to to low is)
  step_case at to i is tail stops true e steady ih =
      let le : to ≤ low = leb-true to low e in
      rw (le-ltb pc to (omega arith), le-ltb low to le) (ap (λ x. i ∷ x) (ih steady))
  step_case at to i is tail stops false e steady ih =
      let both = both_true (leb high to) stops steady in
      let le : high ≤ to = leb-true high to both.0 in
      rw (lt-ltb pc to (omega arith), lt-ltb low to (omega arith), both.1) refl

  pub same_up_to : (at : ℕ) (is : List Instruction) → is_steady at low high is ≡ true → up_to at pc is ≡ up_to at low is
  same_up_to at [] steady = refl
  same_up_to at (Advance n ∷ is) steady = step_case at (at + n) (Advance n) is (is_steady (at + n) low high is) (ltb (at + n) (2 ^ 64)) (leb (at + n) low) refl steady (same_up_to (at + n) is)
  same_up_to at (SetLocation a ∷ is) steady = step_case at a (SetLocation a) is (is_steady a low high is) (leb at a) (leb a low) refl steady (same_up_to a is)
  same_up_to at (Nop ∷ is) steady = ap (λ x. Nop ∷ x) (same_up_to at is steady)
  same_up_to at (Remember ∷ is) steady = ap (λ x. Remember ∷ x) (same_up_to at is steady)
  same_up_to at (Restore ∷ is) steady = ap (λ x. Restore ∷ x) (same_up_to at is steady)
  same_up_to at (Write c r ∷ is) steady = ap (λ x. Write c r ∷ x) (same_up_to at is steady)
  same_up_to at (Reset c ∷ is) steady = ap (λ x. Reset c ∷ x) (same_up_to at is steady)
  same_up_to at (Cfa c n ∷ is) steady = ap (λ x. Cfa c n ∷ x) (same_up_to at is steady)
  same_up_to at (CfaColumn c ∷ is) steady = ap (λ x. CfaColumn c ∷ x) (same_up_to at is steady)
  same_up_to at (CfaOffset n ∷ is) steady = ap (λ x. CfaOffset n ∷ x) (same_up_to at is steady)
  same_up_to at (CfaExpression b ∷ is) steady = ap (λ x. CfaExpression b ∷ x) (same_up_to at is steady)
  same_up_to at (Arguments n ∷ is) steady = ap (λ x. Arguments n ∷ x) (same_up_to at is steady)

-- a description has the same row at each address between two advances
pub same_row_at : (bases : Bases) (fde : Fde) (low high pc : ℕ) → low ≤ pc → pc < high → fde.start ≤ low → high ≤ fde.start + fde.size →
    is_steady fde.start low high (program (coding_of bases fde.cie) fde.program).instructions ≡ true → row_at bases fde pc ≡ row_at bases fde low
unfolding row_at
same_row_at bases fde low high pc from below inside within steady =
    let common : Program = program (coding_of bases fde.cie) fde.cie.program in
    let own : Program = program (coding_of bases fde.cie) fde.program in
    rw (le-leb fde.start pc (omega arith), lt-ltb pc (fde.start + fde.size) (omega arith), le-leb fde.start low inside, lt-ltb low (fde.start + fde.size) (omega arith))
    (ap (row_of fde.start common own) (same_up_to low high pc from below fde.start own.instructions steady))
