-- Small facts on rows.
use Rattle.std.proofs.Common.{◌≡◌, ℕ, ◌^◌, ◌<◌, ◌≤◌, Bool, true, false, cond, leb, ◌&&◌, List, [], ◌∷◌, Option, None, refl, ap, ◌∙◌, arith}
use Rattle.std.specs.Prelude.{◌==◌}
use Rattle.std.specs.Option.{unwrap_or}
use Rattle.std.proofs.lemmas.Bool.{leb-true, le-leb, lt-leb, eqb-true}
use Rattle.unwind_definitions.specs.State.{CalleeSaved, RBX, RBP, R12, R13, R14, R15, State, IsState, value_of}
use Rattle.unwind_definitions.specs.Prologue.{PrologueStep}
use Rattle.unwind_definitions.specs.Instructions.{Rule, Instruction, Nop, Remember, Restore, Advance, SetLocation, Write, Reset, Cfa, CfaColumn, CfaOffset, CfaExpression, Arguments}
use Rattle.unwind_definitions.specs.Row.{RowInstructions, last_said, says_of, kept_instructions, initial_rule, rule_of}
use Rattle.unwind_definitions.specs.DescribedRows.{may_have_rule, ended_by}
use Rattle.unwind_laws.proofs.Booleans.{both_true}

pub by_register : (P : CalleeSaved → Type 0) → P RBX → P RBP → P R12 → P R13 → P R14 → P R15 → (r : CalleeSaved) → P r
by_register P a b c d e f RBX = a
by_register P a b c d e f RBP = b
by_register P a b c d e f R12 = c
by_register P a b c d e f R13 = d
by_register P a b c d e f R14 = e
by_register P a b c d e f R15 = f

-- whether each rule that is written is of a column that is followed
abbrev pub names_ruled : List Instruction → Bool
names_ruled [] = true
names_ruled (Write c r ∷ is) = may_have_rule c && names_ruled is
names_ruled (Reset c ∷ is) = may_have_rule c && names_ruled is
names_ruled (i ∷ is) = names_ruled is

differ : (k c : ℕ) → may_have_rule k ≡ true → may_have_rule c ≡ false → (k == c) ≡ false
differ k c fol unf = go (k == c) refl
  where
    go : (b : Bool) → (k == c) ≡ b → b ≡ false
    go true e = let same : k ≡ c = eqb-true k c e in let fol' : may_have_rule c ≡ true = rw same at fol in absurd cc
    go false e = refl

silent : (initial : Option Rule) (c : ℕ) (is : List Instruction) → may_have_rule c ≡ false → names_ruled is ≡ true → last_said (says_of initial c) is ≡ None
silent initial c [] unf all = refl
silent initial c (Write k r ∷ is) unf all = let both = both_true (may_have_rule k) (names_ruled is) all in rw (silent initial c is unf both.1, differ k c both.0 unf) refl
silent initial c (Reset k ∷ is) unf all = let both = both_true (may_have_rule k) (names_ruled is) all in rw (silent initial c is unf both.1, differ k c both.0 unf) refl
silent initial c (Nop ∷ is) unf all = rw (silent initial c is unf all) refl
silent initial c (Remember ∷ is) unf all = rw (silent initial c is unf all) refl
silent initial c (Restore ∷ is) unf all = rw (silent initial c is unf all) refl
silent initial c (Advance n ∷ is) unf all = rw (silent initial c is unf all) refl
silent initial c (SetLocation n ∷ is) unf all = rw (silent initial c is unf all) refl
silent initial c (Cfa k n ∷ is) unf all = rw (silent initial c is unf all) refl
silent initial c (CfaColumn n ∷ is) unf all = rw (silent initial c is unf all) refl
silent initial c (CfaOffset n ∷ is) unf all = rw (silent initial c is unf all) refl
silent initial c (CfaExpression n ∷ is) unf all = rw (silent initial c is unf all) refl
silent initial c (Arguments n ∷ is) unf all = rw (silent initial c is unf all) refl

-- a column that isn't followed has no rule where each rule is of one that is
pub unnamed : (run : RowInstructions) → names_ruled (kept_instructions run.common) ≡ true → names_ruled (kept_instructions run.own) ≡ true → (c : ℕ) → may_have_rule c ≡ false → rule_of run c ≡ None
unnamed run common own c unf =
    let first : initial_rule run c ≡ None = ap (λ o. unwrap_or o None) (silent None c (kept_instructions run.common) unf common) in
    ap (λ o. unwrap_or o (initial_rule run c)) (silent (initial_rule run c) c (kept_instructions run.own) unf own) ∙ first

-- whether no step ends above low and below high
abbrev pub none_ends : ℕ → ℕ → List PrologueStep → Bool
none_ends low high [] = true
none_ends low high (e ∷ p) = cond (leb e.end low) (none_ends low high p) (leb high e.end && none_ends low high p)

pub same_ended : (p : List PrologueStep) (low high offset : ℕ) → low ≤ offset → offset < high → none_ends low high p ≡ true → ended_by offset p ≡ ended_by low p
same_ended [] low high offset from below none = refl
same_ended (e ∷ p) low high offset from below none = step e p low high offset from below (leb e.end low) refl none (same_ended p low high offset from below)
  where
    step : (e : PrologueStep) (p : List PrologueStep) (low high offset : ℕ) → low ≤ offset → offset < high → (b : Bool) → leb e.end low ≡ b →
        cond b (none_ends low high p) (leb high e.end && none_ends low high p) ≡ true → (none_ends low high p ≡ true → ended_by offset p ≡ ended_by low p) →
        ended_by offset (e ∷ p) ≡ ended_by low (e ∷ p)
    step e p low high offset from below true is none ih =
        let le : e.end ≤ low = leb-true e.end low is in
        rw (le-leb e.end offset (omega arith), is) (ap (λ x. e.step ∷ x) (ih none))
    step e p low high offset from below false is none ih =
        let both = both_true (leb high e.end) (none_ends low high p) none in
        let le : high ≤ e.end = leb-true high e.end both.0 in
        let over : leb e.end offset ≡ false = lt-leb e.end offset (omega arith) in
        rw (over, is) (ih both.1)

pub state_fits : (s : State) → s.ra < 2 ^ 64 → s.sp < 2 ^ 64 → s.rbx < 2 ^ 64 → s.rbp < 2 ^ 64 → s.r12 < 2 ^ 64 → s.r13 < 2 ^ 64 → s.r14 < 2 ^ 64 → s.r15 < 2 ^ 64 → IsState s
state_fits s a b c d e f g h = record { ra = a; sp = b; registers = by_register (λ r. value_of r s < 2 ^ 64) c d e f g h }
