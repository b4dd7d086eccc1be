-- Remembering a state and restoring it, in the words of the row: what is remembered is what a restore would leave.
use Rattle.std.proofs.Common.{◌≡◌, ℕ, Bool, true, false, List, [], ◌∷◌, ◌++◌, Option, Some, None, refl, sym, ap, ◌∙◌, append_assoc}
use Rattle.std.specs.Option.{option_or, unwrap_or}
use Rattle.unwind_definitions.specs.Instructions.{Instruction, Nop, Remember, Restore, Advance, SetLocation, Write, Reset, Cfa, CfaColumn, CfaOffset, CfaExpression, Arguments}
use Rattle.unwind_definitions.specs.Row.{RowInstructions, last_said, remembers, is_open, kept_instructions, cut_of, Cut, rule_of, cfa_rule, cfa_of, argument_size, arguments, initial_rule, says_of}
use Rattle.unwind_laws.proofs.Push.{last_said-push}
use Rattle.unwind_laws.specs.Reached.{push}

abbrev says : List Instruction → Option Bool
says is = last_said remembers is

abbrev join : Instruction → Cut → Cut
join Remember c = record { kept = unwrap_or c.after c.kept; after = c.after }
join Restore c = record { kept = Restore ∷ c.kept; after = Some c.kept }
join i c = record { kept = i ∷ c.kept; after = c.after }

cut_cons : (i : Instruction) (is : List Instruction) → cut_of (i ∷ is) ≡ join i (cut_of is)
cut_cons Nop is = refl
cut_cons Remember is = refl
cut_cons Restore is = refl
cut_cons (Advance n) is = refl
cut_cons (SetLocation n) is = refl
cut_cons (Write c r) is = refl
cut_cons (Reset c) is = refl
cut_cons (Cfa c n) is = refl
cut_cons (CfaColumn c) is = refl
cut_cons (CfaOffset n) is = refl
cut_cons (CfaExpression b) is = refl
cut_cons (Arguments n) is = refl

-- the same beside more lists at the end
under : (k : Instruction) (xs ys : List Instruction) → cut_of xs ≡ cut_of ys → cut_of (k ∷ xs) ≡ cut_of (k ∷ ys)
under k xs ys e = cut_cons k xs ∙ ap (join k) e ∙ sym (cut_cons k ys)

-- instructions that neither remember nor restore
abbrev silent_cut : List Instruction → Cut → Cut
silent_cut is c = record { kept = is ++ c.kept; after = c.after }

silent : (is more : List Instruction) → says is ≡ None → cut_of (is ++ more) ≡ silent_cut is (cut_of more)
silent [] more e = refl
silent (k ∷ is) more e = go k (says is) refl e (silent is more)
  where
    go : (k : Instruction) (o : Option Bool) → says is ≡ o → option_or o (remembers k) ≡ None → (says is ≡ None → cut_of (is ++ more) ≡ silent_cut is (cut_of more)) → cut_of (k ∷ (is ++ more)) ≡ silent_cut (k ∷ is) (cut_of more)
    go k (Some b) at e ih = absurd cc
    go Remember None at e ih = absurd cc
    go Restore None at e ih = absurd cc
    go Nop None at e ih = ap (join Nop) (ih at)
    go (Advance n) None at e ih = ap (join (Advance n)) (ih at)
    go (SetLocation n) None at e ih = ap (join (SetLocation n)) (ih at)
    go (Write c r) None at e ih = ap (join (Write c r)) (ih at)
    go (Reset c) None at e ih = ap (join (Reset c)) (ih at)
    go (Cfa c n) None at e ih = ap (join (Cfa c n)) (ih at)
    go (CfaColumn c) None at e ih = ap (join (CfaColumn c)) (ih at)
    go (CfaOffset n) None at e ih = ap (join (CfaOffset n)) (ih at)
    go (CfaExpression b) None at e ih = ap (join (CfaExpression b)) (ih at)
    go (Arguments n) None at e ih = ap (join (Arguments n)) (ih at)

-- what an instruction says of remembering
data Kind : Instruction → Type 0 where
  AsRemember : Kind Remember
  AsRestore : Kind Restore
  AsOther : {i : Instruction} → remembers i ≡ None → Kind i

kind : (i : Instruction) → Kind i
kind Remember = AsRemember
kind Restore = AsRestore
kind Nop = AsOther refl
kind (Advance n) = AsOther refl
kind (SetLocation n) = AsOther refl
kind (Write c r) = AsOther refl
kind (Reset c) = AsOther refl
kind (Cfa c n) = AsOther refl
kind (CfaColumn c) = AsOther refl
kind (CfaOffset n) = AsOther refl
kind (CfaExpression b) = AsOther refl
kind (Arguments n) = AsOther refl

-- a stretch that is open: what is put in before its restore doesn't count
pub open_cut : (own : List Instruction) (i : Instruction) → remembers i ≡ None → says own ≡ Some true → cut_of (own ++ i ∷ Restore ∷ []) ≡ cut_of (own ++ Restore ∷ [])
open_cut [] i plain e = absurd cc
open_cut (k ∷ is) i plain e = go k (kind k) (says is) refl e (open_cut is i plain)
  where
    one : says (i ∷ Restore ∷ []) ≡ Some false
    one = refl

    inner : (o : Option (List Instruction)) (kept : List Instruction) → o ≡ Some [] → unwrap_or o kept ≡ []
    inner None kept h = absurd cc
    inner (Some x) kept h = cc

    go : (k : Instruction) → Kind k → (o : Option Bool) → says is ≡ o → option_or o (remembers k) ≡ Some true →
        (says is ≡ Some true → cut_of (is ++ i ∷ Restore ∷ []) ≡ cut_of (is ++ Restore ∷ [])) → cut_of (k ∷ (is ++ i ∷ Restore ∷ [])) ≡ cut_of (k ∷ (is ++ Restore ∷ []))
    go k kd (Some true) at e ih = under k (is ++ i ∷ Restore ∷ []) (is ++ Restore ∷ []) (ih at)
    go k kd (Some false) at e ih = absurd cc
    go Remember AsRemember None at e ih =
        ap (join Remember) (silent is (i ∷ Restore ∷ []) at ∙ ap (silent_cut is) (cut_cons i (Restore ∷ [])))
        ∙ open_here i plain
        ∙ sym (ap (join Remember) (silent is (Restore ∷ []) at))
      where
        open_here : (i : Instruction) → remembers i ≡ None → join Remember (silent_cut is (join i (cut_of (Restore ∷ [])))) ≡ join Remember (silent_cut is (cut_of (Restore ∷ [])))
        open_here Remember h = absurd cc
        open_here Restore h = absurd cc
        open_here Nop h = refl
        open_here (Advance n) h = refl
        open_here (SetLocation n) h = refl
        open_here (Write c r) h = refl
        open_here (Reset c) h = refl
        open_here (Cfa c n) h = refl
        open_here (CfaColumn c) h = refl
        open_here (CfaOffset n) h = refl
        open_here (CfaExpression b) h = refl
        open_here (Arguments n) h = refl
    go Restore AsRestore None at e ih = absurd cc
    go k (AsOther none) None at e ih = absurd cc

-- a remembered state that is restored at once leaves all as it is
closed_cut : (own : List Instruction) → says own ≡ Some false → cut_of (own ++ Remember ∷ Restore ∷ []) ≡ cut_of own
closed_cut [] e = absurd cc
closed_cut (k ∷ is) e = go k (kind k) (says is) refl e (closed_cut is)
  where
    go : (k : Instruction) → Kind k → (o : Option Bool) → says is ≡ o → option_or o (remembers k) ≡ Some false →
        (says is ≡ Some false → cut_of (is ++ Remember ∷ Restore ∷ []) ≡ cut_of is) → cut_of (k ∷ (is ++ Remember ∷ Restore ∷ [])) ≡ cut_of (k ∷ is)
    go k kd (Some true) at e ih = absurd cc
    go k kd (Some false) at e ih = under k (is ++ Remember ∷ Restore ∷ []) is (ih at)
    go Remember AsRemember None at e ih = absurd cc
    go Restore AsRestore None at e ih = ap (join Restore) (silent is (Remember ∷ Restore ∷ []) at) ∙ sym (ap (join Restore) (ap cut_of (sym (append_nil is)) ∙ silent is [] at))
      where
        append_nil : (xs : List Instruction) → xs ++ [] ≡ xs
        append_nil [] = refl
        append_nil (x ∷ xs) = ap (λ l. x ∷ l) (append_nil xs)
    go k (AsOther none) None at e ih = absurd cc

same_nil : (xs : List Instruction) → xs ++ [] ≡ xs
same_nil [] = refl
same_nil (x ∷ xs) = ap (λ l. x ∷ l) (same_nil xs)

-- where no state is remembered, one that is remembered and restored at once leaves what is kept
pub remembered_kept : (own : List Instruction) → is_open own ≡ false → kept_instructions (own ++ Remember ∷ Restore ∷ []) ≡ kept_instructions own
remembered_kept own e = go (says own) refl e
  where
    go : (o : Option Bool) → says own ≡ o → unwrap_or o false ≡ false → kept_instructions (own ++ Remember ∷ Restore ∷ []) ≡ kept_instructions own
    go None at h = ap (λ (c : Cut). c.kept) (silent own (Remember ∷ Restore ∷ []) at) ∙ sym (ap (λ (c : Cut). c.kept) (ap cut_of (sym (same_nil own)) ∙ silent own [] at))
    go (Some true) at h = absurd cc
    go (Some false) at h = ap (λ (c : Cut). c.kept) (closed_cut own at)

-- remembering alone leaves what is kept
pub remember_kept : (own : List Instruction) → cut_of (own ++ Remember ∷ []) ≡ cut_of own
remember_kept [] = refl
remember_kept (k ∷ is) = under k (is ++ Remember ∷ []) is (remember_kept is)

open_says : (own : List Instruction) → is_open own ≡ true → says own ≡ Some true
open_says own e = go (says own) refl e
  where
    go : (o : Option Bool) → says own ≡ o → unwrap_or o false ≡ true → says own ≡ Some true
    go None at h = absurd cc
    go (Some true) at h = at
    go (Some false) at h = absurd cc

-- ---- for a run

-- what a restore would leave
abbrev pub restored : RowInstructions → RowInstructions
restored run = push run Restore

-- two runs that say the same of every column, of the CFA and of the arguments
pub record SaysSame (a b : RowInstructions) : Type 0 where
  pub rules : (c : ℕ) → rule_of a c ≡ rule_of b c
  pub cfa : cfa_rule a ≡ cfa_rule b
  pub arguments_are : argument_size a ≡ argument_size b

says_same : (common xs ys : List Instruction) → kept_instructions xs ≡ kept_instructions ys → SaysSame (record { common = common; own = xs }) (record { common = common; own = ys })
says_same common xs ys e = record {
  rules = λ c. let i = initial_rule (record { common = common; own = xs }) c in ap (λ (l : List Instruction). unwrap_or (last_said (says_of i c) l) i) e;
  cfa = ap (λ (l : List Instruction). cfa_of (kept_instructions common ++ l)) e;
  arguments_are = ap (λ (l : List Instruction). unwrap_or (last_said arguments (kept_instructions common ++ l)) 0) e;
}

-- A state is remembered: all stays, and what a restore would leave is what there is.
pub remember_same : (run : RowInstructions) → SaysSame (push run Remember) run
remember_same run = says_same run.common (run.own ++ Remember ∷ []) run.own (ap (λ (c : Cut). c.kept) (remember_kept run.own))

pub remember_restores : (run : RowInstructions) → is_open run.own ≡ false → SaysSame (restored (push run Remember)) run
remember_restores run closed = says_same run.common ((run.own ++ Remember ∷ []) ++ Restore ∷ []) run.own (ap kept_instructions (append_assoc run.own (Remember ∷ []) (Restore ∷ [])) ∙ remembered_kept run.own closed)

-- After it, what a restore would leave stays.
pub plain_restores : (run : RowInstructions) (i : Instruction) → remembers i ≡ None → is_open run.own ≡ true → SaysSame (restored (push run i)) (restored run)
plain_restores run i plain opened = says_same run.common ((run.own ++ i ∷ []) ++ Restore ∷ []) (run.own ++ Restore ∷ [])
    (ap kept_instructions (append_assoc run.own (i ∷ []) (Restore ∷ [])) ∙ ap (λ (c : Cut). c.kept) (open_cut run.own i plain (open_says run.own opened)))

-- whether a state is remembered after one more instruction
pub open_push : (own : List Instruction) (i : Instruction) → is_open (own ++ i ∷ []) ≡ unwrap_or (remembers i) (is_open own)
open_push own i = ap (λ o. unwrap_or o false) (last_said-push remembers own i) ∙ go (remembers i)
  where
    go : (o : Option Bool) → unwrap_or (option_or o (says own)) false ≡ unwrap_or o (is_open own)
    go None = refl
    go (Some b) = refl
