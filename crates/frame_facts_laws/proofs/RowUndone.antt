-- A row that says what is known gives the caller.
use Rattle.std.proofs.Common.{◌≡◌, ℕ, ◌+◌, ◌-◌, ◌^◌, ◌<◌, ◌≤◌, Bool, true, false, List, Option, Some, None, Result, Ok, refl, ap, ◌∙◌, arith, inl, inr}
use Rattle.std.specs.Prelude.{◌⊎◌, IfSome}
use Rattle.memory_image.specs.Image.{Span}
use Rattle.unwind_definitions.specs.Instructions.{Offset, Undefined}
use Rattle.unwind_definitions.specs.Row.{RowInstructions, ColumnAndOffset, rule_of}
use Rattle.unwind_definitions.specs.Caller.{◌+w◌, Columns, Evaluates, StepFault, x86_64, cfa_value, column_value, value_without_rule}
use Rattle.unwind_definitions.specs.State.{CalleeSaved, RBX, RBP, R12, R13, R14, R15, State, value_of, column_of, IsState, Shows}
use Rattle.unwind_definitions.specs.DescribedRows.{negative, IsUnchanged}
use Rattle.unwind_laws.specs.Undoes.{Undoes}
use Rattle.unwind_laws.proofs.Booleans.{all_contains}
use Rattle.unwind_laws.proofs.Undo.{undone}
use Rattle.frame_facts.specs.Facts.{Facts, SlotHolds, StandsWith}
use Rattle.frame_facts.specs.FactRows.{FindsKnown, SaysFacts}

-- a word less a distance
less : (a d : ℕ) → d ≤ a → a < 2 ^ 64 → a +w negative d ≡ a - d
less a d le lt = omega arith

plus : (a d top : ℕ) → a + d ≡ top → top < 2 ^ 64 → a +w d ≡ top
plus a d top is lt = omega arith

abbrev number : ℕ → Result ℕ StepFault
number v = Ok v

abbrev holds : Option ℕ → Result (Option ℕ) StepFault
holds v = Ok v

abbrev some : ℕ → Option ℕ
some v = Some v

unruled : (columns : Columns) (cfa : ℕ) (r : CalleeSaved) → value_without_rule x86_64 columns cfa (column_of r) ≡ columns (column_of r)
unruled columns cfa RBX = refl
unruled columns cfa RBP = refl
unruled columns cfa R12 = refl
unruled columns cfa R13 = refl
unruled columns cfa R14 = refl
unruled columns cfa R15 = refl

module _ (evaluates : Evaluates) (image : List Span) (facts : Facts) (run : RowInstructions) (s t : State) (columns : Columns)
    (says : SaysFacts facts run) (stands : StandsWith image facts t s) (words : IsState t) (shows : Shows columns s) where
  by_form : (o : Option ℕ) (n v : ℕ) → o ≡ Some n → IfSome o (λ n. v + n ≡ t.sp) → v + n ≡ t.sp
  by_form (Some m) n v e h = let is : m ≡ n = cc in omega (arith, h, is)
  by_form None n v e h = absurd cc

  -- the CFA is the caller's stack pointer
  cfa_is : cfa_value evaluates columns says.rule ≡ Ok t.sp
  cfa_is = go says.known.0 says.known.1
    where
      go : (n : ℕ) → ((facts.rsp ≡ Some n) × (says.rule ≡ ColumnAndOffset 7 n)) ⊎ ((facts.rbp ≡ Some n) × (says.rule ≡ ColumnAndOffset 6 n)) → cfa_value evaluates columns says.rule ≡ Ok t.sp
      go n (inl h) = let sum = by_form facts.rsp n s.sp h.0 stands.by_rsp in rw (h.1, shows.sp) (ap number (plus s.sp n t.sp sum words.sp))
      go n (inr h) = let sum = by_form facts.rbp n s.rbp h.0 stands.by_rbp in rw (h.1, shows.saved RBP) (ap number (plus s.rbp n t.sp sum words.sp))

  return_is : column_value x86_64 evaluates image columns t.sp run 16 ≡ Ok (Some t.ra)
  return_is = go facts.outermost refl
    where
      go : (b : Bool) → facts.outermost ≡ b → column_value x86_64 evaluates image columns t.sp run 16 ≡ Ok (Some t.ra)
      go true e = let ret : rule_of run 16 ≡ Some Undefined = rw e at says.ret in rw (ret, shows.ra, stands.ends e) refl
      go false e =
          let ret : rule_of run 16 ≡ Some (Offset (negative 8)) = rw e at says.ret in
          let h : 8 ≤ t.sp = stands.room in
          let place : t.sp +w negative 8 ≡ t.sp - 8 = less t.sp 8 h words.sp in
          rw (ret, place, stands.returns e, shows.ra) refl

  register_is : (r : CalleeSaved) → FindsKnown facts r (rule_of run (column_of r)) → column_value x86_64 evaluates image columns t.sp run (column_of r) ≡ Ok (Some (value_of r t))
  register_is r (inl found) =
      let slot : SlotHolds image t (record { register = r; distance = found.0 }) = all_contains (SlotHolds image t) facts.saved (record { register = r; distance = found.0 }) stands.saved found.1 in
      let place : t.sp +w negative found.0 ≡ t.sp - found.0 = less t.sp found.0 slot.0 words.sp in
      rw (found.2, place, slot.1, shows.saved r) refl
  register_is r (inr left) = go left.1
    where
      same : value_of r s ≡ value_of r t
      same = all_contains (λ (q : CalleeSaved). value_of q s ≡ value_of q t) facts.kept r stands.kept left.0

      go : IsUnchanged (rule_of run (column_of r)) → column_value x86_64 evaluates image columns t.sp run (column_of r) ≡ Ok (Some (value_of r t))
      go (inl none) = rw none (ap holds (unruled columns t.sp r ∙ shows.saved r ∙ ap some same))
      go (inr unchanged) = rw (unchanged, shows.saved r, same) refl

  -- By such a row there is a caller, which shows the state from which the other stands, and keeps the other columns.
  pub said_undone : Undoes evaluates image run t columns
  said_undone = undone evaluates image run t columns (record {
    rule = says.rule;
    has_cfa = says.cfa;
    is_cfa = cfa_is;
    ra = return_is;
    saved = λ r. register_is r (says.registers r);
    others = says.others;
  })
