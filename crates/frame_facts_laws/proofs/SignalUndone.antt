-- A row that says a signal's frame gives the state that the signal interrupted.
use Rattle.std.proofs.Common.{◌≡◌, eqb, ℕ, Bool, true, false, List, [], ◌∷◌, Option, Some, Result, Ok, refl, ap, subst, arith, inl, inr}
use Rattle.std.specs.List.{AllByRecursion}
use Rattle.std.proofs.lemmas.Bool.{eqb-true}
use Rattle.memory_image.specs.Image.{Span}
use Rattle.unwind_definitions.specs.Row.{RowInstructions, ByExpression, rule_of}
use Rattle.unwind_definitions.specs.Caller.{Columns, StepFault, x86_64, cfa_value, column_value, caller_of, column_limit, unless_fault, value_in, value_without_rule}
use Rattle.unwind_definitions.specs.Expressions.{evaluation}
use Rattle.unwind_definitions.specs.State.{CalleeSaved, RBX, RBP, R12, R13, R14, R15, State, value_of, column_of, Shows, is_followed}
use Rattle.unwind_laws.proofs.Booleans.{all_contains, any_contains}
use Rattle.unwind_laws.proofs.Faultless.{HasValue, no_fault_below}
use Rattle.frame_facts.specs.SignalFrames.{WordAbove, SignalFrame, HoldsAbove, StandsInSignal, FindsAbove, FindsOther, SaysSignalFrame}
use Rattle.frame_facts_laws.specs.SignalSteps.{HasGeneralRegisters, GivesInterrupted}
use Rattle.frame_facts_laws.proofs.SignalValues.{address_above, word_above}

-- the columns of a state
abbrev followed : List ℕ
followed = 3 ∷ 6 ∷ 7 ∷ 12 ∷ 13 ∷ 14 ∷ 15 ∷ 16 ∷ []

module _ (image : List Span) (frame : SignalFrame) (run : RowInstructions) (s t : State) (columns : Columns)
    (says : SaysSignalFrame frame run) (stands : StandsInSignal image frame t s) (shows : Shows columns s) (general : HasGeneralRegisters columns) where
  abbrev value : ℕ → Result (Option ℕ) StepFault
  value c = column_value x86_64 (evaluation image) image columns t.sp run c

  -- a column that is found in a word has what that holds
  found : (c n v old : ℕ) → FindsAbove n (rule_of run c) → HoldsAbove image s n v → columns c ≡ Some old → value c ≡ Ok (Some v)
  found c n v old finds holds has =
      let at = address_above image columns finds.0 s.sp n shows.sp holds.0 (t.sp ∷ []) (omega arith) finds.1 in
      rw (finds.2, at, holds.1, has) refl

  cfa_is : cfa_value (evaluation image) columns (ByExpression says.expression) ≡ Ok t.sp
  cfa_is = word_above image columns says.expression s.sp frame.rsp shows.sp stands.rsp.0 t.sp stands.rsp.1 says.reads

  ra_is : value 16 ≡ Ok (Some t.ra)
  ra_is = found 16 frame.rip t.ra s.ra says.rip stands.rip shows.ra

  sp_is : value 7 ≡ Ok (Some t.sp)
  sp_is = elim says.rsp [
    | inl none ↦ rw none refl
    | inr finds ↦ found 7 frame.rsp t.sp s.sp finds stands.rsp shows.sp
  ]

  saved_is : (r : CalleeSaved) → value (column_of r) ≡ Ok (Some (value_of r t))
  saved_is r = found (column_of r) (frame.registers r) (value_of r t) (value_of r s) (says.registers r) (stands.registers r) (shows.saved r)

  other_has : (c : ℕ) → FindsOther frame c (rule_of run c) → HasValue (value c)
  other_has c (inl none) = (value_without_rule x86_64 columns t.sp c, rw none refl)
  other_has c (inr finds) =
      let held = all_contains (λ (w : WordAbove). (v : ℕ) × HoldsAbove image s w.distance v) frame.others (record { register = c; distance = finds.0 }) stands.others finds.1 in
      let has = general c finds.2 in
      (Some held.0, found c finds.0 held.0 has.0 finds.3 held.1 has.1)

  saved : (r : CalleeSaved) → HasValue (value (column_of r))
  saved r = (Some (value_of r t), saved_is r)

  has_value : (c : ℕ) → HasValue (value c)
  has_value c = go (is_followed c) refl
    where
      go : (b : Bool) → is_followed c ≡ b → HasValue (value c)
      go false free = other_has c (says.others c free)
      go true is =
          let (m, listed, same) = any_contains (λ m. eqb m c) followed is in
          let all : AllByRecursion (λ (k : ℕ). HasValue (value k)) followed =
          (saved RBX, (saved RBP, ((_, sp_is), (saved R12, (saved R13, (saved R14, (saved R15, ((_, ra_is), tt)))))))) in
          subst (λ (k : ℕ). HasValue (value k)) (eqb-true m c same) (all_contains (λ (k : ℕ). HasValue (value k)) followed m all listed)

  abbrev caller : Columns
  caller c = value_in (value c)

  is_caller : caller_of x86_64 (evaluation image) image columns run ≡ Ok caller
  is_caller = rw (says.cfa, cfa_is) (ap (λ o. unless_fault o caller) (no_fault_below column_limit value (λ k lt. has_value k)))

  -- By such a row there are columns that show the interrupted state.
  pub interrupted_given : GivesInterrupted image run t columns
  interrupted_given = record {
    caller = λ c. value_in (column_value x86_64 (evaluation image) image columns t.sp run c);
    is_caller = is_caller;
    shows = record { ra = ap value_in ra_is; sp = ap value_in sp_is; saved = λ r. ap value_in (saved_is r) };
  }
