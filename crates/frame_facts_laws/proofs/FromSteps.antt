-- What a prologue's steps make known: a state that they entered stands with it, and the rows that are asked of a described
-- function say it.
use Rattle.std.proofs.Common.{◌≡◌, ℕ, ◌+◌, ◌-◌, ◌≤◌, Bool, true, false, ◌||◌, List, [], Option, Some, None, refl, subst, arith, inl, inr, lit<}
use Rattle.std.specs.Prelude.{◌⊎◌, not, is_some, MatchOption, IfSome}
use Rattle.std.specs.List.{Contains}
use Rattle.std.specs.Option.{option_map}
use Rattle.memory_image.specs.Image.{Span}
use Rattle.unwind_definitions.specs.State.{CalleeSaved, RBX, RBP, R12, R13, R14, R15, State, value_of, column_of, is_same}
use Rattle.unwind_definitions.specs.Prologue.{SystemV, Step, depth, frame_depth, distance, EachMayFollow}
use Rattle.unwind_definitions.specs.Entered.{stack_after, frame_after, IsEntered}
use Rattle.unwind_definitions.specs.Instructions.{Rule}
use Rattle.unwind_definitions.specs.Row.{RowInstructions, ColumnAndOffset, rule_of}
use Rattle.unwind_definitions.specs.DescribedRows.{cfa_after, FindsRegister, IsBodyRow, IsPrologueRow, IsOutermostRow}
use Rattle.unwind_laws.proofs.Booleans.{contains_filter, contains_all}
use Rattle.unwind_laws.proofs.Undo.{StoresLie, slot_of, sp_below, FrameFits, frame_below, lie_of, rises}
use Rattle.frame_facts.specs.Facts.{Slot, Facts, SlotHolds, StandsWith}
use Rattle.frame_facts.specs.FactRows.{IsKnownCfa, FindsKnown, SaysFacts}
use Rattle.frame_facts.specs.StepFacts.{all_callee_saved, slot_in, slots_after, rsp_after, is_unsaved, facts_in_body, is_intact, facts_in_prologue, outermost_facts}
use Rattle.frame_facts_laws.proofs.Lists.{all_filtered, all_mapped, contains_mapped}

-- ---- registers

pub among_all : (r : CalleeSaved) → Contains all_callee_saved r
among_all RBX = (0, lit< tt, refl)
among_all RBP = (1, lit< tt, refl)
among_all R12 = (2, lit< tt, refl)
among_all R13 = (3, lit< tt, refl)
among_all R14 = (4, lit< tt, refl)
among_all R15 = (5, lit< tt, refl)

unsaved_is : (steps : List Step) (r : CalleeSaved) → is_unsaved steps r ≡ true → distance r steps ≡ None
unsaved_is steps r e = go (distance r steps) refl
  where
    go : (o : Option ℕ) → distance r steps ≡ o → distance r steps ≡ None
    go None d = d
    go (Some n) d = let e' : not (is_some (Some n)) ≡ true = rw d at e in absurd cc

none_unsaved : (steps : List Step) (r : CalleeSaved) → distance r steps ≡ None → is_unsaved steps r ≡ true
none_unsaved steps r e = rw e refl

not_frame : (r : CalleeSaved) → is_same r RBP ≡ false → r ≡ RBP → ⊥
not_frame r e is = let e' : is_same RBP RBP ≡ false = rw is at e in absurd cc

-- an intact register isn't saved, or is none that the steps set
intact_is : (steps : List Step) (r : CalleeSaved) → is_intact steps r ≡ true → (distance r steps ≡ None) ⊎ (r ≡ RBP → frame_depth steps ≡ None)
intact_is steps r e = go (is_unsaved steps r) (is_same r RBP) (frame_depth steps) refl refl refl
  where
    go : (u b : Bool) (o : Option ℕ) → is_unsaved steps r ≡ u → is_same r RBP ≡ b → frame_depth steps ≡ o → (distance r steps ≡ None) ⊎ (r ≡ RBP → frame_depth steps ≡ None)
    go true b o eu eb eo = inl (unsaved_is steps r eu)
    go false false o eu eb eo = inr (λ is. absurd (not_frame r eb is))
    go false true None eu eb eo = inr (λ is. eo)
    go false true (Some n) eu eb eo = let e' : (false || (not true || not (is_some (Some n)))) ≡ true = rw (eu, eb, eo) at e in absurd cc

unset_intact : (steps : List Step) (r : CalleeSaved) → (r ≡ RBP → frame_depth steps ≡ None) → is_intact steps r ≡ true
unset_intact steps r unset = go (is_unsaved steps r) r refl unset
  where
    go : (u : Bool) (q : CalleeSaved) → is_unsaved steps r ≡ u → (q ≡ RBP → frame_depth steps ≡ None) → (u || (not (is_same q RBP) || not (is_some (frame_depth steps)))) ≡ true
    go true q e un = refl
    go false RBX e un = refl
    go false RBP e un = rw (un refl) refl
    go false R12 e un = refl
    go false R13 e un = refl
    go false R14 e un = refl
    go false R15 e un = refl

unsaved_intact : (steps : List Step) (r : CalleeSaved) → distance r steps ≡ None → is_intact steps r ≡ true
unsaved_intact steps r e = rw e refl

-- ---- states

module _ (image : List Span) (steps : List Step) (t s : State) (may : EachMayFollow SystemV [] steps) (entered : IsEntered image false steps t s) where
  at : (t.sp - 8) + 8 ≡ t.sp
  at = let h = entered.room in omega arith

  lies : StoresLie 8 steps
  lies = lie_of [] steps 8 refl may

  slot : (r : CalleeSaved) (k : Slot) → slot_in steps r ≡ Some k → SlotHolds image t k
  slot r k e = go (distance r steps) refl
    where
      go : (o : Option ℕ) → distance r steps ≡ o → SlotHolds image t k
      go None d = let e' : option_map (λ (n : ℕ). record { register = r; distance = n }) None ≡ Some k = rw d at e in absurd cc
      go (Some n) d =
          let found = slot_of image t t.sp r n steps 8 (t.sp - 8) at lies entered.leaves d in
          let e' : option_map (λ (n : ℕ). record { register = r; distance = n }) (Some n) ≡ Some k = rw d at e in
          let is : record { register = r; distance = n } ≡ k = cc in
          subst (SlotHolds image t) is (found.within, found.word)

  -- RSP and RBP lie where the steps left them
  forms : (o v : Option ℕ) → frame_depth steps ≡ o → FrameFits t.sp o v →
      MatchOption v (s.sp ≡ stack_after (t.sp - 8) steps) (λ frame. (s.sp ≤ stack_after (t.sp - 8) steps) × (s.rbp ≡ frame)) →
      IfSome (rsp_after steps) (λ n. s.sp + n ≡ t.sp) × IfSome (frame_depth steps) (λ n. s.rbp + n ≡ t.sp)
  forms None None e h stack =
      let below = sp_below image t t.sp steps 8 (t.sp - 8) at entered.leaves in
      let sum : s.sp + depth steps ≡ t.sp = omega (arith, stack, below) in
      rw e (sum, tt)
  forms (Some d) (Some v) e h stack = let sum : s.rbp + d ≡ t.sp = omega (arith, stack.1, h) in rw e (tt, sum)
  forms None (Some v) e h stack = absurd h
  forms (Some d) None e h stack = absurd h

  placed : IfSome (rsp_after steps) (λ n. s.sp + n ≡ t.sp) × IfSome (frame_depth steps) (λ n. s.rbp + n ≡ t.sp)
  placed = forms (frame_depth steps) (frame_after (t.sp - 8) steps) refl (frame_below image t t.sp steps 8 (t.sp - 8) at lies entered.leaves) entered.stack

  -- A state that was entered by the steps stands with what is known in the body.
  pub body_stands : StandsWith image (facts_in_body steps) t s
  body_stands = record {
    room = entered.room;
    below = rises image false steps t s entered;
    by_rsp = placed.0;
    by_rbp = placed.1;
    returns = λ inner. entered.returns refl;
    ends = λ outer. absurd cc;
    saved = all_mapped (SlotHolds image t) (slot_in steps) all_callee_saved (λ r k e. slot r k e);
    kept = all_filtered (λ (r : CalleeSaved). value_of r s ≡ value_of r t) (is_unsaved steps) all_callee_saved (λ r e. entered.keeps r (unsaved_is steps r e));
  }

  -- One whose registers still hold what the caller has, but for RBP once it is set, stands with what is known inside the prologue.
  pub inside_stands : ((r : CalleeSaved) → (r ≡ RBP → frame_depth steps ≡ None) → value_of r s ≡ value_of r t) → StandsWith image (facts_in_prologue steps) t s
  inside_stands intact = record {
    room = entered.room;
    below = rises image false steps t s entered;
    by_rsp = placed.0;
    by_rbp = placed.1;
    returns = λ inner. entered.returns refl;
    ends = λ outer. absurd cc;
    saved = all_mapped (SlotHolds image t) (slot_in steps) all_callee_saved (λ r k e. slot r k e);
    kept = all_filtered (λ (r : CalleeSaved). value_of r s ≡ value_of r t) (is_intact steps) all_callee_saved
        (λ r e. elim (intact_is steps r e) [ inl none ↦ entered.keeps r none | inr unset ↦ intact r unset ]);
  }

-- An outermost function's state, whose caller has the return address 0.
pub outermost_stands : (image : List Span) (t s : State) → IsEntered image true [] t s → t.ra ≡ 0 → StandsWith image outermost_facts t s
outermost_stands image t s entered ends =
    let h : 8 ≤ t.sp = entered.room in
    let e : s.sp ≡ t.sp - 8 = entered.stack in
    record {
      room = h;
      below = rises image true [] t s entered;
      by_rsp = omega arith;
      by_rbp = tt;
      returns = λ inner. absurd cc;
      ends = λ outer. ends;
      saved = tt;
      kept = contains_all (λ (r : CalleeSaved). value_of r s ≡ value_of r t) all_callee_saved (λ r has. entered.keeps r refl);
    }

-- ---- rows

known_cfa : (facts : Facts) (steps : List Step) → facts.rsp ≡ rsp_after steps → facts.rbp ≡ frame_depth steps → IsKnownCfa facts (cfa_after steps)
known_cfa facts steps rsp rbp = go (frame_depth steps) refl
  where
    go : (o : Option ℕ) → frame_depth steps ≡ o → IsKnownCfa facts (cfa_after steps)
    go None e = (depth steps, inl (rw (rsp, e) refl, rw e refl))
    go (Some d) e = (d, inr (rw (rbp, e) refl, rw e refl))

finds_saved : (steps : List Step) (r : CalleeSaved) (d : ℕ) → distance r steps ≡ Some d → Contains (slots_after steps) (record { register = r; distance = d })
finds_saved steps r d e = contains_mapped (slot_in steps) all_callee_saved r (record { register = r; distance = d }) (among_all r) (rw e refl)

-- what finds a register by its distance, or leaves it alone, says what is known
finds : (facts : Facts) (steps : List Step) (r : CalleeSaved) (rule : Option Rule) (o : Option ℕ) → facts.saved ≡ slots_after steps → distance r steps ≡ o → (o ≡ None → Contains facts.kept r) → FindsRegister o rule → FindsKnown facts r rule
finds facts steps r rule None saved e kept h = inr (kept refl, h)
finds facts steps r rule (Some d) saved e kept h = inl (d, rw saved (finds_saved steps r d e), h)

-- The row of a body says what is known there.
pub body_says : (steps : List Step) (run : RowInstructions) → IsBodyRow steps run → SaysFacts (facts_in_body steps) run
body_says steps run fits = record {
  rule = cfa_after steps;
  cfa = fits.cfa;
  known = known_cfa (facts_in_body steps) steps refl refl;
  ret = fits.ret;
  registers = λ r. finds (facts_in_body steps) steps r (rule_of run (column_of r)) (distance r steps) refl refl
      (λ none. contains_filter (is_unsaved steps) all_callee_saved r (among_all r) (none_unsaved steps r none)) (fits.saved r);
  others = fits.others;
}

-- The row inside a prologue says what is known there, whether a save is recorded yet or not.
pub inside_says : (steps : List Step) (run : RowInstructions) → IsPrologueRow steps run → SaysFacts (facts_in_prologue steps) run
inside_says steps run fits = record {
  rule = cfa_after steps;
  cfa = fits.cfa;
  known = known_cfa (facts_in_prologue steps) steps refl refl;
  ret = fits.ret;
  registers = λ r. elim (fits.saved r) [
    | inl is ↦ finds (facts_in_prologue steps) steps r (rule_of run (column_of r)) (distance r steps) refl refl
        (λ none. contains_filter (is_intact steps) all_callee_saved r (among_all r) (unsaved_intact steps r none)) is
    | inr late ↦ inr (contains_filter (is_intact steps) all_callee_saved r (among_all r) (unset_intact steps r late.1), inl late.0)
  ];
  others = fits.others;
}

-- The row of an outermost function says what is known there.
pub outermost_says : (run : RowInstructions) → IsOutermostRow run → SaysFacts outermost_facts run
outermost_says run fits = record {
  rule = ColumnAndOffset 7 8;
  cfa = fits.cfa;
  known = (8, inl (refl, refl));
  ret = fits.ret;
  registers = λ r. inr (among_all r, fits.saved r);
  others = fits.others;
}
