-- The row of a described frame undoes its prologue.
use Rattle.std.proofs.Common.{◌≡◌, ℕ, ◌+◌, ◌-◌, ◌^◌, ◌<◌, ◌≤◌, Bool, true, false, cond, List, [], ◌∷◌, ◌++◌, Option, Some, None, Result, Ok, refl, ap, subst, ◌∙◌, arith, inl, inr}
use Rattle.std.specs.Prelude.{MatchOption, ◌==◌}
use Rattle.std.specs.Option.{option_map_or}
use Rattle.std.specs.List.{sum_by}
use Rattle.std.proofs.lemmas.Bool.{eqb-true}
use Rattle.std.proofs.lemmas.Bool.Decides.{nat_tests}
use Rattle.std.proofs.lemmas.List.Sums.{sum_by_push, sum_by-cons}
use Rattle.memory_image.specs.Image.{Span, word_at}
use Rattle.unwind_definitions.specs.Instructions.{Offset}
use Rattle.unwind_definitions.specs.Row.{RowInstructions, CfaRule, ColumnAndOffset, rule_of, cfa_rule}
use Rattle.unwind_definitions.specs.Caller.{◌+w◌, Columns, Evaluates, StepFault, x86_64, cfa_value, column_value, caller_of, unless_fault, value_in, value_without_rule, column_limit}
use Rattle.unwind_definitions.specs.State.{CalleeSaved, RBX, RBP, R12, R13, R14, R15, State, value_of, column_of, is_same, IsState, Shows, is_followed}
use Rattle.unwind_definitions.specs.Prologue.{Followed, RDI, RSI, XMM, Step, Push, Allocate, SetFrame, Store, room_of, saves_from, frame_depth_from, distance_in, distance, depth, frame_depth, SystemV, EachMayFollow}
use Rattle.unwind_definitions.specs.Entered.{Leaves, stack_after, frame_after, IsEntered}
use Rattle.unwind_definitions.specs.DescribedRows.{negative, cfa_after, IsBodyRow, IsPrologueRow, FindsRegister, IsUnchanged, IsOutermostRow, may_have_rule}
use Rattle.unwind_laws.specs.Undoes.{Undoes}
use Rattle.unwind_laws.proofs.Faultless.{HasValue, no_fault_below}

-- registers that compare alike are one
same_register : (r q : CalleeSaved) → is_same r q ≡ true → r ≡ q
same_register RBX RBX e = refl
same_register RBP RBP e = refl
same_register R12 R12 e = refl
same_register R13 R13 e = refl
same_register R14 R14 e = refl
same_register R15 R15 e = refl
same_register _ _ e = absurd cc

-- RBP is set to the stack pointer itself, and each store lies below the return address
abbrev pub StoresLie : ℕ → List Step → Type 0
StoresLie d [] = Unit {0}
StoresLie d (Push r ∷ steps) = StoresLie (d + 8) steps
StoresLie d (Allocate n ∷ steps) = StoresLie (d + n) steps
StoresLie d (SetFrame m ∷ steps) = (m ≡ 0) × StoresLie d steps
StoresLie d (Store r k ∷ steps) = (k ≤ d) × StoresLie d steps

-- where the slot of a saved register is
pub record IsSlot (image : List Span) (top : ℕ) (t : State) (r : CalleeSaved) (e : ℕ) : Type 0 where
  pub within : e ≤ top
  pub word : word_at image (top - e) ≡ Some (value_of r t)

here : (image : List Span) (top : ℕ) (t : State) (r q : CalleeSaved) (a d e : ℕ) (rest : Option ℕ) → a + d ≡ top → word_at image a ≡ Some (value_of q t) →
    (rest ≡ Some e → IsSlot image top t r e) → cond (is_same r q) (Some d) rest ≡ Some e → IsSlot image top t r e
here image top t r q a d e rest at word later found = go (is_same r q) refl found
  where
    go : (b : Bool) → is_same r q ≡ b → cond b (Some d) rest ≡ Some e → IsSlot image top t r e
    go true same f =
        let e-is : d ≡ e = cc in
        let place : top - e ≡ a = omega arith in
        let q-is : r ≡ q = same_register r q same in
        record { within = omega arith; word = rw (place, q-is) word }
    go false other f = later f

-- what a saved register's slot holds
pub slot_of : (image : List Span) (t : State) (top : ℕ) (r : CalleeSaved) (e : ℕ) (steps : List Step) (d sp : ℕ) → sp + d ≡ top → StoresLie d steps → Leaves image t sp steps →
    distance_in r (saves_from d steps) ≡ Some e → IsSlot image top t r e
slot_of image t top r e [] d sp at lie leaves found = absurd cc
slot_of image t top r e (Push (Followed q) ∷ steps) d sp at lie leaves found =
    let low : 8 ≤ sp = leaves.0 in
    here image top t r q (sp - 8) (d + 8) e _ (omega arith) leaves.1 (slot_of image t top r e steps (d + 8) (sp - 8) (omega arith) lie leaves.2) found
slot_of image t top r e (Push RDI ∷ steps) d sp at lie leaves found = let low : 8 ≤ sp = leaves.0 in slot_of image t top r e steps (d + 8) (sp - 8) (omega arith) lie leaves.2 found
slot_of image t top r e (Push RSI ∷ steps) d sp at lie leaves found = let low : 8 ≤ sp = leaves.0 in slot_of image t top r e steps (d + 8) (sp - 8) (omega arith) lie leaves.2 found
slot_of image t top r e (Push (XMM n) ∷ steps) d sp at lie leaves found = let low : 8 ≤ sp = leaves.0 in slot_of image t top r e steps (d + 8) (sp - 8) (omega arith) lie leaves.2 found
slot_of image t top r e (Allocate n ∷ steps) d sp at lie leaves found = let low : n ≤ sp = leaves.0 in slot_of image t top r e steps (d + n) (sp - n) (omega arith) lie leaves.1 found
slot_of image t top r e (SetFrame m ∷ steps) d sp at lie leaves found = slot_of image t top r e steps d sp at lie.1 leaves.1 found
slot_of image t top r e (Store (Followed q) k ∷ steps) d sp at lie leaves found =
    let low : k ≤ d = lie.0 in
    here image top t r q (sp + k) (d - k) e _ (omega arith) leaves.1 (slot_of image t top r e steps d sp at lie.1 leaves.2) found
slot_of image t top r e (Store RDI k ∷ steps) d sp at lie leaves found = slot_of image t top r e steps d sp at lie.1 leaves.2 found
slot_of image t top r e (Store RSI k ∷ steps) d sp at lie leaves found = slot_of image t top r e steps d sp at lie.1 leaves.2 found
slot_of image t top r e (Store (XMM n) k ∷ steps) d sp at lie leaves found = slot_of image t top r e steps d sp at lie.1 leaves.2 found

-- the stack pointer after all steps is their depth below the caller's
pub sp_below : (image : List Span) (t : State) (top : ℕ) (steps : List Step) (d sp : ℕ) → sp + d ≡ top → Leaves image t sp steps → stack_after sp steps + (d + sum_by room_of steps) ≡ top
sp_below image t top [] d sp at leaves = omega arith
sp_below image t top (Push r ∷ steps) d sp at leaves =
    let low : 8 ≤ sp = leaves.0 in
    let ih = sp_below image t top steps (d + 8) (sp - 8) (omega arith) leaves.2 in omega (arith, ih, sum_by-cons room_of (Push r) steps)
sp_below image t top (Allocate n ∷ steps) d sp at leaves =
    let low : n ≤ sp = leaves.0 in
    let ih = sp_below image t top steps (d + n) (sp - n) (omega arith) leaves.1 in omega (arith, ih, sum_by-cons room_of (Allocate n) steps)
sp_below image t top (SetFrame m ∷ steps) d sp at leaves = let ih = sp_below image t top steps d sp at leaves.1 in omega (arith, ih, sum_by-cons room_of (SetFrame m) steps)
sp_below image t top (Store r k ∷ steps) d sp at leaves = let ih = sp_below image t top steps d sp at leaves.2 in omega (arith, ih, sum_by-cons room_of (Store r k) steps)

-- RBP is set exactly where there is a depth at the set, and is so far below the caller's stack pointer
abbrev pub FrameFits : ℕ → Option ℕ → Option ℕ → Type 0
FrameFits top None None = Unit {0}
FrameFits top (Some e) (Some v) = v + e ≡ top
FrameFits top None (Some v) = ⊥
FrameFits top (Some e) None = ⊥

pub frame_below : (image : List Span) (t : State) (top : ℕ) (steps : List Step) (d sp : ℕ) → sp + d ≡ top → StoresLie d steps → Leaves image t sp steps →
    FrameFits top (frame_depth_from d steps) (frame_after sp steps)
frame_below image t top [] d sp at lie leaves = tt
frame_below image t top (Push r ∷ steps) d sp at lie leaves = let low : 8 ≤ sp = leaves.0 in frame_below image t top steps (d + 8) (sp - 8) (omega arith) lie leaves.2
frame_below image t top (Allocate n ∷ steps) d sp at lie leaves = let low : n ≤ sp = leaves.0 in frame_below image t top steps (d + n) (sp - n) (omega arith) lie leaves.1
frame_below image t top (SetFrame m ∷ steps) d sp at lie leaves = let none : m ≡ 0 = lie.0 in omega arith
frame_below image t top (Store r k ∷ steps) d sp at lie leaves = frame_below image t top steps d sp at lie.1 leaves.2

-- the rules on steps, at each depth
pub lie_of : (before steps : List Step) (d : ℕ) → depth before ≡ d → EachMayFollow SystemV before steps → StoresLie d steps
lie_of before [] d is may = tt
lie_of before (Push r ∷ steps) d is may = lie_of (before ++ Push r ∷ []) steps (d + 8) (omega (arith, is, sum_by_push room_of before (Push r))) may.1
lie_of before (Allocate n ∷ steps) d is may = lie_of (before ++ Allocate n ∷ []) steps (d + n) (omega (arith, is, sum_by_push room_of before (Allocate n))) may.1
lie_of before (SetFrame m ∷ steps) d is may = (may.0.2, lie_of (before ++ SetFrame m ∷ []) steps d (omega (arith, is, sum_by_push room_of before (SetFrame m))) may.1)
lie_of before (Store r k ∷ steps) d is may = (omega (arith, is, may.0.2), lie_of (before ++ Store r k ∷ []) steps d (omega (arith, is, sum_by_push room_of before (Store r k))) may.1)

-- a word less a distance
less : (a d : ℕ) → d ≤ a → a < 2 ^ 64 → a +w negative d ≡ a - d
less a d le lt = omega arith

plus : (a d top : ℕ) → a + d ≡ top → top < 2 ^ 64 → a +w d ≡ top
plus a d top is lt = omega arith

-- ---- a row that fits undoes the steps

unruled_saved : (columns : Columns) (cfa : ℕ) (r : CalleeSaved) → value_without_rule x86_64 columns cfa (column_of r) ≡ columns (column_of r)
unruled_saved columns cfa RBX = refl
unruled_saved columns cfa RBP = refl
unruled_saved columns cfa R12 = refl
unruled_saved columns cfa R13 = refl
unruled_saved columns cfa R14 = refl
unruled_saved columns cfa R15 = refl

abbrev holds : Option ℕ → Result (Option ℕ) StepFault
holds v = Ok v

abbrev number : ℕ → Result ℕ StepFault
number v = Ok v

abbrev some : ℕ → Option ℕ
some v = Some v

-- a column that no state has may have no rule, and is not the stack pointer's
pub record IsOther (columns : Columns) (cfa c : ℕ) : Type 0 where
  pub no_rule : may_have_rule c ≡ false
  pub same : value_without_rule x86_64 columns cfa c ≡ columns c

other : (columns : Columns) (cfa c : ℕ) → is_followed c ≡ false → IsOther columns cfa c
other columns cfa c e = go (3 == c) (6 == c) (7 == c) (12 == c) (13 == c) (14 == c) (15 == c) (16 == c) refl refl refl refl refl refl refl refl e
  where
    go : (b3 b6 b7 b12 b13 b14 b15 b16 : Bool) → (3 == c) ≡ b3 → (6 == c) ≡ b6 → (7 == c) ≡ b7 → (12 == c) ≡ b12 → (13 == c) ≡ b13 → (14 == c) ≡ b14 → (15 == c) ≡ b15 → (16 == c) ≡ b16 →
        is_followed c ≡ false → IsOther columns cfa c
    go true _ _ _ _ _ _ _ h3 h6 h7 h12 h13 h14 h15 h16 f = let g = rw h3 at f in absurd cc
    go false true _ _ _ _ _ _ h3 h6 h7 h12 h13 h14 h15 h16 f = let g = rw (h3, h6) at f in absurd cc
    go false false true _ _ _ _ _ h3 h6 h7 h12 h13 h14 h15 h16 f = let g = rw (h3, h6, h7) at f in absurd cc
    go false false false true _ _ _ _ h3 h6 h7 h12 h13 h14 h15 h16 f = let g = rw (h3, h6, h7, h12) at f in absurd cc
    go false false false false true _ _ _ h3 h6 h7 h12 h13 h14 h15 h16 f = let g = rw (h3, h6, h7, h12, h13) at f in absurd cc
    go false false false false false true _ _ h3 h6 h7 h12 h13 h14 h15 h16 f = let g = rw (h3, h6, h7, h12, h13, h14) at f in absurd cc
    go false false false false false false true _ h3 h6 h7 h12 h13 h14 h15 h16 f = let g = rw (h3, h6, h7, h12, h13, h14, h15) at f in absurd cc
    go false false false false false false false true h3 h6 h7 h12 h13 h14 h15 h16 f = let g = rw (h3, h6, h7, h12, h13, h14, h15, h16) at f in absurd cc
    go false false false false false false false false h3 h6 h7 h12 h13 h14 h15 h16 f = record { no_rule = rw (h3, h6, h12, h13, h14, h15, h16) refl; same = grind (arith, nat_tests) }

-- a column is that of the return address or of a register, or none of them
data Which : ℕ → Type 0 where
  ReturnColumn : Which 16
  SavedColumn : (r : CalleeSaved) → Which (column_of r)
  Other : {c : ℕ} → may_have_rule c ≡ false → Which c

which : (c : ℕ) → Which c
which c = go (3 == c) (6 == c) (12 == c) (13 == c) (14 == c) (15 == c) (16 == c) refl refl refl refl refl refl refl
  where
    at_column : (k : ℕ) → (k == c) ≡ true → Which k → Which c
    at_column k e w = subst Which (eqb-true k c e) w

    go : (b3 b6 b12 b13 b14 b15 b16 : Bool) → (3 == c) ≡ b3 → (6 == c) ≡ b6 → (12 == c) ≡ b12 → (13 == c) ≡ b13 → (14 == c) ≡ b14 → (15 == c) ≡ b15 → (16 == c) ≡ b16 → Which c
    go true _ _ _ _ _ _ e _ _ _ _ _ _ = at_column 3 e (SavedColumn RBX)
    go false true _ _ _ _ _ _ e _ _ _ _ _ = at_column 6 e (SavedColumn RBP)
    go false false true _ _ _ _ _ _ e _ _ _ _ = at_column 12 e (SavedColumn R12)
    go false false false true _ _ _ _ _ _ e _ _ _ = at_column 13 e (SavedColumn R13)
    go false false false false true _ _ _ _ _ _ e _ _ = at_column 14 e (SavedColumn R14)
    go false false false false false true _ _ _ _ _ _ e _ = at_column 15 e (SavedColumn R15)
    go false false false false false false true _ _ _ _ _ _ e = at_column 16 e ReturnColumn
    go false false false false false false false a b d e f g h = Other (rw (a, b, d, e, f, g, h) refl)

-- What a row has to give for a caller's state: a CFA, the return address and the registers, and no other rule.
pub record Gives (evaluates : Evaluates) (image : List Span) (run : RowInstructions) (t : State) (columns : Columns) : Type 0 where
  pub rule : CfaRule
  pub has_cfa : cfa_rule run ≡ Some rule
  pub is_cfa : cfa_value evaluates columns rule ≡ Ok t.sp
  pub ra : column_value x86_64 evaluates image columns t.sp run 16 ≡ Ok (Some t.ra)
  pub saved : (r : CalleeSaved) → column_value x86_64 evaluates image columns t.sp run (column_of r) ≡ Ok (Some (value_of r t))
  pub others : (c : ℕ) → may_have_rule c ≡ false → rule_of run c ≡ None

module _ (evaluates : Evaluates) (image : List Span) (run : RowInstructions) (t : State) (columns : Columns) (gives : Gives evaluates image run t columns) where
  abbrev value : ℕ → Result (Option ℕ) StepFault
  value c = column_value x86_64 evaluates image columns t.sp run c

  value_other : (c : ℕ) → may_have_rule c ≡ false → value c ≡ Ok (value_without_rule x86_64 columns t.sp c)
  value_other c none = rw (gives.others c none) refl

  has_value : (c : ℕ) → Which c → HasValue (value c)
  has_value c ReturnColumn = (Some t.ra, gives.ra)
  has_value c (SavedColumn r) = (Some (value_of r t), gives.saved r)
  has_value c (Other none) = (value_without_rule x86_64 columns t.sp c, value_other c none)

  abbrev caller : Columns
  caller c = value_in (value c)

  is_caller : caller_of x86_64 evaluates image columns run ≡ Ok caller
  is_caller = rw (gives.has_cfa, gives.is_cfa) (ap (λ o. unless_fault o caller) (no_fault_below column_limit value (λ k lt. has_value k (which k))))

  -- such a row undoes the call
  pub undone : Undoes evaluates image run t columns
  undone = record {
    caller = λ c. value_in (column_value x86_64 evaluates image columns t.sp run c);
    is_caller = is_caller;
    shows = record {
      ra = ap value_in gives.ra;
      sp = ap value_in (value_other 7 refl);
      saved = λ r. ap value_in (gives.saved r);
    };
    others = λ c free. let o = other columns t.sp c free in ap value_in (value_other c o.no_rule) ∙ o.same;
  }

-- a saved register's rule finds it
found_at : (evaluates : Evaluates) (image : List Span) (columns : Columns) (run : RowInstructions) (t s : State) (r : CalleeSaved) (d : ℕ) → rule_of run (column_of r) ≡ Some (Offset (negative d)) → IsSlot image t.sp t r d →
    t.sp < 2 ^ 64 → columns (column_of r) ≡ Some (value_of r s) → column_value x86_64 evaluates image columns t.sp run (column_of r) ≡ Ok (Some (value_of r t))
found_at evaluates image columns run t s r d at slot lt old =
    let place : t.sp +w negative d ≡ t.sp - d = less t.sp d slot.within lt in
    rw (at, place, slot.word, old) refl

-- an unchanged register holds what it held
unchanged : (evaluates : Evaluates) (image : List Span) (columns : Columns) (cfa : ℕ) (run : RowInstructions) (r : CalleeSaved) (v : ℕ) → IsUnchanged (rule_of run (column_of r)) → columns (column_of r) ≡ Some v →
    column_value x86_64 evaluates image columns cfa run (column_of r) ≡ Ok (Some v)
unchanged evaluates image columns cfa run r v (inl none) old = rw none (ap holds (unruled_saved columns cfa r ∙ old))
unchanged evaluates image columns cfa run r v (inr same) old = rw (same, old) refl

module _ (evaluates : Evaluates) (image : List Span) (steps : List Step) (s t : State) (columns : Columns)
    (may : EachMayFollow SystemV [] steps) (entered : IsEntered image false steps t s) (words : IsState t) (shows : Shows columns s) where
  at : (t.sp - 8) + 8 ≡ t.sp
  at = let h = entered.room in omega arith

  lies : StoresLie 8 steps
  lies = lie_of [] steps 8 refl may

  cfa_at : (o v : Option ℕ) → frame_depth steps ≡ o → frame_after (t.sp - 8) steps ≡ v → FrameFits t.sp o v →
      MatchOption v (s.sp ≡ stack_after (t.sp - 8) steps) (λ frame. (s.sp ≤ stack_after (t.sp - 8) steps) × (s.rbp ≡ frame)) →
      cfa_value evaluates columns (option_map_or (λ d. ColumnAndOffset 6 d) o (ColumnAndOffset 7 (depth steps))) ≡ Ok t.sp
  cfa_at None None e f h stack =
      let below = sp_below image t t.sp steps 8 (t.sp - 8) at entered.leaves in
      let sum : s.sp + depth steps ≡ t.sp = omega (arith, stack, below) in
      rw shows.sp (ap number (plus s.sp (depth steps) t.sp sum words.sp))
  cfa_at (Some d) (Some v) e f h stack =
      let sum : s.rbp + d ≡ t.sp = omega (arith, stack.1, h) in
      rw (shows.saved RBP) (ap number (plus s.rbp d t.sp sum words.sp))
  cfa_at None (Some v) e f h stack = absurd h
  cfa_at (Some d) None e f h stack = absurd h

  -- the CFA is the caller's stack pointer
  pub cfa_is : cfa_value evaluates columns (cfa_after steps) ≡ Ok t.sp
  cfa_is = cfa_at (frame_depth steps) (frame_after (t.sp - 8) steps) refl refl (frame_below image t t.sp steps 8 (t.sp - 8) at lies entered.leaves) entered.stack

  slot : (r : CalleeSaved) (e : ℕ) → distance r steps ≡ Some e → IsSlot image t.sp t r e
  slot r e found = slot_of image t t.sp r e steps 8 (t.sp - 8) at lies entered.leaves found

  return_value : (run : RowInstructions) → rule_of run 16 ≡ Some (Offset (negative 8)) → column_value x86_64 evaluates image columns t.sp run 16 ≡ Ok (Some t.ra)
  return_value run ret =
      let h = entered.room in let e : t.sp +w negative 8 ≡ t.sp - 8 = less t.sp 8 h words.sp in
      rw (ret, e, entered.returns refl, shows.ra) refl

  finds : (run : RowInstructions) (r : CalleeSaved) (d : Option ℕ) → distance r steps ≡ d → FindsRegister d (rule_of run (column_of r)) →
      column_value x86_64 evaluates image columns t.sp run (column_of r) ≡ Ok (Some (value_of r t))
  finds run r None e kept = unchanged evaluates image columns t.sp run r (value_of r t) kept (shows.saved r ∙ ap some (entered.keeps r e))
  finds run r (Some d) e at_d = found_at evaluates image columns run t s r d at_d (slot r d e) words.sp (shows.saved r)

  -- The row of a frame whose prologue has run has a caller, which shows the caller's state, and keeps the other columns.
  pub body_undone : (run : RowInstructions) → IsBodyRow steps run → Undoes evaluates image run t columns
  body_undone run fits = undone evaluates image run t columns (record {
    rule = cfa_after steps;
    has_cfa = fits.cfa;
    is_cfa = cfa_is;
    ra = return_value run fits.ret;
    saved = λ r. finds run r (distance r steps) refl (fits.saved r);
    others = fits.others;
  })

  -- the same inside the prologue, where registers still hold what the caller had
  pub prologue_undone : (run : RowInstructions) → IsPrologueRow steps run → ((r : CalleeSaved) → (r ≡ RBP → frame_depth steps ≡ None) → value_of r s ≡ value_of r t) → Undoes evaluates image run t columns
  prologue_undone run fits intact = undone evaluates image run t columns (record {
    rule = cfa_after steps;
    has_cfa = fits.cfa;
    is_cfa = cfa_is;
    ra = return_value run fits.ret;
    saved = λ r. elim (fits.saved r) [
      | inl is ↦ finds run r (distance r steps) refl is
      | inr late ↦ unchanged evaluates image columns t.sp run r (value_of r t) (inl late.0) (shows.saved r ∙ ap some (intact r late.1))
    ];
    others = fits.others;
  })

-- the row of an outermost frame
pub outermost_undone : (evaluates : Evaluates) (image : List Span) (run : RowInstructions) (s t : State) (columns : Columns) → IsOutermostRow run → IsEntered image true [] t s → IsState t → Shows columns s → t.ra ≡ 0 →
    Undoes evaluates image run t columns
outermost_undone evaluates image run s t columns fits entered words shows ends =
    let h : 8 ≤ t.sp = entered.room in
    let e : s.sp ≡ t.sp - 8 = entered.stack in
    let sum : s.sp + 8 ≡ t.sp = omega arith in
    let ra : column_value x86_64 evaluates image columns t.sp run 16 ≡ Ok (Some t.ra) = rw (fits.ret, shows.ra, ends) refl in
    undone evaluates image run t columns (record {
      rule = ColumnAndOffset 7 8;
      has_cfa = fits.cfa;
      is_cfa = rw shows.sp (ap number (plus s.sp 8 t.sp sum words.sp));
      ra = ra;
      saved = λ r. unchanged evaluates image columns t.sp run r (value_of r t) (fits.saved r) (shows.saved r ∙ ap some (entered.keeps r refl));
      others = fits.others;
    })

-- ---- stack pointers rise
pub rises : (image : List Span) (outermost : Bool) (steps : List Step) (t s : State) → IsEntered image outermost steps t s → s.sp < t.sp
rises image outermost steps t s entered = go (frame_after (t.sp - 8) steps) entered.stack
  where
    below : stack_after (t.sp - 8) steps + (8 + sum_by room_of steps) ≡ t.sp
    below = let h : 8 ≤ t.sp = entered.room in sp_below image t t.sp steps 8 (t.sp - 8) (omega arith) entered.leaves

    go : (o : Option ℕ) → MatchOption o (s.sp ≡ stack_after (t.sp - 8) steps) (λ frame. (s.sp ≤ stack_after (t.sp - 8) steps) × (s.rbp ≡ frame)) → s.sp < t.sp
    go None h = let b = below in omega arith
    go (Some v) h = let b = below in let le = h.0 in omega arith
