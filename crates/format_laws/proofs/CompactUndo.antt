-- The opcode of a described function undoes its prologue.
use Rattle.std.proofs.Common.{◌≡◌, ◌≢◌, ℕ, zero, suc, ◌+◌, ◌-◌, ◌*◌, ◌/◌, ◌%◌, ◌^◌, ◌<◌, ◌≤◌, Bool, true, false, cond, eqb, ◌||◌, List, [], ◌∷◌, take, Option, Some, None, Result, Ok, refl, sym, ap, subst, ◌∙◌, arith}
use Rattle.std.specs.Prelude.{slice_get, MatchOption, IsFalse}
use Rattle.std.specs.List.{list_any}
use Rattle.std.proofs.lemmas.Bool.{eqb-true}
use Rattle.memory_image.specs.Image.{Span, word_at}
use Rattle.memory_image.specs.Results.{◌>>=◌}
use Rattle.unwind_definitions.specs.Caller.{◌+w◌, Columns, StepFault, word_or_fault, column_or_fault}
use Rattle.unwind_definitions.specs.State.{CalleeSaved, RBX, RBP, R12, R13, R14, R15, State, IsState, value_of, column_of, is_same, Shows, is_followed, KeepsOthers}
use Rattle.unwind_definitions.specs.Prologue.{SystemV, Step, distance, EachMayFollow}
use Rattle.unwind_definitions.specs.Entered.{stack_after, frame_after, IsEntered}
use Rattle.unwind_definitions.specs.DescribedRows.{negative}
use Rattle.unwind_laws.proofs.Undo.{StoresLie, lie_of, IsSlot, slot_of, sp_below, FrameFits, frame_below}
use Rattle.format_definitions.specs.CompactStep.{with_column, read_up, read_down, by_frame, by_cfa}
use Rattle.format_definitions.specs.MachoModules.{IsField, IsFrameBased, AreSaved, IsFrameless}
use Rattle.format_laws.proofs.PeMachine.{same_register}

-- ---- columns

column_eq : (r q : CalleeSaved) → eqb (column_of r) (column_of q) ≡ is_same r q
column_eq RBX RBX = refl
column_eq RBP RBP = refl
column_eq R12 R12 = refl
column_eq R13 R13 = refl
column_eq R14 R14 = refl
column_eq R15 R15 = refl
column_eq _ _ = refl

-- a column of no register
abbrev IsOther : ℕ → Type 0
IsOther c = (r : CalleeSaved) → eqb c (column_of r) ≡ false

seven : IsOther 7
seven RBX = refl
seven RBP = refl
seven R12 = refl
seven R13 = refl
seven R14 = refl
seven R15 = refl

sixteen : IsOther 16
sixteen RBX = refl
sixteen RBP = refl
sixteen R12 = refl
sixteen R13 = refl
sixteen R14 = refl
sixteen R15 = refl

followed_column : (r : CalleeSaved) → is_followed (column_of r) ≡ true
followed_column RBX = refl
followed_column RBP = refl
followed_column R12 = refl
followed_column R13 = refl
followed_column R14 = refl
followed_column R15 = refl

unlike : (c k : ℕ) → is_followed c ≡ false → is_followed k ≡ true → eqb c k ≡ false
unlike c k free followed = go (eqb c k) refl
  where
    go : (b : Bool) → eqb c k ≡ b → b ≡ false
    go false e = refl
    go true e = let same : c ≡ k = eqb-true c k e in let h : is_followed c ≡ true = ap is_followed same ∙ followed in absurd cc

unfollowed : (c : ℕ) → IsFalse (is_followed c) → IsOther c
unfollowed c free r = unlike c (column_of r) free (followed_column r)

abbrev some : ℕ → Option ℕ
some v = Some v

with_other : (columns : Columns) (c k v : ℕ) → eqb c k ≡ false → with_column columns k v c ≡ columns c
with_other columns c k v e = ap (λ b. cond b (Some v) (columns c)) e

-- what a read register is in the columns after it
with_saved : (t : State) (columns : Columns) (r q : CalleeSaved) (v : ℕ) → columns (column_of r) ≡ Some v →
    with_column columns (column_of q) (value_of q t) (column_of r) ≡ Some (cond (is_same r q) (value_of r t) v)
with_saved t columns r q v old = ap (λ b. cond b (Some (value_of q t)) (columns (column_of r))) (column_eq r q) ∙ go (is_same r q) refl
  where
    go : (b : Bool) → is_same r q ≡ b → cond b (Some (value_of q t)) (columns (column_of r)) ≡ Some (cond b (value_of r t) v)
    go true e = ap (λ (p : CalleeSaved). Some (value_of p t)) (sym (same_register r q e))
    go false e = old

merge : (b c : Bool) (x y : ℕ) → cond c x (cond b x y) ≡ cond (b || c) x y
merge true true x y = refl
merge true false x y = refl
merge false true x y = refl
merge false false x y = refl

word_is : (image : List Span) (a v : ℕ) → word_at image a ≡ Some v → word_or_fault image a ≡ Ok v
word_is image a v e = rw e refl

abbrev pub named : CalleeSaved → List (Option CalleeSaved) → Bool
named r [] = false
named r (None ∷ fields) = named r fields
named r (Some q ∷ fields) = is_same r q || named r fields

module _ (image : List Span) (t : State) where
  -- ---- fields upwards
  pub record Up (a : ℕ) (fields : List (Option CalleeSaved)) (columns : Columns) : Type 0 where
    pub after : Columns
    pub is : read_up image a fields columns ≡ Ok after
    pub values : (r : CalleeSaved) (v : ℕ) → columns (column_of r) ≡ Some v → after (column_of r) ≡ Some (cond (named r fields) (value_of r t) v)
    pub others : (c : ℕ) → IsOther c → after c ≡ columns c

  -- each field that names a register finds the caller's value
  abbrev HoldUp : ℕ → List (Option CalleeSaved) → Type 0
  HoldUp a [] = Unit {0}
  HoldUp a (None ∷ fields) = HoldUp (a +w 8) fields
  HoldUp a (Some q ∷ fields) = (word_at image a ≡ Some (value_of q t)) × HoldUp (a +w 8) fields

  pub go_up : (fields : List (Option CalleeSaved)) (a : ℕ) (columns : Columns) → HoldUp a fields → Up a fields columns
  go_up [] a columns holds = record { after = columns; is = refl; values = λ r v e. e; others = λ c h. refl }
  go_up (None ∷ fields) a columns holds = let ih = go_up fields (a +w 8) columns holds in record { after = ih.after; is = ih.is; values = ih.values; others = ih.others }
  go_up (Some q ∷ fields) a columns holds =
      let next : Columns = with_column columns (column_of q) (value_of q t) in
      let ih = go_up fields (a +w 8) next holds.1 in
      record {
        after = ih.after;
        is = ap (λ o. o >>= (λ v. read_up image (a +w 8) fields (with_column columns (column_of q) v))) (word_is image a (value_of q t) holds.0) ∙ ih.is;
        values = λ r v e. ih.values r (cond (is_same r q) (value_of r t) v) (with_saved t columns r q v e) ∙ ap some (merge (is_same r q) (named r fields) (value_of r t) v);
        others = λ c h. ih.others c h ∙ with_other columns c (column_of q) (value_of q t) (h q);
      }

  -- ---- registers downwards
  pub record Down (a : ℕ) (rs : List CalleeSaved) (columns : Columns) : Type 0 where
    pub after : Columns
    pub is : read_down image a rs columns ≡ Ok after
    pub values : (r : CalleeSaved) (v : ℕ) → columns (column_of r) ≡ Some v → after (column_of r) ≡ Some (cond (list_any (is_same r) rs) (value_of r t) v)
    pub others : (c : ℕ) → IsOther c → after c ≡ columns c

  abbrev HoldDown : ℕ → List CalleeSaved → Type 0
  HoldDown a [] = Unit {0}
  HoldDown a (q ∷ rs) = (word_at image a ≡ Some (value_of q t)) × HoldDown (a +w negative 8) rs

  pub go_down : (rs : List CalleeSaved) (a : ℕ) (columns : Columns) → HoldDown a rs → Down a rs columns
  go_down [] a columns holds = record { after = columns; is = refl; values = λ r v e. e; others = λ c h. refl }
  go_down (q ∷ rs) a columns holds =
      let next : Columns = with_column columns (column_of q) (value_of q t) in
      let ih = go_down rs (a +w negative 8) next holds.1 in
      record {
        after = ih.after;
        is = ap (λ o. o >>= (λ v. read_down image (a +w negative 8) rs (with_column columns (column_of q) v))) (word_is image a (value_of q t) holds.0) ∙ ih.is;
        values = λ r v e. ih.values r (cond (is_same r q) (value_of r t) v) (with_saved t columns r q v e) ∙ ap some (merge (is_same r q) (list_any (is_same r) rs) (value_of r t) v);
        others = λ c h. ih.others c h ∙ with_other columns c (column_of q) (value_of q t) (h q);
      }

-- columns that show a state, and keep the others
pub record Called (result : Result Columns StepFault) (columns : Columns) (t : State) : Type 0 where
  pub caller : Columns
  pub is : result ≡ Ok caller
  pub shows : Shows caller t
  pub others : KeepsOthers columns caller

final : (b : Bool) (t s : ℕ) → (b ≡ false → s ≡ t) → cond b t s ≡ t
final true t s h = refl
final false t s h = h refl

module _ (image : List Span) (steps : List Step) (s t : State) (columns : Columns) (may : EachMayFollow SystemV [] steps) (entered : IsEntered image false steps t s) (words : IsState t) (shows : Shows columns s) where
  at : (t.sp - 8) + 8 ≡ t.sp
  at = let h : 8 ≤ t.sp = entered.room in omega arith

  lies : StoresLie 8 steps
  lies = lie_of [] steps 8 refl may

  slot : (r : CalleeSaved) (d : ℕ) → distance r steps ≡ Some d → IsSlot image t.sp t r d
  slot r d found = slot_of image t t.sp r d steps 8 (t.sp - 8) at lies entered.leaves found

  -- a register whose distance isn't known to be none
  by_distance : (r : CalleeSaved) (o : Option ℕ) → distance r steps ≡ o → (distance r steps ≢ None → ⊥) → distance r steps ≡ None
  by_distance r None e h = e
  by_distance r (Some d) e h = absurd (h (λ none. let q = sym e ∙ none in absurd cc))

  -- ---- without a frame register
  module _ (size : ℕ) (rs : List CalleeSaved) (fits : IsFrameless steps size rs) where
    hold_down : (rs : List CalleeSaved) (d : ℕ) → AreSaved steps d rs → HoldDown image t (t.sp +w negative d) rs
    hold_down [] d saved = tt
    hold_down (q ∷ []) d saved = (at_place q d saved.0, tt)
      where
        at_place : (q : CalleeSaved) (d : ℕ) → distance q steps ≡ Some d → word_at image (t.sp +w negative d) ≡ Some (value_of q t)
        at_place q d e =
            let sl = slot q d e in let within : d ≤ t.sp = sl.within in let high : t.sp < 2 ^ 64 = words.sp in
            let place : t.sp +w negative d ≡ t.sp - d = omega arith in
            ap (word_at image) place ∙ sl.word
    hold_down (q ∷ p ∷ rs) d saved =
        let sl = slot q d saved.0 in
        let next = slot p (d + 8) saved.1.0 in
        let within : d ≤ t.sp = sl.within in let further : d + 8 ≤ t.sp = next.within in let high : t.sp < 2 ^ 64 = words.sp in
        let place : t.sp +w negative d ≡ t.sp - d = omega arith in
        let step : (t.sp +w negative d) +w negative 8 ≡ t.sp +w negative (d + 8) = omega arith in
        (ap (word_at image) place ∙ sl.word, subst (λ a. HoldDown image t a (p ∷ rs)) (sym step) (hold_down (p ∷ rs) (d + 8) saved.1))

    sp_is : s.sp + size ≡ t.sp
    sp_is = go (frame_after (t.sp - 8) steps) refl (subst (λ o. FrameFits t.sp o (frame_after (t.sp - 8) steps)) fits.no_set (frame_below image t t.sp steps 8 (t.sp - 8) at lies entered.leaves)) entered.stack
      where
        go : (o : Option ℕ) → frame_after (t.sp - 8) steps ≡ o → FrameFits t.sp None (frame_after (t.sp - 8) steps) →
            MatchOption (frame_after (t.sp - 8) steps) (s.sp ≡ stack_after (t.sp - 8) steps) (λ frame. (s.sp ≤ stack_after (t.sp - 8) steps) × (s.rbp ≡ frame)) → s.sp + size ≡ t.sp
        go None e f stack =
            let sp : s.sp ≡ stack_after (t.sp - 8) steps = subst (λ o. MatchOption o (s.sp ≡ stack_after (t.sp - 8) steps) (λ frame. (s.sp ≤ stack_after (t.sp - 8) steps) × (s.rbp ≡ frame))) e stack in
            let sum = sp_below image t t.sp steps 8 (t.sp - 8) at entered.leaves in
            let is = fits.is_depth in omega (arith, sum, is, sp)
        go (Some v) e f stack = absurd (subst (λ o. FrameFits t.sp None o) e f)

    pub frameless_undone : Called (column_or_fault (columns 7) >>= (λ sp. by_cfa image rs columns (sp +w size))) columns t
    frameless_undone =
        let room : 8 ≤ t.sp = entered.room in let high : t.sp < 2 ^ 64 = words.sp in let sum = sp_is in
        let cfa : s.sp +w size ≡ t.sp = omega arith in
        let ret : t.sp +w negative 8 ≡ t.sp - 8 = omega arith in
        let word : word_at image (t.sp +w negative 8) ≡ Some t.ra = ap (word_at image) ret ∙ entered.returns refl in
        let from : Columns = with_column (with_column columns 7 t.sp) 16 t.ra in
        let down = go_down image t rs (t.sp +w negative 16) from (hold_down rs 16 fits.saved) in
        record {
          caller = down.after;
          is = ap (λ o. column_or_fault o >>= (λ sp. by_cfa image rs columns (sp +w size))) shows.sp ∙ ap (by_cfa image rs columns) cfa
              ∙ ap (λ o. o >>= (λ ret. read_down image (t.sp +w negative 16) rs (with_column (with_column columns 7 t.sp) 16 ret))) (word_is image (t.sp +w negative 8) t.ra word) ∙ down.is;
          shows = record {
            ra = down.others 16 sixteen;
            sp = down.others 7 seven;
            saved = λ r. down.values r (value_of r s) (kept r) ∙ ap some (final (list_any (is_same r) rs) (value_of r t) (value_of r s)
                (λ unlisted. entered.keeps r (by_distance r (distance r steps) refl (λ saved. let listed : list_any (is_same r) rs ≡ true = fits.all r saved in absurd cc))));
          };
          others = λ c free. down.others c (unfollowed c free) ∙ with_other (with_column columns 7 t.sp) c 16 t.ra (unlike c 16 free refl) ∙ with_other columns c 7 t.sp (unlike c 7 free refl);
        }
      where
        kept : (r : CalleeSaved) → with_column (with_column columns 7 t.sp) 16 t.ra (column_of r) ≡ Some (value_of r s)
        kept RBX = shows.saved RBX
        kept RBP = shows.saved RBP
        kept R12 = shows.saved R12
        kept R13 = shows.saved R13
        kept R14 = shows.saved R14
        kept R15 = shows.saved R15

  -- ---- with RBP as the frame register
  module _ (offset : ℕ) (fields : List (Option CalleeSaved)) (fits : IsFrameBased steps offset fields) where
    rbp_saved : distance RBP steps ≡ Some 16
    rbp_saved = ap (λ l. distance RBP l) fits.begins

    rbp_is : s.rbp + 16 ≡ t.sp
    rbp_is = go (frame_after (t.sp - 8) steps) (ap (frame_after (t.sp - 8)) fits.begins) entered.stack
      where
        go : (o : Option ℕ) → o ≡ Some ((t.sp - 8) - 8 + 0) → MatchOption o (s.sp ≡ stack_after (t.sp - 8) steps) (λ frame. (s.sp ≤ stack_after (t.sp - 8) steps) × (s.rbp ≡ frame)) → s.rbp + 16 ≡ t.sp
        go None e stack = absurd cc
        go (Some v) e stack =
            let is : v ≡ (t.sp - 8) - 8 + 0 = cc in
            let within = (slot RBP 16 rbp_saved).within in
            let h = stack.1 in omega (arith, within)

    -- the fields from j on, of which so many count
    hold_up : offset ≤ 2 ^ 64 → (count : ℕ) (rest : List (Option CalleeSaved)) (j a : ℕ) → ((i k : ℕ) (r : CalleeSaved) → k ≡ j + i → slice_get rest i ≡ Some (Some r) → k < offset / 8 → IsField steps offset k fields r) →
        count + j ≤ offset / 8 → a ≡ (s.rbp + (2 ^ 64 - offset) + 8 * j) % 2 ^ 64 → HoldUp image t a (take count rest)
    hold_up small zero rest j a each fit at_a = tt
    hold_up small (suc count) [] j a each fit at_a = tt
    hold_up small (suc count) (None ∷ rest) j a each fit at_a =
        hold_up small count rest (suc j) (a +w 8) (λ i k r e g lt. each (suc i) k r (omega (arith, e)) g lt) (omega arith) (omega arith)
    hold_up small (suc count) (Some q ∷ rest) j a each fit at_a =
        let field : IsField steps offset j fields q = each 0 j q (omega arith) refl (omega arith) in
        let d : ℕ = field.at in
        let far : d + 8 * j ≡ 16 + offset = field.slot in
        let sl : IsSlot image t.sp t q d = slot q d field.saved in
        let within : d ≤ t.sp = sl.within in let high : t.sp < 2 ^ 64 = words.sp in let base = rbp_is in
        let place : a ≡ t.sp - d = omega arith in
        (ap (word_at image) place ∙ sl.word, hold_up small count rest (suc j) (a +w 8) (λ i k r e g lt. each (suc i) k r (omega (arith, e)) g lt) (omega arith) (omega arith))

    named_at : (r : CalleeSaved) (fs : List (Option CalleeSaved)) (j n : ℕ) → slice_get fs j ≡ Some (Some r) → j < n → named r (take n fs) ≡ true
    named_at r [] j n e lt = absurd cc
    named_at r (f ∷ fs) j zero e lt = absurd (omega arith)
    named_at r (None ∷ fs) zero (suc n) e lt = let h : ◌≡◌ {A = Option CalleeSaved} None (Some r) = cc in absurd cc
    named_at r (Some q ∷ fs) zero (suc n) e lt = let h : q ≡ r = cc in rw h (same_name r (named r (take n fs)))
      where
        same_name : (r : CalleeSaved) (b : Bool) → (is_same r r || b) ≡ true
        same_name RBX b = refl
        same_name RBP b = refl
        same_name R12 b = refl
        same_name R13 b = refl
        same_name R14 b = refl
        same_name R15 b = refl
    named_at r (None ∷ fs) (suc j) (suc n) e lt = named_at r fs j n e (omega arith)
    named_at r (Some q ∷ fs) (suc j) (suc n) e lt = or_true (is_same r q) (named_at r fs j n e (omega arith))
      where
        or_true : (a : Bool) → {b : Bool} → b ≡ true → (a || b) ≡ true
        or_true true h = refl
        or_true false h = h

    pub frame_based_undone : offset ≤ 2 ^ 64 → Called (column_or_fault (columns 6) >>= by_frame image offset fields columns) columns t
    frame_based_undone small =
        let room : 8 ≤ t.sp = entered.room in let high : t.sp < 2 ^ 64 = words.sp in let base = rbp_is in
        let rbp_slot = slot RBP 16 rbp_saved in
        let within : 16 ≤ t.sp = rbp_slot.within in
        let here : s.rbp ≡ t.sp - 16 = omega arith in
        let ret : s.rbp +w 8 ≡ t.sp - 8 = omega arith in
        let top : s.rbp +w 16 ≡ t.sp = omega arith in
        let from : s.rbp +w negative offset ≡ (s.rbp + (2 ^ 64 - offset) + 8 * 0) % 2 ^ 64 = omega arith in
        let up = go_up image t (take (offset / 8) fields) (s.rbp +w negative offset) columns
        (hold_up small (offset / 8) fields 0 (s.rbp +w negative offset) (λ i k r e g lt. let lt' = lt in fits.others k r (omega arith) (subst (λ n. slice_get fields n ≡ Some (Some r)) (let h : i ≡ k = omega (arith, e) in h) g)) (omega arith) from) in
        let word_rbp : word_at image s.rbp ≡ Some t.rbp = ap (word_at image) here ∙ rbp_slot.word in
        let word_ra : word_at image (s.rbp +w 8) ≡ Some t.ra = ap (word_at image) ret ∙ entered.returns refl in
        record {
          caller = with_column (with_column (with_column up.after 6 t.rbp) 7 (s.rbp +w 16)) 16 t.ra;
          is = ap (λ o. column_or_fault o >>= by_frame image offset fields columns) (shows.saved RBP)
              ∙ ap (λ o. o >>= (λ read. word_or_fault image s.rbp >>= (λ saved. word_or_fault image (s.rbp +w 8) >>= (λ ret. Ok (with_column (with_column (with_column read 6 saved) 7 (s.rbp +w 16)) 16 ret))))) up.is
              ∙ ap (λ o. o >>= (λ saved. word_or_fault image (s.rbp +w 8) >>= (λ ret. Ok (with_column (with_column (with_column up.after 6 saved) 7 (s.rbp +w 16)) 16 ret)))) (word_is image s.rbp t.rbp word_rbp)
              ∙ ap (λ o. o >>= (λ ret. Ok (with_column (with_column (with_column up.after 6 t.rbp) 7 (s.rbp +w 16)) 16 ret))) (word_is image (s.rbp +w 8) t.ra word_ra);
          shows = record { ra = refl; sp = ap some top; saved = saved up.after up.values };
          others = λ c free.
              with_other (with_column (with_column up.after 6 t.rbp) 7 (s.rbp +w 16)) c 16 t.ra (unlike c 16 free refl) ∙ with_other (with_column up.after 6 t.rbp) c 7 (s.rbp +w 16) (unlike c 7 free refl)
              ∙ with_other up.after c 6 t.rbp (unlike c 6 free refl) ∙ up.others c (unfollowed c free);
        }
      where
        value : (q : Columns) → ((r : CalleeSaved) (v : ℕ) → columns (column_of r) ≡ Some v → q (column_of r) ≡ Some (cond (named r (take (offset / 8) fields)) (value_of r t) v)) → (r : CalleeSaved) → r ≢ RBP → q (column_of r) ≡ Some (value_of r t)
        value q up r other = up r (value_of r s) (shows.saved r) ∙ ap some (final (named r (take (offset / 8) fields)) (value_of r t) (value_of r s)
            (λ unnamed. entered.keeps r (by_distance r (distance r steps) refl (λ saved. let f = fits.each r other saved in let low = f.1.low in let q' = named_at r fields f.0 (offset / 8) f.1.names (omega arith) in absurd cc))))

        saved : (q : Columns) → ((r : CalleeSaved) (v : ℕ) → columns (column_of r) ≡ Some v → q (column_of r) ≡ Some (cond (named r (take (offset / 8) fields)) (value_of r t) v)) →
            (r : CalleeSaved) → with_column (with_column (with_column q 6 t.rbp) 7 (s.rbp +w 16)) 16 t.ra (column_of r) ≡ Some (value_of r t)
        saved q up RBX = value q up RBX (λ e. absurd cc)
        saved q up RBP = refl
        saved q up R12 = value q up R12 (λ e. absurd cc)
        saved q up R13 = value q up R13 (λ e. absurd cc)
        saved q up R14 = value q up R14 (λ e. absurd cc)
        saved q up R15 = value q up R15 (λ e. absurd cc)
