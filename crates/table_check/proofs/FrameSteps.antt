-- What is kept of the steps so far, after one more.
use Rattle.std.proofs.Common.{◌≡◌, ℕ, ◌+◌, ◌-◌, ◌^◌, ◌<◌, ◌≤◌, Bool, true, false, cond, List, [], ◌∷◌, ◌++◌, Option, Some, None, refl, sym, ap, subst, ◌∙◌, inl, inr, arith}
use Rattle.std.specs.Prelude.{◌≢◌, ◌||◌, IsTrue, is_some, max, min, not}
use Rattle.std.specs.Bool.{Decides}
use Rattle.std.specs.List.{AllByRecursion, sum_by, list_any}
use Rattle.std.specs.Option.{option_map, option_or}
use Rattle.std.proofs.lemmas.Bool.{cases_lt}
use Rattle.std.proofs.lemmas.List.Folds.{list_any-append}
use Rattle.unwind_definitions.specs.State.{CalleeSaved, RBX, RBP, R12, R13, R14, R15, is_same}
use Rattle.unwind_definitions.specs.Prologue.{Register, Followed, RDI, RSI, XMM, Step, Push, Allocate, SetFrame, Store, Save, SystemV, room_of, depth, frame_depth, frame_depth_from, distance, distance_in, saves, saves_from, is_register, may_push, pushes}
use Rattle.unwind_definitions.specs.DescribedRows.{negative}
use Rattle.table_check.specs.declared.prologue.FrameSoFar.{FrameSoFar}
use Rattle.table_check.specs.Frames.{IsAbout, IsAboutOption, IsFrameAfter, MayBeSaved, slot_of, with_slot}
use Rattle.table_check.proofs.Prologues.{saves-append, frame-append, distance-append, depth-push}

-- ---- slots by registers

pub slot_with : (q r : CalleeSaved) (n : ℕ) (f : FrameSoFar) → slot_of q (with_slot r n f) ≡ cond (is_same q r) (Some n) (slot_of q f)
slot_with RBX RBX n f = refl
slot_with RBP RBP n f = refl
slot_with R12 R12 n f = refl
slot_with R13 R13 n f = refl
slot_with R14 R14 n f = refl
slot_with R15 R15 n f = refl
slot_with _ _ n f = refl

same_is : (q r : CalleeSaved) → is_same q r ≡ true → q ≡ r
same_is RBX RBX is = refl
same_is RBP RBP is = refl
same_is R12 R12 is = refl
same_is R13 R13 is = refl
same_is R14 R14 is = refl
same_is R15 R15 is = refl
same_is _ _ is = absurd cc

pub is_same_self : (r : CalleeSaved) → is_same r r ≡ true
is_same_self RBX = refl
is_same_self RBP = refl
is_same_self R12 = refl
is_same_self R13 = refl
is_same_self R14 = refl
is_same_self R15 = refl

kept_depth : (r : CalleeSaved) (n : ℕ) (f : FrameSoFar) → (with_slot r n f).depth ≡ f.depth
kept_depth RBX n f = refl
kept_depth RBP n f = refl
kept_depth R12 n f = refl
kept_depth R13 n f = refl
kept_depth R14 n f = refl
kept_depth R15 n f = refl

kept_frame : (r : CalleeSaved) (n : ℕ) (f : FrameSoFar) → (with_slot r n f).frame_depth ≡ f.frame_depth
kept_frame RBX n f = refl
kept_frame RBP n f = refl
kept_frame R12 n f = refl
kept_frame R13 n f = refl
kept_frame R14 n f = refl
kept_frame R15 n f = refl

kept_pushed : (r : CalleeSaved) (n : ℕ) (f : FrameSoFar) → (with_slot r n f).is_rbp_pushed ≡ f.is_rbp_pushed
kept_pushed RBX n f = refl
kept_pushed RBP n f = refl
kept_pushed R12 n f = refl
kept_pushed R13 n f = refl
kept_pushed R14 n f = refl
kept_pushed R15 n f = refl

-- ---- what a register's distance tells of the saves

pub unsaved : (r : CalleeSaved) (ss : List Save) → distance_in r ss ≡ None → AllByRecursion (λ (s : Save). s.register ≢ Followed r) ss
unsaved r [] none = tt
unsaved r (s ∷ ss) none = first (unsaved r ss) (is_register r s.register) refl
  where
    first : (distance_in r ss ≡ None → AllByRecursion (λ (a : Save). a.register ≢ Followed r) ss) → (b : Bool) → is_register r s.register ≡ b → AllByRecursion (λ (a : Save). a.register ≢ Followed r) (s ∷ ss)
    first rest true is = absurd (let h : Some s.distance ≡ None = sym (ap (λ c. cond c (Some s.distance) (distance_in r ss)) is) ∙ none in cc)
    first rest false is = (
      λ same. let h : true ≡ false = sym (ap (is_register r) same ∙ is_same_self r) ∙ is in cc,
      rest (sym (ap (λ c. cond c (Some s.distance) (distance_in r ss)) is) ∙ none),
    )

is_register_is : (r : CalleeSaved) (q : Register) → is_register r q ≡ true → q ≡ Followed r
is_register_is r (Followed q) is = ap Followed (sym (same_is r q is))
is_register_is r RDI is = absurd cc
is_register_is r RSI is = absurd cc
is_register_is r (XMM n) is = absurd cc

pub saved_before : (r : CalleeSaved) (n : ℕ) (ss : List Save) → distance_in r ss ≡ Some n → AllByRecursion (λ (s : Save). s.register ≢ Followed r) ss → ⊥
saved_before r n [] some all = let h : None ≡ Some n = some in cc
saved_before r n (s ∷ ss) some all = first (saved_before r n ss) (is_register r s.register) refl
  where
    first : (distance_in r ss ≡ Some n → AllByRecursion (λ (a : Save). a.register ≢ Followed r) ss → ⊥) → (b : Bool) → is_register r s.register ≡ b → ⊥
    first rest true is = all.0 (is_register_is r s.register is)
    first rest false is = rest (sym (ap (λ c. cond c (Some s.distance) (distance_in r ss)) is) ∙ some) all.1

-- ---- numbers

about_none : (high : ℕ) (o : Option ℕ) → IsAboutOption high None o → o ≡ None
about_none high None about = refl
about_none high (Some n) about = absurd about

pub none_about : (high : ℕ) (a o : Option ℕ) → IsAboutOption high a o → a ≡ None → o ≡ None
none_about high None o about is = about_none high o about
none_about high (Some k) o about is = absurd cc

weaker : (k n : ℕ) → IsAbout (2 ^ 100) k n → IsAbout (2 ^ 99) k n
weaker k n (inl same) = inl same
weaker k n (inr high) = inr (let a : 2 ^ 100 ≤ k = high.0 in let b : 2 ^ 100 ≤ n = high.1 in (omega (arith, a), omega (arith, b)))

pub raised : (x k n m : ℕ) → x ≡ min (k + m) (2 ^ 128 - 1) → IsAbout (2 ^ 100) k n → IsAbout (2 ^ 100) x (n + m)
raised x k n m is (inl same) = elim (cases_lt (n + m) (2 ^ 100)) [ inl low ↦ inl (omega arith) | inr high ↦ inr (omega arith, omega arith) ]
raised x k n m is (inr high) = inr (omega arith, omega arith)

pub lowered : (x k n m : ℕ) → x ≡ max (k - m) 1 → m < 2 ^ 64 → m + 16 ≤ n → IsAbout (2 ^ 100) k n → IsAbout (2 ^ 99) x (n - m)
lowered x k n m is fits within (inl same) = inl (omega arith)
lowered x k n m is fits within (inr high) = inr (omega arith, omega arith)

-- numbers that are so high are below all offsets that are words
same_word : (k n : ℕ) → IsAbout (2 ^ 99) k n → negative k ≡ negative n
same_word k n (inl same) = ap negative same
same_word k n (inr high) = let a = high.0 in let b = high.1 in omega (arith, a, b)

-- ---- slots that are kept as words

none_mapped : (o : Option ℕ) → option_map negative o ≡ None → o ≡ None
none_mapped None is = refl
none_mapped (Some n) is = absurd cc

some_mapped : (o : Option ℕ) (k : ℕ) → option_map negative o ≡ Some k → (n : ℕ) × (o ≡ Some n)
some_mapped None k is = absurd cc
some_mapped (Some n) k is = (n, refl)

-- ---- after one more step

or_none : (o : Option ℕ) → option_or o None ≡ o
or_none None = refl
or_none (Some n) = refl

one_slot : (b : Bool) (a o : Option ℕ) (k n : ℕ) → a ≡ option_map negative o → (b ≡ true → o ≡ None) → k ≡ negative n → cond b (Some k) a ≡ option_map negative (option_or o (cond b (Some n) None))
one_slot true a o k n was none word = ap Some word ∙ ap (λ p. option_map negative (option_or p (Some n))) (sym (none refl))
one_slot false a o k n was none word = was ∙ ap (option_map negative) (sym (or_none o))

keeps_frame : (xs : List Step) (s : Step) → frame_depth_from (8 + sum_by room_of xs) (s ∷ []) ≡ None → frame_depth (xs ++ s ∷ []) ≡ frame_depth xs
keeps_frame xs s none = frame-append 8 xs (s ∷ []) ∙ ap (λ o. option_or (frame_depth xs) o) none ∙ or_none (frame_depth xs)

keeps_slot : (r : CalleeSaved) (xs : List Step) (s : Step) → saves_from (8 + sum_by room_of xs) (s ∷ []) ≡ [] → distance r (xs ++ s ∷ []) ≡ distance r xs
keeps_slot r xs s none = ap (distance_in r) (saves-append 8 xs (s ∷ []) ∙ ap (λ l. saves xs ++ l) none) ∙ distance-append r (saves xs) [] ∙ or_none (distance r xs)

new_slot : (r q : CalleeSaved) (xs : List Step) (s : Step) (n : ℕ) → saves_from (8 + sum_by room_of xs) (s ∷ []) ≡ record { register = Followed q; distance = n } ∷ [] → distance r (xs ++ s ∷ []) ≡ option_or (distance r xs) (cond (is_same r q) (Some n) None)
new_slot r q xs s n one = ap (distance_in r) (saves-append 8 xs (s ∷ []) ∙ ap (λ l. saves xs ++ l) one) ∙ distance-append r (saves xs) (record { register = Followed q; distance = n } ∷ [])

pushed_more : (xs : List Step) (s : Step) (b c : Bool) → b ≡ list_any (pushes RBP) xs → c ≡ pushes RBP s → (b || c) ≡ list_any (pushes RBP) (xs ++ s ∷ [])
pushed_more xs s b c is this = ap (λ x. x || c) is ∙ ap (λ x. list_any (pushes RBP) xs || x) (this ∙ sym (or_false (pushes RBP s))) ∙ sym (list_any-append (pushes RBP) xs (s ∷ []))
  where
    or_false : (x : Bool) → (x || false) ≡ x
    or_false true = refl
    or_false false = refl

or_off : (x : Bool) → (x || false) ≡ x
or_off true = refl
or_off false = refl

none_before : (r q : CalleeSaved) (xs : List Step) → distance q xs ≡ None → is_same r q ≡ true → distance r xs ≡ None
none_before r q xs none same = ap (λ p. distance p xs) (same_is r q same) ∙ none

pub after_push : (old : FrameSoFar) (xs : List Step) (q : CalleeSaved) (d w : ℕ) (p : Bool) → d ≡ min (old.depth + 8) (2 ^ 128 - 1) → w ≡ negative d → p ≡ (old.is_rbp_pushed || is_same RBP q) → IsFrameAfter old xs → distance q xs ≡ None →
    IsFrameAfter (with_slot q w (record old { depth = d; is_rbp_pushed = p })) (xs ++ Push (Followed q) ∷ [])
after_push old xs q d w p is word pushed was none =
    let mid : FrameSoFar = record old { depth = d; is_rbp_pushed = p } in
    let s : Step = Push (Followed q) in
    let deeper : IsAbout (2 ^ 100) d (depth xs + 8) = raised d old.depth (depth xs) 8 is was.lowered in record {
      lowered = subst (λ n. IsAbout (2 ^ 100) n (depth (xs ++ s ∷ []))) (sym (kept_depth q w mid)) (subst (λ n. IsAbout (2 ^ 100) d n) (sym (depth-push xs s)) deeper);
      set = subst (λ o. IsAboutOption (2 ^ 100) o (frame_depth (xs ++ s ∷ []))) (sym (kept_frame q w mid)) (subst (λ o. IsAboutOption (2 ^ 100) old.frame_depth o) (sym (keeps_frame xs s refl)) was.set);
      pushed = kept_pushed q w mid ∙ pushed ∙ pushed_more xs s old.is_rbp_pushed (is_same RBP q) was.pushed refl;
      saved = λ r. slot_with r q w mid ∙ one_slot (is_same r q) (slot_of r mid) (distance r xs) w (depth xs + 8) (sym (slot_kept r) ∙ was.saved r) (none_before r q xs none) (word ∙ same_word d (depth xs + 8) (weaker d (depth xs + 8) deeper))
          ∙ ap (option_map negative) (sym (new_slot r q xs s (depth xs + 8) refl));
    }
  where
    slot_kept : (r : CalleeSaved) → slot_of r old ≡ slot_of r (record old { depth = d; is_rbp_pushed = p })
    slot_kept RBX = refl
    slot_kept RBP = refl
    slot_kept R12 = refl
    slot_kept R13 = refl
    slot_kept R14 = refl
    slot_kept R15 = refl

pub after_store : (old : FrameSoFar) (xs : List Step) (q : CalleeSaved) (d w k : ℕ) → d ≡ max (old.depth - k) 1 → w ≡ negative d → k < 2 ^ 64 → IsFrameAfter old xs → k + 16 ≤ depth xs → distance q xs ≡ None → IsFrameAfter (with_slot q w old) (xs ++ Store (Followed q) k ∷ [])
after_store old xs q d w k is word fits was within none =
    let s : Step = Store (Followed q) k in
    let same : depth (xs ++ s ∷ []) ≡ depth xs = let h = depth-push xs s in omega (arith, h) in
    let near : IsAbout (2 ^ 99) d (depth xs - k) = lowered d old.depth (depth xs) k is fits within was.lowered in record {
      lowered = subst (λ n. IsAbout (2 ^ 100) n (depth (xs ++ s ∷ []))) (sym (kept_depth q w old)) (subst (λ n. IsAbout (2 ^ 100) old.depth n) (sym same) was.lowered);
      set = subst (λ o. IsAboutOption (2 ^ 100) o (frame_depth (xs ++ s ∷ []))) (sym (kept_frame q w old)) (subst (λ o. IsAboutOption (2 ^ 100) old.frame_depth o) (sym (keeps_frame xs s refl)) was.set);
      pushed = kept_pushed q w old ∙ sym (or_off old.is_rbp_pushed) ∙ pushed_more xs s old.is_rbp_pushed false was.pushed refl;
      saved = λ r. slot_with r q w old ∙ one_slot (is_same r q) (slot_of r old) (distance r xs) w (depth xs - k) (was.saved r) (none_before r q xs none) (word ∙ same_word d (depth xs - k) near)
          ∙ ap (option_map negative) (sym (new_slot r q xs s (depth xs - k) refl));
    }

slot_deep : (r : CalleeSaved) (old : FrameSoFar) (d : ℕ) → slot_of r (record old { depth = d }) ≡ slot_of r old
slot_deep RBX old d = refl
slot_deep RBP old d = refl
slot_deep R12 old d = refl
slot_deep R13 old d = refl
slot_deep R14 old d = refl
slot_deep R15 old d = refl

pub after_allocate : (old : FrameSoFar) (xs : List Step) (d n : ℕ) → d ≡ min (old.depth + n) (2 ^ 128 - 1) → IsFrameAfter old xs → IsFrameAfter (record old { depth = d }) (xs ++ Allocate n ∷ [])
after_allocate old xs d n is was =
    let s : Step = Allocate n in record {
      lowered = subst (λ m. IsAbout (2 ^ 100) d m) (sym (depth-push xs s)) (raised d old.depth (depth xs) n is was.lowered);
      set = subst (λ o. IsAboutOption (2 ^ 100) old.frame_depth o) (sym (keeps_frame xs s refl)) was.set;
      pushed = sym (or_off old.is_rbp_pushed) ∙ pushed_more xs s old.is_rbp_pushed false was.pushed refl;
      saved = λ r. slot_deep r old d ∙ was.saved r ∙ ap (option_map negative) (sym (keeps_slot r xs s refl));
    }

slot_set : (r : CalleeSaved) (old : FrameSoFar) (o : Option ℕ) → slot_of r (record old { frame_depth = o }) ≡ slot_of r old
slot_set RBX old o = refl
slot_set RBP old o = refl
slot_set R12 old o = refl
slot_set R13 old o = refl
slot_set R14 old o = refl
slot_set R15 old o = refl

pub after_set : (old : FrameSoFar) (xs : List Step) (m : ℕ) → IsFrameAfter old xs → frame_depth xs ≡ None → IsFrameAfter (record old { frame_depth = Some old.depth }) (xs ++ SetFrame m ∷ [])
after_set old xs m was none =
    let s : Step = SetFrame m in
    let same : depth (xs ++ s ∷ []) ≡ depth xs = let h = depth-push xs s in omega (arith, h) in
    let frame : frame_depth (xs ++ s ∷ []) ≡ Some (depth xs) = frame-append 8 xs (s ∷ []) ∙ ap (λ o. option_or o (Some (depth xs))) none in record {
      lowered = subst (λ n. IsAbout (2 ^ 100) old.depth n) (sym same) was.lowered;
      set = subst (λ o. IsAboutOption (2 ^ 100) (Some old.depth) o) (sym frame) was.lowered;
      pushed = sym (or_off old.is_rbp_pushed) ∙ pushed_more xs s old.is_rbp_pushed false was.pushed refl;
      saved = λ r. slot_set r old (Some old.depth) ∙ was.saved r ∙ ap (option_map negative) (sym (keeps_slot r xs s refl));
    }

-- ---- what may be saved

pub none_of_unsaved : (q : CalleeSaved) (ss : List Save) → AllByRecursion (λ (s : Save). s.register ≢ Followed q) ss → distance_in q ss ≡ None
none_of_unsaved q ss all = split (distance_in q ss) refl
  where
    split : (o : Option ℕ) → distance_in q ss ≡ o → distance_in q ss ≡ None
    split None is = is
    split (Some n) is = absurd (saved_before q n ss is all)

pub may_be_saved : (frame : FrameSoFar) (before : List Step) (q : CalleeSaved) (slot : Option ℕ) (b : Bool) (reg : Register) → IsFrameAfter frame before → slot ≡ slot_of q frame → is_some slot ≡ not b → reg ≡ Followed q → Decides b (MayBeSaved before reg)
may_be_saved frame before q None b reg was slot none reg_is = (
  λ h. (
    subst (λ r. IsTrue (may_push SystemV r)) (sym reg_is) refl,
    subst (λ r. AllByRecursion (λ (s : Save). s.register ≢ r) (saves before)) (sym reg_is) (unsaved q (saves before) (none_mapped (distance q before) (sym (was.saved q) ∙ sym slot))),
  ),
  λ p. is_true b none,
)
  where
    is_true : (b : Bool) → false ≡ not b → b ≡ true
    is_true true h = refl
    is_true false h = absurd cc
may_be_saved frame before q (Some k) b reg was slot some reg_is = (
  λ h. absurd (let g : true ≡ not b = some in let e : true ≡ false = g ∙ ap not h in cc),
  λ p. absurd (let n = some_mapped (distance q before) k (sym (was.saved q) ∙ sym slot) in
      saved_before q n.0 (saves before) n.1 (subst (λ r. AllByRecursion (λ (s : Save). s.register ≢ r) (saves before)) reg_is p.1)),
)

-- what holds of each of the six holds of all
pub six : (P : CalleeSaved → Type 0) → P RBX → P RBP → P R12 → P R13 → P R14 → P R15 → (r : CalleeSaved) → P r
six P a b c d e f RBX = a
six P a b c d e f RBP = b
six P a b c d e f R12 = c
six P a b c d e f R13 = d
six P a b c d e f R14 = e
six P a b c d e f R15 = f
