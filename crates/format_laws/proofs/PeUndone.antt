-- A whole prologue, or its first steps, undone.
use Rattle.std.proofs.Common.{◌≡◌, ℕ, ◌+◌, ◌-◌, ◌%◌, ◌^◌, ◌<◌, ◌≤◌, Bool, true, false, cond, ◌||◌, List, [], ◌∷◌, ◌++◌, map, Option, Some, None, refl, sym, ap, subst, ◌∙◌, arith, inl, inr, append_assoc}
use Rattle.std.specs.Prelude.{◌⊎◌, reverse, MatchOption}
use Rattle.std.specs.List.{AllByRecursion, list_any}
use Rattle.std.proofs.lemmas.List.{reverse-append, reverse-reverse}
use Rattle.std.proofs.lemmas.List.Folds.{list_any-append}
use Rattle.std.proofs.lemmas.Grind.{reverse_onto}
use Rattle.memory_image.specs.Image.{Span, word_at}
use Rattle.unwind_definitions.specs.State.{CalleeSaved, RBP, State, IsState, value_of, is_same}
use Rattle.unwind_definitions.specs.Prologue.{Followed, RDI, RSI, XMM, Step, Push, Allocate, SetFrame, Store, pushes, distance_in, saves_from}
use Rattle.unwind_definitions.specs.Entered.{Leaves, stack_after, frame_after, IsEntered}
use Rattle.pe_unwind_info.specs.declared.x86_64.operations.UnwindOperation.TheVariants.{RestoreSPFromFP}
use Rattle.pe_unwind_info.specs.Machine.{Registers, with_stack_pointer, less, Goes}
use Rattle.format_definitions.specs.PeRegisters.{number_of, ShowsRegisters, KeepsScratch}
use Rattle.format_definitions.specs.PeUndoing.{undo, IsPushOrAllocation, IsStore, set_step}
use Rattle.format_laws.proofs.PeMachine.{set_other, not_sp, scratch_not, FrameBase, frame_named, base_in, run_by, run_append, leaves_append, stack_append, stack_falls}
use Rattle.format_laws.proofs.PeBack.{stores_in, IsFrame, no_frame, by_rbp, IsSlot, StoresBack, stores_back, PopsBack, pops_back}

-- ---- lists
all_append : {A : Type 0} (P : A → Type 0) (xs ys : List A) → AllByRecursion P xs → AllByRecursion P ys → AllByRecursion P (xs ++ ys)
all_append P [] ys a b = b
all_append P (x ∷ xs) ys a b = (a.0, all_append P xs ys a.1 b)

pub all_reverse : {A : Type 0} (P : A → Type 0) (xs : List A) → AllByRecursion P xs → AllByRecursion P (reverse xs)
all_reverse P [] a = tt
all_reverse P (x ∷ xs) a = subst (AllByRecursion P) (sym (reverse_onto xs x [])) (all_append P (reverse xs) (x ∷ []) (all_reverse P xs a.1) (a.0, tt))

or_last : (a b : Bool) → (a || (b || false)) ≡ (b || a)
or_last true true = refl
or_last true false = refl
or_last false true = refl
or_last false false = refl

pub any_reverse : {A : Type 0} (p : A → Bool) (xs : List A) → list_any p (reverse xs) ≡ list_any p xs
any_reverse p [] = refl
any_reverse p (x ∷ xs) = ap (list_any p) (reverse_onto xs x []) ∙ list_any-append p (reverse xs) (x ∷ []) ∙ or_last (list_any p (reverse xs)) (p x) ∙ ap (λ b. p x || b) (any_reverse p xs)

neither : (a b : Bool) → (a || b) ≡ false → (a ≡ false) × (b ≡ false)
neither true b e = absurd cc
neither false b e = (refl, e)

append_nil : {A : Type 0} (xs : List A) → xs ++ [] ≡ xs
append_nil [] = refl
append_nil (x ∷ xs) = ap (λ ys. x ∷ ys) (append_nil xs)

-- ---- prologues of frame steps and stores
frame_none : (sp : ℕ) (fs ys : List Step) → AllByRecursion IsPushOrAllocation fs → frame_after sp (fs ++ ys) ≡ frame_after (stack_after sp fs) ys
frame_none sp [] ys all = refl
frame_none sp (Push r ∷ fs) ys all = frame_none (sp - 8) fs ys all.1
frame_none sp (Allocate n ∷ fs) ys all = frame_none (sp - n) fs ys all.1
frame_none sp (SetFrame m ∷ fs) ys all = absurd all.0
frame_none sp (Store r k ∷ fs) ys all = absurd all.0

frame_stores : (sp : ℕ) (ss : List Step) → AllByRecursion IsStore ss → frame_after sp ss ≡ None
frame_stores sp [] all = refl
frame_stores sp (Push r ∷ ss) all = absurd all.0
frame_stores sp (Allocate n ∷ ss) all = absurd all.0
frame_stores sp (SetFrame m ∷ ss) all = absurd all.0
frame_stores sp (Store r k ∷ ss) all = frame_stores sp ss all.1

stack_stores : (sp : ℕ) (ss : List Step) → AllByRecursion IsStore ss → stack_after sp ss ≡ sp
stack_stores sp [] all = refl
stack_stores sp (Push r ∷ ss) all = absurd all.0
stack_stores sp (Allocate n ∷ ss) all = absurd all.0
stack_stores sp (SetFrame m ∷ ss) all = absurd all.0
stack_stores sp (Store r k ∷ ss) all = stack_stores sp ss all.1

slots_of : (image : List Span) (t : State) (frame : FrameBase) (named : IsFrame frame) (base : ℕ) (ss : List Step) → AllByRecursion IsStore ss → Leaves image t base ss → AllByRecursion (IsSlot image t frame named base) ss
slots_of image t frame named base [] all leaves = tt
slots_of image t frame named base (Push r ∷ ss) all leaves = absurd all.0
slots_of image t frame named base (Allocate n ∷ ss) all leaves = absurd all.0
slots_of image t frame named base (SetFrame m ∷ ss) all leaves = absurd all.0
slots_of image t frame named base (Store r k ∷ ss) all leaves = ((leaves.0, leaves.1, all.0), slots_of image t frame named base ss all.1 leaves.2)

no_store : (r : CalleeSaved) (fs : List Step) → AllByRecursion IsPushOrAllocation fs → list_any (stores_in r) fs ≡ false
no_store r [] all = refl
no_store r (Push q ∷ fs) all = no_store r fs all.1
no_store r (Allocate n ∷ fs) all = no_store r fs all.1
no_store r (SetFrame m ∷ fs) all = absurd all.0
no_store r (Store q k ∷ fs) all = absurd all.0

no_push : (r : CalleeSaved) (ss : List Step) → AllByRecursion IsStore ss → list_any (pushes r) ss ≡ false
no_push r [] all = refl
no_push r (Push q ∷ ss) all = absurd all.0
no_push r (Allocate n ∷ ss) all = absurd all.0
no_push r (SetFrame m ∷ ss) all = absurd all.0
no_push r (Store q k ∷ ss) all = no_push r ss all.1

unsaved : (r : CalleeSaved) (steps : List Step) (d : ℕ) → list_any (pushes r) steps ≡ false → list_any (stores_in r) steps ≡ false → distance_in r (saves_from d steps) ≡ None
unsaved r [] d p s = refl
unsaved r (Push (Followed q) ∷ steps) d p s = let both = neither (is_same r q) (list_any (pushes r) steps) p in rw both.0 (unsaved r steps (d + 8) both.1 s)
unsaved r (Push RDI ∷ steps) d p s = unsaved r steps (d + 8) p s
unsaved r (Push RSI ∷ steps) d p s = unsaved r steps (d + 8) p s
unsaved r (Push (XMM n) ∷ steps) d p s = unsaved r steps (d + 8) p s
unsaved r (Allocate n ∷ steps) d p s = unsaved r steps (d + n) p s
unsaved r (SetFrame m ∷ steps) d p s = unsaved r steps d p s
unsaved r (Store (Followed q) k ∷ steps) d p s = let both = neither (is_same r q) (list_any (stores_in r) steps) s in rw both.0 (unsaved r steps d p both.1)
unsaved r (Store RDI k ∷ steps) d p s = unsaved r steps d p s
unsaved r (Store RSI k ∷ steps) d p s = unsaved r steps d p s
unsaved r (Store (XMM n) k ∷ steps) d p s = unsaved r steps d p s

-- ---- the frame register that records name, and the steps that have run
pub data Fits : FrameBase → Option ℕ → List Step → Type 0 where
  plain : {ss : List Step} → Fits None None ss
  early : {m : ℕ} {ss : List Step} → ss ≡ [] → Fits (Some (5, m)) None ss
  based : {m : ℕ} {ss : List Step} → m ≤ 2 ^ 64 → Fits (Some (5, m)) (Some m) ss

is_frame_of : {frame : FrameBase} {set : Option ℕ} {ss : List Step} → Fits frame set ss → IsFrame frame
is_frame_of plain = no_frame
is_frame_of (early e) = by_rbp
is_frame_of (based le) = by_rbp

pub record Undone (image : List Span) (t : State) (frame : FrameBase) (steps : List Step) (regs : Registers) : Type 0 where
  pub after : Registers
  pub is : run_by frame (word_at image) (map undo (reverse steps)) regs ≡ Goes after
  pub sp : after.general 4 ≡ t.sp - 8
  pub values : (r : CalleeSaved) → after.general (number_of r) ≡ value_of r t
  pub scratch : KeepsScratch regs after

map_append : {A B : Type 0} (f : A → B) (xs ys : List A) → map f (xs ++ ys) ≡ map f xs ++ map f ys
map_append f [] ys = refl
map_append f (x ∷ xs) ys = ap (λ l. f x ∷ l) (map_append f xs ys)

module _ (image : List Span) (t s : State) (regs : Registers) (words : IsState t) (shows : ShowsRegisters regs s) (fs ss : List Step) (frames : AllByRecursion IsPushOrAllocation fs) (stores : AllByRecursion IsStore ss) where
  abbrev start : ℕ
  start = t.sp - 8

  top : t.sp - 8 < 2 ^ 64
  top = let h = words.sp in omega arith

  -- the values, once stores and pushes are undone
  final : (a b : Bool) (r : CalleeSaved) (v : ℕ) → v ≡ cond a (value_of r t) (cond b (value_of r t) (value_of r s)) → (a ≡ false → b ≡ false → value_of r s ≡ value_of r t) → v ≡ value_of r t
  final true b r v e h = e
  final false true r v e h = e
  final false false r v e h = e ∙ h refl refl

  module _ (frame : FrameBase) (is_frame : IsFrame frame) where
    -- without a `Set`
    unset : base_in frame regs ≡ stack_after start fs ⊎ (ss ≡ []) → IsEntered image false (fs ++ ss) t s → Undone image t frame (fs ++ ss) regs
    unset base entered =
        let parts = leaves_append image t fs ss start entered.leaves in
        let none : frame_after start (fs ++ ss) ≡ None = frame_none start fs ss frames ∙ frame_stores (stack_after start fs) ss stores in
        let sp_is : s.sp ≡ stack_after start (fs ++ ss) = subst (λ o. MatchOption o (s.sp ≡ stack_after start (fs ++ ss)) (λ f. (s.sp ≤ stack_after start (fs ++ ss)) × (s.rbp ≡ f))) none entered.stack in
        let sp_at : regs.general 4 ≡ stack_after start fs = shows.sp ∙ sp_is ∙ stack_append fs ss start ∙ stack_stores (stack_after start fs) ss stores in
        let first : StoresBack image t frame is_frame (reverse ss) regs = stores_first base parts.1 in
        let second : PopsBack image t frame is_frame start (reverse fs) first.after = pops_back image t frame is_frame (reverse fs) start first.after (all_reverse IsPushOrAllocation fs frames) top (subst (Leaves image t start) (sym (twice fs)) parts.0)
        (first.sp ∙ sp_at ∙ ap (stack_after start) (sym (twice fs))) in
        record {
          after = second.after;
          is = ap (λ os. run_by frame (word_at image) os regs) (ap (map undo) (reverse-append fs ss) ∙ map_append undo (reverse ss) (reverse fs)) ∙ run_append frame (word_at image) (map undo (reverse ss)) (map undo (reverse fs)) regs first.after first.is ∙ second.is;
          sp = second.sp;
          scratch = λ n h. second.scratch n h ∙ first.scratch n h;
          values = λ r. final (list_any (pushes r) (reverse fs)) (list_any (stores_in r) (reverse ss)) r _
              (second.values r ∙ ap (λ v. cond (list_any (pushes r) (reverse fs)) (value_of r t) v) (first.values r ∙ ap (λ v. cond (list_any (stores_in r) (reverse ss)) (value_of r t) v) (shows.saved r)))
              (λ a b. entered.keeps r (unsaved r (fs ++ ss) 8
              (list_any-append (pushes r) fs ss ∙ ap (λ x. x || list_any (pushes r) ss) (sym (any_reverse (pushes r) fs) ∙ a) ∙ no_push r ss stores)
              (list_any-append (stores_in r) fs ss ∙ ap (λ x. x || list_any (stores_in r) ss) (no_store r fs frames) ∙ (sym (any_reverse (stores_in r) ss) ∙ b))));
        }
      where
        twice : (xs : List Step) → reverse (reverse xs) ≡ xs
        twice xs = reverse-reverse xs

        stores_first : base_in frame regs ≡ stack_after start fs ⊎ (ss ≡ []) → Leaves image t (stack_after start fs) ss → StoresBack image t frame is_frame (reverse ss) regs
        stores_first (inl at) leaves = stores_back image t frame is_frame (reverse ss) (stack_after start fs) regs (all_reverse (IsSlot image t frame is_frame (stack_after start fs)) ss (slots_of image t frame is_frame (stack_after start fs) ss stores leaves)) at
        stores_first (inr nil) leaves = subst (λ l. StoresBack image t frame is_frame (reverse l) regs) (sym nil) (record { after = regs; is = refl; sp = refl; bp = refl; values = λ r. refl; scratch = λ n h. refl })

  -- with a `Set`, after which are stores alone
  module _ (m : ℕ) (small : m ≤ 2 ^ 64) where
    abbrev based_frame : FrameBase
    based_frame = Some (5, m)

    order : map undo (reverse (fs ++ SetFrame m ∷ ss)) ≡ map undo (reverse ss) ++ RestoreSPFromFP ∷ map undo (reverse fs)
    order =
        ap (map undo) (reverse-append fs (SetFrame m ∷ ss) ∙ ap (λ l. l ++ reverse fs) (reverse_onto ss (SetFrame m) []) ∙ append_assoc (reverse ss) (SetFrame m ∷ []) (reverse fs)) ∙
        map_append undo (reverse ss) (SetFrame m ∷ reverse fs)

    set_undone : IsEntered image false (fs ++ SetFrame m ∷ ss) t s → Undone image t based_frame (fs ++ SetFrame m ∷ ss) regs
    set_undone entered =
        let parts = leaves_append image t fs (SetFrame m ∷ ss) start entered.leaves in
        let base : ℕ = stack_after start fs in
        let high : base + m < 2 ^ 64 = parts.1.0 in
        let some : frame_after start (fs ++ SetFrame m ∷ ss) ≡ Some (base + m) = frame_none start fs (SetFrame m ∷ ss) frames in
        let stack : (s.sp ≤ stack_after start (fs ++ SetFrame m ∷ ss)) × (s.rbp ≡ base + m) =
        subst (λ o. MatchOption o (s.sp ≡ stack_after start (fs ++ SetFrame m ∷ ss)) (λ f. (s.sp ≤ stack_after start (fs ++ SetFrame m ∷ ss)) × (s.rbp ≡ f))) some entered.stack in
        let bp_is : regs.general 5 ≡ base + m = shows.saved RBP ∙ stack.1 in
        let based : (regs.general 5 + (2 ^ 64 - m)) % 2 ^ 64 ≡ base = omega arith in
        let first : StoresBack image t based_frame by_rbp (reverse ss) regs =
        stores_back image t based_frame by_rbp (reverse ss) base regs (all_reverse (IsSlot image t based_frame by_rbp base) ss (slots_of image t based_frame by_rbp base ss stores parts.1.1)) based in
        let back : ℕ = (first.after.general 5 + (2 ^ 64 - m)) % 2 ^ 64 in
        let next : Registers = with_stack_pointer back first.after in
        let back_is : back ≡ base = ap (λ v. (v + (2 ^ 64 - m)) % 2 ^ 64) first.bp ∙ based in
        let second : PopsBack image t based_frame by_rbp start (reverse fs) next = pops_back image t based_frame by_rbp (reverse fs) start next (all_reverse IsPushOrAllocation fs frames) top (subst (Leaves image t start) (sym (reverse-reverse fs)) parts.0)
        (back_is ∙ ap (stack_after start) (sym (reverse-reverse fs))) in
        record {
          after = second.after;
          is = ap (λ os. run_by based_frame (word_at image) os regs) order ∙ run_append based_frame (word_at image) (map undo (reverse ss)) (RestoreSPFromFP ∷ map undo (reverse fs)) regs first.after first.is ∙ second.is;
          sp = second.sp;
          scratch = λ n h. second.scratch n h ∙ set_other n 4 back first.after (scratch_not n 4 h refl) ∙ first.scratch n h;
          values = λ r. final (list_any (pushes r) (reverse fs)) (list_any (stores_in r) (reverse ss)) r _
              (second.values r ∙ ap (λ v. cond (list_any (pushes r) (reverse fs)) (value_of r t) v) (set_other (number_of r) 4 back first.after (not_sp r) ∙ first.values r ∙ ap (λ v. cond (list_any (stores_in r) (reverse ss)) (value_of r t) v) (shows.saved r)))
              (λ a b. entered.keeps r (unsaved r (fs ++ SetFrame m ∷ ss) 8
              (list_any-append (pushes r) fs (SetFrame m ∷ ss) ∙ ap (λ x. x || list_any (pushes r) ss) (sym (any_reverse (pushes r) fs) ∙ a) ∙ no_push r ss stores)
              (list_any-append (stores_in r) fs (SetFrame m ∷ ss) ∙ ap (λ x. x || list_any (stores_in r) ss) (no_store r fs frames) ∙ (sym (any_reverse (stores_in r) ss) ∙ b))));
        }

  by_fit : (frame : FrameBase) (set : Option ℕ) → Fits frame set ss → IsEntered image false (fs ++ (set_step set ++ ss)) t s → Undone image t frame (fs ++ (set_step set ++ ss)) regs
  by_fit _ _ plain entered = unset None no_frame (inl base) entered
    where
      base : less (regs.general 4) 0 ≡ stack_after start fs
      base =
          let none : frame_after start (fs ++ ss) ≡ None = frame_none start fs ss frames ∙ frame_stores (stack_after start fs) ss stores in
          let sp_is : s.sp ≡ stack_after start (fs ++ ss) = subst (λ o. MatchOption o (s.sp ≡ stack_after start (fs ++ ss)) (λ f. (s.sp ≤ stack_after start (fs ++ ss)) × (s.rbp ≡ f))) none entered.stack in
          let at : regs.general 4 ≡ stack_after start fs = shows.sp ∙ sp_is ∙ stack_append fs ss start ∙ stack_stores (stack_after start fs) ss stores in
          let falls = stack_falls fs start in
          let high = top in
          omega arith
  by_fit _ _ (early {m} nil) entered = unset (Some (5, m)) by_rbp (inr nil) entered
  by_fit _ _ (based {m} le) entered = set_undone m le entered

-- ---- the first steps of a grouped prologue are grouped
pub record Prefix (frame : FrameBase) (xs : List Step) : Type 0 where
  pub fs : List Step
  pub set : Option ℕ
  pub ss : List Step
  pub is : xs ≡ fs ++ (set_step set ++ ss)
  pub frames : AllByRecursion IsPushOrAllocation fs
  pub stores : AllByRecursion IsStore ss
  pub fits : Fits frame set ss

first_all : (P : Step → Type 0) (xs ys zs : List Step) → xs ++ ys ≡ zs → AllByRecursion P zs → AllByRecursion P xs
first_all P [] ys zs e all = tt
first_all P (x ∷ xs) ys [] e all = absurd cc
first_all P (x ∷ xs) ys (z ∷ zs) e all = let same : x ≡ z = cc in let rest : xs ++ ys ≡ zs = cc in (subst P (sym same) all.0, first_all P xs ys zs rest all.1)

none_yet : (set : Option ℕ) → Prefix (frame_named set) []
none_yet None = record { fs = []; set = None; ss = []; is = refl; frames = tt; stores = tt; fits = plain }
none_yet (Some m) = record { fs = []; set = None; ss = []; is = refl; frames = tt; stores = tt; fits = early refl }

pub prefix_of : (set : Option ℕ) (ss : List Step) → AllByRecursion IsStore ss → MatchOption set (Unit {0}) (λ m. m ≤ 2 ^ 64) → (fs : List Step) → AllByRecursion IsPushOrAllocation fs → (xs ys : List Step) → xs ++ ys ≡ fs ++ (set_step set ++ ss) → Prefix (frame_named set) xs
prefix_of set ss stores small (f ∷ fs) frames [] ys e = none_yet set
prefix_of set ss stores small (f ∷ fs) frames (x ∷ xs) ys e =
    let same : f ≡ x = cc in
    let rest : xs ++ ys ≡ fs ++ (set_step set ++ ss) = cc in
    let ih = prefix_of set ss stores small fs frames.1 xs ys rest in
    record { fs = x ∷ ih.fs; set = ih.set; ss = ih.ss; is = ap (λ l. x ∷ l) ih.is; frames = (subst IsPushOrAllocation same frames.0, ih.frames); stores = ih.stores; fits = ih.fits }
prefix_of None ss stores small [] frames xs ys e = record { fs = []; set = None; ss = xs; is = refl; frames = tt; stores = first_all IsStore xs ys ss e stores; fits = plain }
prefix_of (Some m) ss stores small [] frames [] ys e = none_yet (Some m)
prefix_of (Some m) ss stores small [] frames (x ∷ xs) ys e =
    let same : SetFrame m ≡ x = cc in
    let rest : xs ++ ys ≡ ss = cc in
    subst (λ y. Prefix (Some (5, m)) (y ∷ xs)) same (record { fs = []; set = Some m; ss = xs; is = refl; frames = tt; stores = first_all IsStore xs ys ss rest stores; fits = based small })

pub undone : (image : List Span) (t s : State) (regs : Registers) (frame : FrameBase) (steps : List Step) → IsState t → ShowsRegisters regs s → Prefix frame steps → IsEntered image false steps t s → Undone image t frame steps regs
undone image t s regs frame steps words shows p entered =
    subst (λ l. Undone image t frame l regs) (sym p.is)
    (by_fit image t s regs words shows p.fs p.ss p.frames p.stores frame p.set p.fits (subst (λ l. IsEntered image false l t s) p.is entered))
