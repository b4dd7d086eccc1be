-- The frame of a described PE function undoes its call: in a body, in its prologue, and of a leaf.
use Rattle.std.proofs.Common.{◌≡◌, ℕ, ◌+◌, ◌-◌, ◌%◌, ◌^◌, ◌<◌, ◌≤◌, Bool, true, false, List, [], ◌∷◌, ◌++◌, map, length, take, Option, Some, None, Result, Ok, Err, refl, sym, ap, subst, ◌∙◌, arith, inl, inr, append_assoc}
use Rattle.std.specs.Prelude.{reverse, MatchOption, IsTrue}
use Rattle.std.specs.List.{AllByRecursion}
use Rattle.std.proofs.lemmas.Bool.{lt-ltb, le-ltb}
use Rattle.std.proofs.lemmas.List.{reverse-append}
use Rattle.std.proofs.lemmas.Grind.{reverse_onto}
use Rattle.memory_image.specs.Image.{Span, word_at}
use Rattle.unwind_definitions.specs.State.{CalleeSaved, State, IsState, value_of}
use Rattle.unwind_definitions.specs.Prologue.{Windows, PrologueStep, steps_of, ends_of, Ascend}
use Rattle.unwind_definitions.specs.Entered.{IsEntered}
use Rattle.unwind_definitions.specs.Function.{Function, last_end, IsFunction, in_body}
use Rattle.unwind_definitions.specs.Stopped.{IsBelowNext, StandsAfter}
use Rattle.unwind_laws.proofs.Found.{ranges_inside}
use Rattle.pe_unwind_info.specs.declared.x86_64.fault.FrameFault.{FrameFault}
use Rattle.pe_unwind_info.specs.declared.x86_64.function_table.RuntimeFunction.{RuntimeFunction}
use Rattle.pe_unwind_info.specs.declared.x86_64.epilog.FunctionEpilogInstruction.{FunctionEpilogInstruction}
use Rattle.pe_unwind_info.specs.declared.x86_64.operations.UnwindOperation.{UnwindOperation}
use Rattle.pe_unwind_info.specs.declared.x86_64.registers.Register.{Register}
use Rattle.pe_unwind_info.specs.Chain.{headed_operations, operations_of_all, operations_at, run_headed}
use Rattle.pe_unwind_info.specs.Epilog.{Sequence, sequence_of}
use Rattle.pe_unwind_info.specs.EpilogList.{leading_epilogs, after_epilogs, is_due}
use Rattle.pe_unwind_info.specs.Frame.{operations_alone, from_place, epilog_or_none, epilog_in}
use Rattle.pe_unwind_info.specs.FrameOf.{Image, epilog_if_tested}
use Rattle.pe_unwind_info.specs.Header.{frame_register_of}
use Rattle.pe_unwind_info.specs.Info.{Info}
use Rattle.pe_unwind_info.specs.InfoOperations.{operations_in}
use Rattle.pe_unwind_info.specs.Machine.{Registers, Stack, with_stack_pointer, plus, After, Goes, then_goes, then_ends, Returned, pop_return}
use Rattle.pe_unwind_info.specs.Operations.{Placed}
use Rattle.pe_unwind_info.proofs.ChainLemmas.{run_of_both, frame_is_run}
use Rattle.pe_unwind_info.proofs.EpilogSequences.{sequence_is}
use Rattle.format_definitions.specs.PeImage.{PeModule, memory_of}
use Rattle.format_definitions.specs.PeRegisters.{number_of, ShowsRegisters, KeepsScratch}
use Rattle.format_definitions.specs.PeUndoing.{undo, undo_at_end, set_step, IsFrameOffset, Names}
use Rattle.format_definitions.specs.PeModules.{all_operations, BeginsWithNoEpilog, IsInNoEpilog, DescribesRecord}
use Rattle.format_laws.specs.PeUndone.{FrameUndone}
use Rattle.format_laws.proofs.PeMachine.{set_other, not_sp, scratch_not, FrameBase, frame_named, run_by, run_both, goes_same, headed_run, return_read}
use Rattle.format_laws.proofs.PeUndone.{Undone, undone, Prefix, prefix_of, all_reverse}

-- ---- all records as one run

all_run : (set : Option ℕ) (stack : Stack) (infos : List Info) (regs : Registers) → AllByRecursion (λ (info : Info). Names set info.header) infos → run_headed stack (operations_of_all infos) regs ≡ run_by (frame_named set) stack (all_operations infos) regs
unfolding run_headed
all_run set stack [] regs names = refl
all_run set stack (info ∷ infos) regs names =
    let own : List UnwindOperation = operations_alone (operations_in info) in
    run_of_both stack (headed_operations info own) (operations_of_all infos) regs
    ∙ ap (λ (x : After). then_goes x (run_headed stack (operations_of_all infos))) (headed_run set info stack own regs names.0)
    ∙ goes_same (run_by (frame_named set) stack own regs) (run_headed stack (operations_of_all infos)) (run_by (frame_named set) stack (all_operations infos)) (λ after. all_run set stack infos after names.1)
    ∙ sym (run_both (frame_named set) stack own (all_operations infos) regs)

chain_run : (set : Option ℕ) (stack : Stack) (offset : ℕ) (first : Info) (chained : List Info) (regs : Registers) → AllByRecursion (λ (info : Info). Names set info.header) (first ∷ chained) →
    run_headed stack (operations_at offset first chained) regs ≡ run_by (frame_named set) stack (operations_alone (from_place offset (after_epilogs (operations_in first))) ++ all_operations chained) regs
chain_run set stack offset first chained regs names =
    let own : List UnwindOperation = operations_alone (from_place offset (after_epilogs (operations_in first))) in
    run_of_both stack (headed_operations first own) (operations_of_all chained) regs
    ∙ ap (λ (x : After). then_goes x (run_headed stack (operations_of_all chained))) (headed_run set first stack own regs names.0)
    ∙ goes_same (run_by (frame_named set) stack own regs) (run_headed stack (operations_of_all chained)) (run_by (frame_named set) stack (all_operations chained)) (λ after. all_run set stack chained after names.1)
    ∙ sym (run_both (frame_named set) stack own (all_operations chained) regs)

-- ---- where there is no epilog

no_epilog_in : (frame : Option Register) (bytes : List ℕ) (r : Sequence) → sequence_of frame bytes ≡ r → ((is : List FunctionEpilogInstruction) → sequence_of frame bytes ≡ Ok is → ⊥) → epilog_or_none (sequence_of frame bytes) ≡ None
no_epilog_in frame bytes (Ok is) e none = absurd (none is e)
no_epilog_in frame bytes (Err f) e none = ap epilog_or_none e

begins_with_none : (memory : Image) (frame : Option Register) (end a : ℕ) → BeginsWithNoEpilog memory frame end a → epilog_in frame end a (memory a) ≡ Ok None
begins_with_none memory frame end a b =
    let code : List ℕ = take (end - a) b.bytes in
    let sequence = sequence_is frame code in
    let some : Option (List FunctionEpilogInstruction) → Result (Option (List FunctionEpilogInstruction)) FrameFault = λ o. Ok o in
    ap (epilog_in frame end a) b.mapped
    ∙ rw (le-ltb end a b.before, le-ltb (length b.bytes) (end - a) b.fits)
    (ap some (no_epilog_in frame code (sequence_of frame code) refl (λ is e. let epilog = (sequence.epilog is).0 e in b.none is epilog.0 epilog.1)))

pub not_tested : (memory : Image) (function : RuntimeFunction) (first : Info) (a : ℕ) → IsInNoEpilog memory function first a →
    epilog_if_tested (is_due function.end_address a (leading_epilogs (operations_in first))) memory (frame_register_of first.header) function.end_address a ≡ Ok None
not_tested memory function first a (inl not_due) = ap (λ due. epilog_if_tested due memory (frame_register_of first.header) function.end_address a) not_due
not_tested memory function first a (inr none) = go (is_due function.end_address a (leading_epilogs (operations_in first)))
  where
    go : (due : Bool) → epilog_if_tested due memory (frame_register_of first.header) function.end_address a ≡ Ok None
    go true = begins_with_none memory (frame_register_of first.header) function.end_address a none
    go false = refl

-- ---- the operations from an offset on

pub map_append : {A B : Type 0} (f : A → B) (xs ys : List A) → map f (xs ++ ys) ≡ map f xs ++ map f ys
map_append f [] ys = refl
map_append f (x ∷ xs) ys = ap (λ l. f x ∷ l) (map_append f xs ys)

pub map_reverse : {A B : Type 0} (f : A → B) (xs : List A) → map f (reverse xs) ≡ reverse (map f xs)
map_reverse f [] = refl
map_reverse f (x ∷ xs) = ap (map f) (reverse_onto xs x []) ∙ map_append f (reverse xs) (x ∷ []) ∙ ap (λ l. l ++ f x ∷ []) (map_reverse f xs) ∙ sym (reverse_onto (map f xs) (f x) [])

-- those after the offset are passed, up to the first that isn't
pass_over : (o : ℕ) (xs : List PrologueStep) (ys : List Placed) → AllByRecursion (λ (p : PrologueStep). o < p.end) xs → from_place o (map undo_at_end xs ++ ys) ≡ from_place o ys
unfolding from_place
pass_over o [] ys all = refl
pass_over o (x ∷ xs) ys all = rw (lt-ltb o x.end all.0) (pass_over o xs ys all.1)

stop_at : (o : ℕ) (xs : List PrologueStep) → AllByRecursion (λ (p : PrologueStep). p.end ≤ o) xs → from_place o (map undo_at_end xs) ≡ map undo_at_end xs
unfolding from_place
stop_at o [] all = refl
stop_at o (x ∷ xs) all = rw (le-ltb o x.end all.0) refl

from_done : (o : ℕ) (done later : List PrologueStep) → AllByRecursion (λ (p : PrologueStep). p.end ≤ o) done → AllByRecursion (λ (p : PrologueStep). o < p.end) later →
    from_place o (map undo_at_end (reverse (done ++ later))) ≡ map undo_at_end (reverse done)
from_done o done later low high =
    ap (from_place o) (ap (map undo_at_end) (reverse-append done later) ∙ map_append undo_at_end (reverse later) (reverse done))
    ∙ pass_over o (reverse later) (map undo_at_end (reverse done)) (all_reverse (λ (p : PrologueStep). o < p.end) later high)
    ∙ stop_at o (reverse done) (all_reverse (λ (p : PrologueStep). p.end ≤ o) done low)

operations_are : (xs : List PrologueStep) → operations_alone (map undo_at_end xs) ≡ map undo (steps_of xs)
operations_are [] = refl
operations_are (x ∷ xs) = ap (λ l. undo x.step ∷ l) (operations_are xs)

-- ---- the return address
module _ (image : List Span) (t : State) (words : IsState t) (room : 8 ≤ t.sp) (returns : word_at image (t.sp - 8) ≡ Some t.ra) (regs : Registers) (sp : regs.general 4 ≡ t.sp - 8) where
  abbrev pub last_registers : Registers
  last_registers = with_stack_pointer (plus (regs.general 4) 8) regs

  pub popped_is : pop_return (word_at image) regs ≡ Returned t.ra last_registers
  popped_is = return_read (word_at image) regs t.ra (ap (word_at image) sp ∙ returns)

  last_sp : last_registers.general 4 ≡ t.sp
  last_sp = let h = words.sp in let e : (regs.general 4 + 8) % 2 ^ 64 ≡ t.sp = omega arith in e

  pub last_shows : ((r : CalleeSaved) → regs.general (number_of r) ≡ value_of r t) → ShowsRegisters last_registers t
  last_shows values = record { sp = last_sp; saved = λ r. set_other (number_of r) 4 (plus (regs.general 4) 8) regs (not_sp r) ∙ values r }

  pub last_scratch : KeepsScratch regs last_registers
  last_scratch n h = set_other n 4 (plus (regs.general 4) 8) regs (scratch_not n 4 h refl)

-- ---- ends

abbrev step_end : PrologueStep → ℕ
step_end p = p.end

rest_ascends : (low : ℕ) (xs ys : List PrologueStep) → Ascend low (ends_of (xs ++ ys)) → (l : ℕ) × (low ≤ l) × Ascend l (ends_of ys)
rest_ascends low [] ys h = (low, omega arith, h)
rest_ascends low (x ∷ xs) ys h = let ih = rest_ascends x.end xs ys h.1 in let a = h.0 in let b = ih.1 in (ih.0, omega arith, ih.2)

all_above : (low : ℕ) (xs : List PrologueStep) → Ascend low (ends_of xs) → AllByRecursion (λ (p : PrologueStep). low < p.end) xs
all_above low [] h = tt
all_above low (x ∷ xs) h = (h.0, weaken low x.end xs (all_above x.end xs h.1) h.0)
  where
    weaken : (low mid : ℕ) (xs : List PrologueStep) → AllByRecursion (λ (p : PrologueStep). mid < p.end) xs → low < mid → AllByRecursion (λ (p : PrologueStep). low < p.end) xs
    weaken low mid [] h lt = tt
    weaken low mid (x ∷ xs) h lt = let a = h.0 in (omega arith, weaken low mid xs h.1 lt)

above : (o low : ℕ) (xs : List PrologueStep) → o ≤ low → AllByRecursion (λ (p : PrologueStep). low < p.end) xs → AllByRecursion (λ (p : PrologueStep). o < p.end) xs
above o low [] le h = tt
above o low (x ∷ xs) le h = let a = h.0 in (omega arith, above o low xs le h.1)

-- the last end bounds those that ascend
last_of : (xs : List PrologueStep) (x : PrologueStep) (ys : List PrologueStep) → last_end (xs ++ x ∷ ys) ≡ last_end (x ∷ ys)
last_of [] x ys = refl
last_of (w ∷ []) x ys = refl
last_of (w ∷ v ∷ xs) x ys = last_of (v ∷ xs) x ys

up_to_last : (low : ℕ) (xs : List PrologueStep) → Ascend low (ends_of xs) → (o : ℕ) → last_end xs ≤ o → AllByRecursion (λ (p : PrologueStep). p.end ≤ o) xs
up_to_last low [] h o le = tt
up_to_last low (x ∷ []) h o le = (le, tt)
up_to_last low (x ∷ y ∷ xs) h o le = let ih = up_to_last x.end (y ∷ xs) h.1 o le in let a = h.1.0 in let b = ih.0 in (omega arith, ih)

done_low : (inherited done : List PrologueStep) (low o : ℕ) → Ascend low (ends_of done) → last_end (inherited ++ done) ≤ o → AllByRecursion (λ (p : PrologueStep). p.end ≤ o) done
done_low inherited [] low o h le = tt
done_low inherited (x ∷ xs) low o h le = up_to_last low (x ∷ xs) h o (subst (λ n. n ≤ o) (last_of inherited x xs) le)

first_ascends : (low : ℕ) (xs ys : List PrologueStep) → Ascend low (ends_of (xs ++ ys)) → Ascend low (ends_of xs)
first_ascends low [] ys h = tt
first_ascends low (x ∷ xs) ys h = (h.0, first_ascends x.end xs ys h.1)

append_nil : {A : Type 0} (xs : List A) → xs ++ [] ≡ xs
append_nil [] = refl
append_nil (x ∷ xs) = ap (λ ys. x ∷ ys) (append_nil xs)

-- a state after steps of a prologue stands after all those that chained records tell of
pub record Own (inherited own done later : List PrologueStep) : Type 0 where
  pub rest : List PrologueStep
  pub done_is : done ≡ inherited ++ rest
  pub own_is : own ≡ rest ++ later

pub own_part : (f : Function) (a : ℕ) (inherited own done later : List PrologueStep) → inherited ++ own ≡ done ++ later → AllByRecursion (λ (p : PrologueStep). p.end ≡ 0) inherited → f.start ≤ a → IsBelowNext f a later → Own inherited own done later
own_part f a [] own done later e none le below = record { rest = done; done_is = refl; own_is = e }
own_part f a (x ∷ xs) own [] [] e none le below = absurd cc
own_part f a (x ∷ xs) own [] (y ∷ later) e none le below = let same : x ≡ y = cc in let end = ap step_end same in let zero_end = none.0 in absurd (omega arith)
own_part f a (x ∷ xs) own (y ∷ done) later e none le below =
    let same : x ≡ y = cc in
    let rest : xs ++ own ≡ done ++ later = cc in
    let ih = own_part f a xs own done later rest none.1 le below in
    record { rest = ih.rest; done_is = ap (λ (z : PrologueStep). z ∷ done) (sym same) ∙ ap (λ l. x ∷ l) ih.done_is; own_is = ih.own_is }

-- ---- the frame
module _ (image : List Span) (m : PeModule) (function : RuntimeFunction) (f : Function) (d : DescribesRecord image m function f) (t s : State) (words : IsState t) (regs : Registers) (shows : ShowsRegisters regs s) where
  -- after some of the steps
  unwound : (a : ℕ) → IsInNoEpilog (memory_of image m.base) function d.first a → (done later : List PrologueStep) → d.own ≡ done ++ later →
      AllByRecursion (λ (p : PrologueStep). p.end ≤ a - function.begin_address) done → AllByRecursion (λ (p : PrologueStep). a - function.begin_address < p.end) later →
      IsEntered image false (steps_of (d.inherited ++ done)) t s → FrameUndone (memory_of image m.base) (word_at image) (Some function) a regs t
  unwound a quiet done later own low high entered =
      let frame : FrameBase = frame_named d.grouped.set in
      let stack : Stack = word_at image in
      let memory : Image = memory_of image m.base in
      let offset : ℕ = a - function.begin_address in
      let all : steps_of (d.inherited ++ done) ++ steps_of later ≡ d.grouped.frame ++ (set_step d.grouped.set ++ d.grouped.stores) =
      (sym (map_append (λ (p : PrologueStep). p.step) (d.inherited ++ done) later) ∙ ap steps_of (append_assoc d.inherited done later ∙ ap (λ l. d.inherited ++ l) (sym own) ∙ sym d.prologue) ∙ d.grouped.is) in
      let p : Prefix frame (steps_of (d.inherited ++ done)) = prefix_of d.grouped.set d.grouped.stores d.grouped.are_stores (small d.grouped.set d.frame_offset) d.grouped.frame d.grouped.frames (steps_of (d.inherited ++ done)) (steps_of later) all in
      let u : Undone image t frame (steps_of (d.inherited ++ done)) regs = undone image t s regs frame (steps_of (d.inherited ++ done)) words shows p entered in
      let order : map undo (reverse (steps_of (d.inherited ++ done))) ≡ map undo (reverse (steps_of done)) ++ map undo (reverse (steps_of d.inherited)) =
      (ap (λ l. map undo (reverse l)) (map_append (λ (p : PrologueStep). p.step) d.inherited done) ∙ ap (map undo) (reverse-append (steps_of d.inherited) (steps_of done)) ∙ map_append undo (reverse (steps_of done)) (reverse (steps_of d.inherited))) in
      let own_is : operations_alone (from_place offset (after_epilogs (operations_in d.first))) ≡ map undo (reverse (steps_of done)) =
      (ap (λ l. operations_alone (from_place offset l)) (d.undoes_own ∙ ap (λ l. map undo_at_end (reverse l)) own) ∙ ap operations_alone (from_done offset done later low high) ∙ operations_are (reverse done) ∙ ap (map undo) (map_reverse (λ (p : PrologueStep). p.step) done)) in
      let ran : run_headed stack (operations_at offset d.first d.chained) regs ≡ Goes u.after =
      (chain_run d.grouped.set stack offset d.first d.chained regs d.names
      ∙ ap (λ l. run_by frame stack (l ++ all_operations d.chained) regs) own_is
      ∙ ap (λ l. run_by frame stack (map undo (reverse (steps_of done)) ++ l) regs) d.undoes_inherited
      ∙ ap (λ l. run_by frame stack l regs) (sym order)
      ∙ u.is) in
      record {
        after = last_registers image t words entered.room (entered.returns refl) u.after u.sp;
        is = frame_is_run memory stack a function regs d.first d.chained d.reads d.chain (not_tested memory function d.first a quiet)
            ∙ ap (λ (x : After). then_ends x (pop_return stack)) ran
            ∙ popped_is image t words entered.room (entered.returns refl) u.after u.sp;
        shows = last_shows image t words entered.room (entered.returns refl) u.after u.sp u.values;
        scratch = λ n h. last_scratch image t words entered.room (entered.returns refl) u.after u.sp n h ∙ u.scratch n h;
      }
    where
      small : (set : Option ℕ) → IsFrameOffset set → MatchOption set (Unit {0}) (λ n. n ≤ 2 ^ 64)
      small None h = tt
      small (Some n) h = let le = h.1 in omega arith

  module _ (is : IsFunction Windows f) where
    -- from an address of a body, after the whole prologue
    pub in_body_undone : (pc : ℕ) → IsTrue (in_body f pc) → IsEntered image false (steps_of f.prologue) t s → FrameUndone (memory_of image m.base) (word_at image) (Some function) (pc - m.base) regs t
    in_body_undone pc inside entered =
        let lies = ranges_inside f.bodies (f.start + last_end f.prologue) f.end pc is.bodies inside in
        let at = d.start in
        let le0 : last_end f.prologue ≤ pc - m.base - function.begin_address = omega (arith, lies.0) in
        let le : last_end (d.inherited ++ d.own) ≤ pc - m.base - function.begin_address = subst (λ p. last_end p ≤ pc - m.base - function.begin_address) d.prologue le0 in
        unwound (pc - m.base) (d.bodies pc inside) d.own [] (sym (append_nil d.own)) (done_low d.inherited d.own 0 _ d.own_ends le) tt
        (subst (λ p. IsEntered image false (steps_of p) t s) d.prologue entered)

    -- from inside the prologue, after some of its steps
    pub in_prologue_undone : (done later : List PrologueStep) → StandsAfter image f done later t s → IsInNoEpilog (memory_of image m.base) function d.first (s.ra - m.base) →
        FrameUndone (memory_of image m.base) (word_at image) (Some function) (s.ra - m.base) regs t
    in_prologue_undone done later st quiet =
        let at = d.start in
        let from = st.after in
        let o : Own d.inherited d.own done later = own_part f s.ra d.inherited d.own done later (sym d.prologue ∙ st.steps) d.inherited_ends (omega arith) st.below in
        let ascends : Ascend 0 (ends_of (o.rest ++ later)) = subst (λ l. Ascend 0 (ends_of l)) o.own_is d.own_ends in
        let from' : f.start + last_end (d.inherited ++ o.rest) ≤ s.ra = subst (λ l. f.start + last_end l ≤ s.ra) o.done_is from in
        let le : last_end (d.inherited ++ o.rest) ≤ s.ra - m.base - function.begin_address = omega arith in
        let same : s.ra - f.start ≡ s.ra - m.base - function.begin_address = omega arith in
        unwound (s.ra - m.base) quiet o.rest later o.own_is (done_low d.inherited o.rest 0 _ (first_ascends 0 o.rest later ascends) le) (high later st.below same (rest_ascends 0 o.rest later ascends))
        (subst (λ l. IsEntered image false (steps_of l) t s) o.done_is st.entered)
      where
        high : (later : List PrologueStep) → IsBelowNext f s.ra later → s.ra - f.start ≡ s.ra - m.base - function.begin_address → (l : ℕ) × (0 ≤ l) × Ascend l (ends_of later) → AllByRecursion (λ (p : PrologueStep). s.ra - m.base - function.begin_address < p.end) later
        high [] below same h = tt
        high (x ∷ xs) below same h =
            let after = st.after in
            let lt : s.ra - m.base - function.begin_address < x.end = omega (arith, below) in
            (lt, above _ x.end xs (omega arith) (all_above x.end xs h.2.1))

-- a leaf
pub leaf_undone : (image : List Span) (memory : Image) (t s : State) (a : ℕ) (regs : Registers) → IsState t → ShowsRegisters regs s → IsEntered image false [] t s → FrameUndone memory (word_at image) None a regs t
leaf_undone image memory t s a regs words shows entered =
    let sp : regs.general 4 ≡ t.sp - 8 = shows.sp ∙ entered.stack in
    record {
      after = last_registers image t words entered.room (entered.returns refl) regs sp;
      is = popped_is image t words entered.room (entered.returns refl) regs sp;
      shows = last_shows image t words entered.room (entered.returns refl) regs sp (λ r. shows.saved r ∙ entered.keeps r refl);
      scratch = last_scratch image t words entered.room (entered.returns refl) regs sp;
    }
