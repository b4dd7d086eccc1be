-- The step in a described PE module undoes a call.
use Rattle.std.proofs.Common.{◌≡◌, ◌≢◌, ℕ, ◌+◌, ◌-◌, ◌<◌, ◌≤◌, Bool, true, false, eqb, ltb, ◌&&◌, ◌||◌, List, [], ◌∷◌, ◌++◌, Option, Some, None, Result, refl, sym, ap, subst, ◌∙◌, arith, inl, inr, length-append}
use Rattle.std.specs.Prelude.{◌⊎◌, not, IsTrue, unwrap_or}
use Rattle.std.specs.Option.{option_map}
use Rattle.std.specs.List.{AllByRecursion, Contains}
use Rattle.std.proofs.lemmas.Bool.{eqb-true, ltb-true}
use Rattle.memory_image.specs.Image.{Span, word_at}
use Rattle.unwind_definitions.specs.Membership.{is_among}
use Rattle.unwind_definitions.specs.Caller.{Columns}
use Rattle.unwind_definitions.specs.State.{CalleeSaved, RBX, RBP, R12, R13, R14, R15, State, IsState, value_of, column_of, Shows, is_followed}
use Rattle.unwind_definitions.specs.Prologue.{Windows, PrologueStep, steps_of, ends_of, Ascend}
use Rattle.unwind_definitions.specs.Entered.{IsEntered}
use Rattle.unwind_definitions.specs.Function.{Function, Range, AreWithin, IsFunction, in_body, last_end, first_body, first_from}
use Rattle.unwind_definitions.specs.Stopped.{IsBelowNext, StandsAfter}
use Rattle.unwind_laws.proofs.Booleans.{all_contains, both_true}
use Rattle.unwind_laws.proofs.Found.{ranges_inside}
use Rattle.pe_unwind_info.specs.declared.x86_64.function_table.RuntimeFunction.{RuntimeFunction}
use Rattle.pe_unwind_info.specs.FunctionTable.{functions_of, lookup_of, Holds}
use Rattle.pe_unwind_info.specs.FrameOf.{frame_end_of}
use Rattle.pe_unwind_info.specs.Machine.{Registers}
use Rattle.pe_unwind_info.proofs.TableLemmas.{holder_is_found, none_is_found}
use Rattle.format_definitions.specs.PeImage.{PeModule, memory_of, table_of}
use Rattle.format_definitions.specs.PeRegisters.{is_kept, column_at, number_at, ShowsRegisters, KeepsScratch, registers_in, columns_with, KeepsScratchColumns}
use Rattle.format_definitions.specs.PeStep.{PeFault, columns_at, stepped_by, pe_step}
use Rattle.format_definitions.specs.PeModules.{IsInNoEpilog, MeetsNot, DescribesRecord, DescribesLeaf, HasRecord, DescribesPe}
use Rattle.format_definitions.specs.PeEpilogs.{concatenation, StandsInEpilog}
use Rattle.format_laws.specs.PeUndone.{FrameUndone, CallUndone}
use Rattle.format_laws.proofs.Tables.{each_from}
use Rattle.format_laws.proofs.PeFrames.{own_part, in_body_undone, in_prologue_undone, leaf_undone}
use Rattle.format_laws.proofs.PeEpilogs.{terminator_length, in_epilog_undone}

-- ---- columns and registers

abbrev column_or_fault : Option ℕ → ℕ
column_or_fault o = unwrap_or o 0

pub shows_registers : (columns : Columns) (s : State) → Shows columns s → ShowsRegisters (registers_in columns) s
shows_registers columns s shows = record { sp = ap column_or_fault shows.sp; saved = saved }
  where
    saved : (r : CalleeSaved) → (registers_in columns).general (Rattle.format_definitions.specs.PeRegisters.number_of r) ≡ value_of r s
    saved RBX = ap column_or_fault (shows.saved RBX)
    saved RBP = ap column_or_fault (shows.saved RBP)
    saved R12 = ap column_or_fault (shows.saved R12)
    saved R13 = ap column_or_fault (shows.saved R13)
    saved R14 = ap column_or_fault (shows.saved R14)
    saved R15 = ap column_or_fault (shows.saved R15)

shows_columns : (columns : Columns) (after : Registers) (s t : State) → Shows columns s → ShowsRegisters after t → Shows (columns_with columns t.ra after) t
shows_columns columns after s t old new = record { ra = refl; sp = ap (option_map (λ (v : ℕ). after.general 4)) old.sp ∙ ap some new.sp; saved = saved }
  where
    some : ℕ → Option ℕ
    some v = Some v

    saved : (r : CalleeSaved) → columns_with columns t.ra after (column_of r) ≡ Some (value_of r t)
    saved RBX = ap (option_map (λ (v : ℕ). after.general 3)) (old.saved RBX) ∙ ap some (new.saved RBX)
    saved RBP = ap (option_map (λ (v : ℕ). after.general 5)) (old.saved RBP) ∙ ap some (new.saved RBP)
    saved R12 = ap (option_map (λ (v : ℕ). after.general 12)) (old.saved R12) ∙ ap some (new.saved R12)
    saved R13 = ap (option_map (λ (v : ℕ). after.general 13)) (old.saved R13) ∙ ap some (new.saved R13)
    saved R14 = ap (option_map (λ (v : ℕ). after.general 14)) (old.saved R14) ∙ ap some (new.saved R14)
    saved R15 = ap (option_map (λ (v : ℕ). after.general 15)) (old.saved R15) ∙ ap some (new.saved R15)

-- a column that is neither a state's nor RSI's or RDI's is that of a scratch register
abbrev is_scratch : ℕ → Bool
is_scratch c = is_followed c || (is_among (4 ∷ 5 ∷ []) c || (not (is_kept (number_at c)) && eqb (column_at (number_at c)) c))

scratch_column : (c : ℕ) → c < 16 → is_followed c ≡ false → is_among (4 ∷ 5 ∷ []) c ≡ false → (is_kept (number_at c) ≡ false) × (column_at (number_at c) ≡ c)
scratch_column c lt not_followed not_other =
    let all : is_scratch c ≡ true = each_from 16 0 is_scratch refl c (omega arith) (omega arith) in
    let left : (not (is_kept (number_at c)) && eqb (column_at (number_at c)) c) ≡ true = last (is_followed c) (is_among (4 ∷ 5 ∷ []) c) _ not_followed not_other all in
    let both = both_true (not (is_kept (number_at c))) (eqb (column_at (number_at c)) c) left in
    (negated (is_kept (number_at c)) both.0, eqb-true (column_at (number_at c)) c both.1)
  where
    last : (a b x : Bool) → a ≡ false → b ≡ false → (a || (b || x)) ≡ true → x ≡ true
    last true b x e f h = absurd cc
    last false true x e f h = absurd cc
    last false false x e f h = h

    negated : (a : Bool) → not a ≡ true → a ≡ false
    negated true e = absurd cc
    negated false e = refl

keeps_columns : (columns : Columns) (ret : ℕ) (after : Registers) → KeepsScratch (registers_in columns) after → KeepsScratchColumns columns (columns_with columns ret after)
keeps_columns columns ret after keeps c not_followed not_other = go (eqb c 16) refl (ltb c 16) refl
  where
    -- a column that there is not stays so
    same : (o : Option ℕ) → (v : ℕ) → v ≡ column_or_fault o → option_map (λ (w : ℕ). v) o ≡ o
    same None v e = refl
    same (Some w) v e = let h : v ≡ w = e in ap (λ (x : ℕ). Some x) h

    go : (a : Bool) → eqb c 16 ≡ a → (b : Bool) → ltb c 16 ≡ b → columns_with columns ret after c ≡ columns c
    go true e b h =
        let is : c ≡ 16 = eqb-true c 16 e in
        let yes : is_followed c ≡ true = ap is_followed is in
        let f : is_followed c ≡ false = not_followed in absurd cc
    go false e false h = rw (e, h) refl
    go false e true h =
        let place = scratch_column c (ltb-true c 16 h) not_followed not_other in
        rw (e, h) (same (columns c) (after.general (number_at c)) (keeps (number_at c) place.0 ∙ ap (λ (k : ℕ). column_or_fault (columns k)) place.1))

-- ---- steps

call_undone : (image : List Span) (m : PeModule) (bytes : List ℕ) (table : List RuntimeFunction) (function : Option RuntimeFunction) (a : ℕ) (columns : Columns) (s t : State) →
    table_of image m ≡ Some bytes → functions_of bytes ≡ Some table → lookup_of (Some table) a ≡ function → Shows columns s →
    FrameUndone (memory_of image m.base) (word_at image) function a (registers_in columns) t → CallUndone (pe_step image m a columns) columns t
call_undone image m bytes table function a columns s t mapped reads found shows u =
    let ends : Option RuntimeFunction → Result Columns PeFault = λ g. columns_at columns (frame_end_of (memory_of image m.base) (word_at image) a g (registers_in columns)) in
    record {
      caller = columns_with columns t.ra u.after;
      answered = ap (stepped_by image m a columns) mapped ∙ ap (λ o. ends (lookup_of o a)) reads ∙ ap ends found ∙ ap (columns_at columns) u.is;
      shows = shows_columns columns u.after s t shows u.shows;
      others = keeps_columns columns t.ra u.after u.scratch;
    }

-- the record of a function holds its addresses
record_holds : (image : List Span) (m : PeModule) (function : RuntimeFunction) (f : Function) (a : ℕ) → DescribesRecord image m function f → f.start ≤ a → a < f.end → Holds function (a - m.base)
record_holds image m function f a d low high = let at = d.start in let end = d.end in (omega arith, omega arith)

-- no record holds an address of a leaf
leaf_apart : (base a : ℕ) (table : List RuntimeFunction) (f : Function) → AllByRecursion (MeetsNot base f) table → base ≤ f.start → f.start ≤ a → a < f.end → (g : RuntimeFunction) → Contains table g → Holds g (a - base) → ⊥
leaf_apart base a table f apart inside low high g has holds = go (all_contains (MeetsNot base f) table g apart has)
  where
    go : MeetsNot base f g → ⊥
    go (inl below) = let h = holds.1 in omega arith
    go (inr above) = let h = holds.0 in omega arith

false_outermost : (image : List Span) (outermost : Bool) (prologue : List PrologueStep) (t s : State) → outermost ≡ false → IsEntered image outermost (steps_of prologue) t s → IsEntered image false (steps_of prologue) t s
false_outermost image outermost prologue t s e entered = subst (λ b. IsEntered image b (steps_of prologue) t s) e entered

-- ---- an address in a prologue lies below the body

pub first_inside : (low high : ℕ) (ranges : List Range) → AreWithin low high ranges → ranges ≢ [] → (low ≤ first_from high ranges) × (first_from high ranges < high)
first_inside low high [] within some = absurd (some refl)
first_inside low high (r ∷ ranges) within some = (within.0, let a = within.1 in let b = within.2 in omega arith)

end_of_later : (low : ℕ) (p : PrologueStep) (later : List PrologueStep) → Ascend low (ends_of (p ∷ later)) → p.end ≤ last_end (p ∷ later)
end_of_later low p [] ascends = omega arith
end_of_later low p (q ∷ later) ascends = let ih = end_of_later p.end q later ascends.1 in let a = ascends.1.0 in omega arith

last_after : (xs : List PrologueStep) (p : PrologueStep) (later : List PrologueStep) → last_end (xs ++ p ∷ later) ≡ last_end (p ∷ later)
last_after [] p later = refl
last_after (x ∷ []) p later = refl
last_after (x ∷ y ∷ xs) p later = last_after (y ∷ xs) p later

ascends_after : (low : ℕ) (xs ys : List PrologueStep) → Ascend low (ends_of (xs ++ ys)) → (l : ℕ) × Ascend l (ends_of ys)
ascends_after low [] ys h = (low, h)
ascends_after low (x ∷ xs) ys h = ascends_after x.end xs ys h.1

pub stands_inside : (image : List Span) (m : PeModule) (function : RuntimeFunction) (f : Function) (d : DescribesRecord image m function f) → IsFunction Windows f → (done later : List PrologueStep) (t s : State) → StandsAfter image f done later t s → (f.start ≤ s.ra) × (s.ra < f.end)
stands_inside image m function f d is done later t s st = (let h = st.after in omega arith, go later st.steps st.below)
  where
    ends : (f.start + last_end f.prologue ≤ first_body f) × (first_body f < f.end)
    ends = first_inside (f.start + last_end f.prologue) f.end f.bodies is.bodies is.has_body

    go : (later : List PrologueStep) → f.prologue ≡ done ++ later → IsBelowNext f s.ra later → s.ra < f.end
    go [] steps below = let h = ends.1 in omega (arith, below)
    go (p ∷ later) steps below =
        let own = own_part f s.ra d.inherited d.own done (p ∷ later) (sym d.prologue ∙ steps) d.inherited_ends (let h = st.after in omega arith) below in
        let ascends = ascends_after 0 own.rest (p ∷ later) (subst (λ l. Ascend 0 (ends_of l)) own.own_is d.own_ends) in
        let last = end_of_later ascends.0 p later ascends.1 in
        let same = ap last_end steps ∙ last_after done p later in
        let low = ends.0 in let high = ends.1 in
        omega (arith, below, same)

-- what a function table finds for an address of a described function
module _ (image : List Span) (m : PeModule) (functions : List Function) (d : DescribesPe image m functions) (f : Function) where
  pub found_by_record : (r : HasRecord image m d.table f) (a : ℕ) → f.start ≤ a → a < f.end → lookup_of (Some d.table) (a - m.base) ≡ Some r.function
  found_by_record r a low high = holder_is_found d.table 0 m.size (a - m.base) r.function d.ordered r.listed (record_holds image m r.function f a r.describes low high)

  pub leaf_not_found : DescribesLeaf m d.table f → (a : ℕ) → f.start ≤ a → a < f.end → lookup_of (Some d.table) (a - m.base) ≡ None
  leaf_not_found leaf a low high = none_is_found d.table 0 m.size (a - m.base) d.ordered (leaf_apart m.base a d.table f leaf.apart leaf.inside.0 low high)

module _ (image : List Span) (m : PeModule) (functions : List Function) (d : DescribesPe image m functions) (f : Function) (is : IsFunction Windows f) (t s : State) (words : IsState t) (columns : Columns) (shows : Shows columns s) where
  pub leaf_call_undone : DescribesLeaf m d.table f → (a : ℕ) → f.start ≤ a → a < f.end → IsEntered image false [] t s → CallUndone (pe_step image m (a - m.base) columns) columns t
  leaf_call_undone leaf a low high entered =
      call_undone image m d.bytes d.table None (a - m.base) columns s t d.mapped d.reads (leaf_not_found image m functions d f leaf a low high) shows
      (leaf_undone image (memory_of image m.base) t s (a - m.base) (registers_in columns) words (shows_registers columns s shows) entered)

  body_call_undone_by : HasRecord image m d.table f ⊎ DescribesLeaf m d.table f → (a : ℕ) → IsTrue (in_body f a) → IsEntered image f.outermost (steps_of f.prologue) t s → CallUndone (pe_step image m (a - m.base) columns) columns t
  body_call_undone_by (inl r) a inside entered =
      let lies = ranges_inside f.bodies (f.start + last_end f.prologue) f.end a is.bodies inside in
      call_undone image m d.bytes d.table (Some r.function) (a - m.base) columns s t d.mapped d.reads (found_by_record image m functions d f r a (omega (arith, lies.0)) lies.1) shows
      (in_body_undone image m r.function f r.describes t s words (registers_in columns) (shows_registers columns s shows) is a inside
      (false_outermost image f.outermost f.prologue t s r.describes.not_outermost entered))
  body_call_undone_by (inr leaf) a inside entered =
      let lies = ranges_inside f.bodies (f.start + last_end f.prologue) f.end a is.bodies inside in
      leaf_call_undone leaf a (omega (arith, lies.0)) lies.1
      (subst (λ p. IsEntered image false (steps_of p) t s) leaf.no_steps (false_outermost image f.outermost f.prologue t s leaf.plain.not_outermost entered))

  -- a state that was entered, at an address of a body
  pub body_call_undone : Contains functions f → (a : ℕ) → IsTrue (in_body f a) → IsEntered image f.outermost (steps_of f.prologue) t s → CallUndone (pe_step image m (a - m.base) columns) columns t
  body_call_undone has a inside entered = body_call_undone_by (all_contains (λ (g : Function). HasRecord image m d.table g ⊎ DescribesLeaf m d.table g) functions f d.each has) a inside entered

  -- a state that stands after some of the steps of a prologue
  pub prologue_call_undone : (r : HasRecord image m d.table f) (done later : List PrologueStep) → StandsAfter image f done later t s → IsInNoEpilog (memory_of image m.base) r.function r.describes.first (s.ra - m.base) →
      CallUndone (pe_step image m (s.ra - m.base) columns) columns t
  prologue_call_undone r done later st quiet =
      let lies = stands_inside image m r.function f r.describes is done later t s st in
      call_undone image m d.bytes d.table (Some r.function) (s.ra - m.base) columns s t d.mapped d.reads (found_by_record image m functions d f r s.ra lies.0 lies.1) shows
      (in_prologue_undone image m r.function f r.describes t s words (registers_in columns) (shows_registers columns s shows) is done later st quiet)

  -- a state that stands in an epilog
  pub epilog_call_undone : (r : HasRecord image m d.table f) → StandsInEpilog image m r.function f r.describes t s → CallUndone (pe_step image m (s.ra - m.base) columns) columns t
  epilog_call_undone r st =
      let some = terminator_length st.terminator st.ends in
      let up = st.up_to_end in
      let long = length-append (concatenation st.codes) (st.terminator ++ st.rest) in
      let long' = length-append st.terminator st.rest in
      let low = st.begins in let here = st.begun in
      let inside : s.ra < f.end = omega arith in
      call_undone image m d.bytes d.table (Some r.function) (s.ra - m.base) columns s t d.mapped d.reads (found_by_record image m functions d f r s.ra (omega arith) inside) shows
      (in_epilog_undone image m r.function f r.describes is t s words (registers_in columns) (shows_registers columns s shows) st)
