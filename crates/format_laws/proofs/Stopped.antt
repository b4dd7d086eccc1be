-- The step from a state that was stopped in a described function of a module of whatever format.
use Rattle.std.proofs.Common.{◌≡◌, ℕ, ◌+◌, ◌-◌, ◌<◌, ◌≤◌, false, List, [], ◌∷◌, ◌++◌, length, map, Option, refl, sym, subst, ◌∙◌, arith, inl, inr, length-append}
use Rattle.std.specs.Prelude.{IsTrue}
use Rattle.memory_image.specs.Image.{Span}
use Rattle.unwind_definitions.specs.Expressions.{evaluation}
use Rattle.unwind_definitions.specs.Caller.{Columns}
use Rattle.unwind_definitions.specs.State.{State, Shows}
use Rattle.unwind_definitions.specs.Prologue.{Register, Push, Allocate, SystemV, Windows, PrologueStep, steps_of}
use Rattle.unwind_definitions.specs.Entered.{IsEntered}
use Rattle.unwind_definitions.specs.Function.{Function, IsFunction, first_body, last_end}
use Rattle.unwind_definitions.specs.Stopped.{IsBelowNext}
use Rattle.unwind_definitions.specs.Chain.{Call}
use Rattle.unwind_laws.proofs.InPrologue as elf
use Rattle.unwind_laws.proofs.Undo.{rises}
use Rattle.unwind_laws.proofs.Walk.{step_inside}
use Rattle.pe_unwind_info.specs.declared.x86_64.function_table.RuntimeFunction.{RuntimeFunction}
use Rattle.pe_unwind_info.specs.declared.x86_64.epilog.FunctionEpilogInstruction.{FunctionEpilogInstruction}
use Rattle.format_definitions.specs.PeImage.{PeModule}
use Rattle.format_definitions.specs.PeModules.{DescribesLeaf, HasRecord}
use Rattle.format_definitions.specs.PeEpilogs.{concatenation, StandsAt, before_add, before_lea, before_pops, StandsInEpilog}
use Rattle.format_definitions.specs.Modules.{FormatModule, Elf, Macho, Pe, in_format, convention_of, part_of, DescribesFormat}
use Rattle.format_definitions.specs.Stops.{StandsInPrologue, StandsInBody, StandsInPe, at_body, at_prologue, at_leaf, at_epilog, StandsIn, IsDescribedStop}
use Rattle.format_laws.specs.Undone.{FormatUndone, CanUndo}
use Rattle.format_laws.proofs.PeEpilogs.{terminator_length}
use Rattle.format_laws.proofs.PeMachine.{stack_falls}
use Rattle.format_laws.proofs.PeSteps.{first_inside, stands_inside, leaf_call_undone, prologue_call_undone, epilog_call_undone}
use Rattle.format_laws.proofs.Steps.{undone_in}
use Rattle.format_laws.proofs.Homes.{body_lies}

-- ---- a leaf has no steps
none_done : (done later : List PrologueStep) → [] ≡ done ++ later → done ≡ []
none_done [] later e = refl
none_done (p ∷ done) later e = absurd cc

none_later : (done later : List PrologueStep) → [] ≡ done ++ later → later ≡ []
none_later [] [] e = refl
none_later [] (p ∷ later) e = absurd cc
none_later (p ∷ done) later e = absurd cc

module _ (image : List Span) (s : State) (c : Call) where
  -- ---- where such a state lies, and its stack pointer

  leaf_lies : IsFunction Windows c.callee → c.callee.prologue ≡ [] → StandsInPrologue image s c → (c.callee.start ≤ s.ra) × (s.ra < c.callee.end)
  leaf_lies is no_steps p =
      let first = first_inside (c.callee.start + last_end c.callee.prologue) c.callee.end c.callee.bodies is.bodies is.has_body in
      let later : p.later ≡ [] = none_later p.done p.later (sym no_steps ∙ p.stands.steps) in
      let below : s.ra < first_body c.callee = subst (IsBelowNext c.callee s.ra) later p.stands.below in
      let high = first.1 in let after = p.stands.after in
      (omega arith, omega arith)

  epilog_lies : (m : PeModule) (table : List RuntimeFunction) (r : HasRecord image m table c.callee) → StandsInEpilog image m r.function c.callee r.describes c.caller s → (c.callee.start ≤ s.ra) × (s.ra < c.callee.end)
  epilog_lies m table r st =
      let some = terminator_length st.terminator st.ends in
      let up = st.up_to_end in
      let long = length-append (concatenation st.codes) (st.terminator ++ st.rest) in
      let long' = length-append st.terminator st.rest in
      let low = st.begins in let here = st.begun in
      (omega arith, omega arith)

  pe_lies : (m : PeModule) (table : List RuntimeFunction) → IsFunction Windows c.callee → StandsInPe image m table s c → (c.callee.start ≤ s.ra) × (s.ra < c.callee.end)
  pe_lies m table is (at_body body) = body_lies Windows c.callee s.ra is body.inside
  pe_lies m table is (at_prologue r quiet p) = stands_inside image m r.function c.callee r.describes is p.done p.later c.caller s p.stands
  pe_lies m table is (at_leaf leaf p) = leaf_lies is leaf.no_steps p
  pe_lies m table is (at_epilog r st) = epilog_lies m table r st

  pub stop_lies : (home : FormatModule) (part : List Function) (d : DescribesFormat image home part) → IsFunction (convention_of home) c.callee → StandsIn image home part d s c → (c.callee.start ≤ s.ra) × (s.ra < c.callee.end)
  stop_lies (Elf m) part d is (inl p) = elf.stands_inside c.callee image p.done p.later c.caller s is p.stands
  stop_lies (Elf m) part d is (inr body) = body_lies SystemV c.callee s.ra is body.inside
  stop_lies (Macho m) part d is body = body_lies SystemV c.callee s.ra is body.inside
  stop_lies (Pe m) part d is at = pe_lies m d.table is at

  epilog_below : (pushed : List Register) (rooms : List ℕ) (set : Option ℕ) (todo : List FunctionEpilogInstruction) (left : List Register) → 8 ≤ c.caller.sp → StandsAt c.caller s pushed rooms set todo left → s.sp < c.caller.sp
  epilog_below pushed rooms set todo left room (before_add total sp) = let falls = stack_falls (map Push pushed ++ map Allocate rooms) (c.caller.sp - 8) in omega arith
  epilog_below pushed rooms set todo left room (before_lea is total sp frame) = let falls = stack_falls (map Push pushed ++ map Allocate rooms) (c.caller.sp - 8) in omega arith
  epilog_below pushed rooms set todo left room (before_pops gone split sp) = let falls = stack_falls (map Push left) (c.caller.sp - 8) in omega arith

  early_below : StandsInPrologue image s c → s.sp < c.caller.sp
  early_below p = rises image false (steps_of p.done) c.caller s p.stands.entered

  body_below : StandsInBody image s c → s.sp < c.caller.sp
  body_below body = rises image c.callee.outermost (steps_of c.callee.prologue) c.caller s body.entered

  pub stop_below : (home : FormatModule) (part : List Function) (d : DescribesFormat image home part) → StandsIn image home part d s c → s.sp < c.caller.sp
  stop_below (Elf m) part d (inl p) = early_below p
  stop_below (Elf m) part d (inr body) = body_below body
  stop_below (Macho m) part d body = body_below body
  stop_below (Pe m) part d (at_body body) = body_below body
  stop_below (Pe m) part d (at_prologue r quiet p) = early_below p
  stop_below (Pe m) part d (at_leaf leaf p) = early_below p
  stop_below (Pe m) part d (at_epilog r st) = epilog_below st.pushed st.rooms r.describes.grouped.set st.todo st.left st.room st.stands

module _ (image : List Span) (modules : List FormatModule) (functions : List Function) (s : State) (c : Call) (stop : IsDescribedStop image modules functions s c)
    (columns : Columns) (shows : Shows columns s) where
  -- ---- by each format

  body_undone : StandsInBody image s c → (home : FormatModule) → IsTrue (in_format c.callee.start home) → IsFunction (convention_of home) c.callee → DescribesFormat image home (part_of home functions) →
      FormatUndone image home columns s.ra c
  body_undone body home within is d = undone_in image modules functions s.ra s c columns can shows home within is d
    where
      can : CanUndo image modules functions s.ra s c
      can = record { listed = stop.listed; lies = stop.lies; inside = body.inside; entered = body.entered; caller = stop.caller; ends = λ outer. let inner = stop.inner in absurd cc }

  leaf_entered : (m : PeModule) (table : List RuntimeFunction) → DescribesLeaf m table c.callee → (p : StandsInPrologue image s c) → IsEntered image false [] c.caller s
  leaf_entered m table leaf p =
      subst (λ (done : List PrologueStep). IsEntered image false (steps_of done) c.caller s) (none_done p.done p.later (sym leaf.no_steps ∙ p.stands.steps)) p.stands.entered

  pub undone_at : (home : FormatModule) → IsTrue (in_format c.callee.start home) → (is : IsFunction (convention_of home) c.callee) → (d : DescribesFormat image home (part_of home functions)) →
      StandsIn image home (part_of home functions) d s c → FormatUndone image home columns s.ra c
  undone_at (Elf m) within is d (inl p) =
      step_inside (record { image = image; modules = m ∷ [] }) (evaluation image) functions p.done p.later s c columns
      (record { is_function = is; inner = stop.inner; listed = stop.listed; lies = record { home = m; known = (0, omega arith, refl); inside = within; describes = d }; stands = p.stands; caller = stop.caller }) shows
  undone_at (Elf m) within is d (inr body) = body_undone body (Elf m) within is d
  undone_at (Macho m) within is d body = body_undone body (Macho m) within is d
  undone_at (Pe m) within is d (at_body body) = body_undone body (Pe m) within is d
  undone_at (Pe m) within is d (at_prologue r quiet p) = prologue_call_undone image m (part_of (Pe m) functions) d c.callee is c.caller s stop.caller columns shows r p.done p.later p.stands quiet
  undone_at (Pe m) within is d (at_leaf leaf p) =
      let lies = leaf_lies image s c is leaf.no_steps p in
      leaf_call_undone image m (part_of (Pe m) functions) d c.callee is c.caller s stop.caller columns shows leaf s.ra lies.0 lies.1 (leaf_entered m d.table leaf p)
  undone_at (Pe m) within is d (at_epilog r st) = epilog_call_undone image m (part_of (Pe m) functions) d c.callee is c.caller s stop.caller columns shows r st
