-- Why a walk over a described chain ends at its outermost state.
use Rattle.std.proofs.Common.{inl, inr, ◌≡◌, ◌≢◌, ℕ, zero, suc, ◌-◌, ◌<◌, true, false, List, [], ◌∷◌, length, Option, Some, None, Result, Ok, Err, ◌^◌, refl, sym, ◌∙◌, subst, arith, eqb}
use Rattle.std.specs.Prelude.{◌⊎◌}
use Rattle.std.specs.List.{AllByRecursion}
use Rattle.std.proofs.lemmas.Bool.Decides.{nat_tests}
use Rattle.memory_image.specs.Image.{IsLaidOut}
use Rattle.unwind_definitions.specs.State.{State, Shows}
use Rattle.unwind_definitions.specs.Scan.{fdes_of}
use Rattle.unwind_definitions.specs.LanguageTable.{input_at}
use Rattle.unwind_definitions.specs.LanguageSearch.{address_of_call}
use Rattle.unwind_definitions.specs.Function.{Function}
use Rattle.unwind_definitions.specs.Chain.{Call, IsEnd, IsChain, last_state}
use Rattle.unwind_definitions.specs.Module as described
use Rattle.unwind_laws.proofs.Found.{none_first}
use Rattle.format_definitions.specs.Modules.{IsUncoveredIn, IsUncoveredBy, LiesDescribed}
use Rattle.format_definitions.specs.Stops.{IsDescribedStop}
use Rattle.unwind_arch.specs.declared.x86_64.Context.{Context}
use Rattle.unwind_arch.specs.ContextViews.{columns_of}
use Rattle.eh_frame.specs.Search.{NoneContains}
use Rattle.fde_finders.specs.declared.custom.FrameInfo.{FrameInfo}
use Rattle.fde_finders.specs.declared.custom.FrameInfoKind.{FrameInfoKind}
use Rattle.fde_finders.specs.declared.custom.FrameInfoKind.TheVariants.{EhFrame, EhFrameHdr}
use Rattle.fde_finders.specs.Finding.{table_bases}
use Rattle.format_frames.specs.declared.machine.Stepped.{Stepped}
use Rattle.stack_steps.specs.declared.error.DeliverError.{DeliverError}
use Rattle.stack_steps.specs.declared.error.DeliverError.TheVariants.{FrameLimit}
use Rattle.stack_steps.specs.declared.space.Module.{Module}
use Rattle.stack_steps.specs.declared.space.ModuleTables.{ModuleTables}
use Rattle.stack_steps.specs.declared.space.ModuleTables.TheVariants.{Elf, Macho, Pe}
use Rattle.stack_steps.specs.Modules.{SpaceValue, AreApart, module_at}
use Rattle.stack_steps.specs.SpaceViews.{tables_of, elf_module, format_by, formats_of}
use Rattle.stack_steps.specs.Stepping.{step_of}
use Rattle.stack_steps.specs.Stopped.{StartsStopped}
use Rattle.stack_steps.specs.Undoing.{UndoneIn}
use Rattle.stack_steps.proofs.MetCalls.{format_undone, format_stopped}
use Rattle.stack_walks.specs.Lines.{line_of}
use Rattle.stack_walks.specs.Walking.{StartsChain}
use Rattle.stack_walks.specs.WalkEnds.{reached_by, caller_from, start_state, IsUndescribed, IsUnknownIn, IsUnknown, EndsFor, ComesTo, front_uncovered, end_reason_of_chain}
use Rattle.stack_walks.proofs.LineShows.{in_no_entry, none_listed, uncovered_there, step_ends, call_in}
use Rattle.stack_walks.proofs.ChainWalked.{chain_walked}
use Rattle.stack_walks.proofs.StoppedWalk.{stopped_walked}
use Rattle.stack_walks.proofs.EndAnswers.{comes}

-- the outermost state ends the chain
chain_end : (space : SpaceValue) (functions : List Function) (s : State) (calls : List Call) → IsChain space.image (IsUncoveredBy space.image (formats_of space)) functions s calls →
    IsEnd space.image (IsUncoveredBy space.image (formats_of space)) functions (last_state s calls)
chain_end space functions s [] chain = chain
chain_end space functions s (k ∷ calls) chain = chain_end space functions k.caller calls chain.1

-- a line isn't refused
pub not_refused : (r : Result (List Context) DeliverError) (cs : List Context) → r ≡ Ok cs → r ≢ Err FrameLimit
not_refused (Ok ds) cs is = λ h. cc
not_refused (Err e) cs is = λ h. cc

module _ (space : SpaceValue) (apart : AreApart 0 space.modules) (laid : IsLaidOut 0 space.image) where
  -- ---- an address that nothing covers

  undescribed : (a : ℕ) (m : Module) (t : FrameInfo) → described.CoversNot space.image (elf_module m.start m.end t) a → (kind : FrameInfoKind) → t.kind ≡ kind → IsUndescribed space.image t.text_base kind a (front_uncovered (Some m) a)
  undescribed a m t u (EhFrameHdr h) named = (refl, in_no_entry space laid a m t u (EhFrameHdr h) named)
  undescribed a m t u (EhFrame f) named =
      let address : described.frame_address space.image (described.Frames f) ≡ Some u.frame =
      subst (λ (k : FrameInfoKind). described.frame_address space.image (tables_of k) ≡ Some u.frame) named u.address in
      let place : f ≡ u.frame = cc in
      let header : described.header_of (tables_of t.kind) ≡ None = rw named refl in
      let same : table_bases t.text_base f ≡ described.bases_of (elf_module m.start m.end t) f = rw header refl in
      let there : NoneContains (described.bases_of (elf_module m.start m.end t) u.frame) (input_at space.image u.frame) a 0 = record { entries = u.entries; are = u.reads; none = none_first (fdes_of u.entries) a u.uncovered } in
      (refl, rw same (subst (λ (g : ℕ). NoneContains (described.bases_of (elf_module m.start m.end t) g) (input_at space.image g) a 0) (sym place) there))

  pub unknown : (a : ℕ) → IsUncoveredBy space.image (formats_of space) a → (o : Option Module) → module_at space.modules a ≡ o → IsUnknown space.image o a (front_uncovered o a)
  unknown a free None found = refl
  unknown a free (Some m) found = by_tables m.tables (uncovered_there space apart a free m found)
    where
      by_tables : (tables : ModuleTables) → IsUncoveredIn space.image (format_by m tables) a → IsUnknownIn space.image m tables a (front_uncovered (Some m) a)
      by_tables (Elf t) u = undescribed a m t u t.kind refl
      by_tables (Macho t) u = (refl, none_listed space a m t u)
      by_tables (Pe t) u = absurd u

  -- ---- the outermost state

  -- why a walk goes no further than a context that shows it
  last_ends : (functions : List Function) (c : Context) (s : State) → Shows (columns_of c) s → IsEnd space.image (IsUncoveredBy space.image (formats_of space)) functions s → EndsFor (end_reason_of_chain space.modules s) space c false
  last_ends functions c s shows end = go end.ends
    where
      returns : c.ra ≡ s.ra
      returns = let e : columns_of c 16 ≡ Some s.ra = shows.ra in cc

      by_holder : c.ra ≢ 0 → (a : ℕ) → address_of_call c.ra false ≡ a → IsUncoveredBy space.image (formats_of space) a → (o : Option Module) → module_at space.modules a ≡ o → EndsFor (front_uncovered o a) space c false
      by_holder some a asked free None found = (some, step_ends space apart laid functions c s shows end, rw (asked, found) (unknown a free None found))
      by_holder some a asked free (Some m) found = (some, step_ends space apart laid functions c s shows end, rw (asked, found) (unknown a free (Some m) found))

      go : (s.ra ≡ 0) ⊎ ((s.ra ≢ 0) × IsUncoveredBy space.image (formats_of space) (s.ra - 1)) → EndsFor (end_reason_of_chain space.modules s) space c false
      go (inl none) = rw none (returns ∙ none)
      go (inr u) =
          let at : c.ra ≡ s.ra = returns in
          let returned : s.ra ≢ 0 = u.0 in
          let nonzero : eqb s.ra 0 ≡ false = grind (arith, nat_tests) in
          let some : c.ra ≢ 0 = λ none. u.0 (sym at ∙ none) in
          let low : s.ra < 2 ^ 64 = end.state.ra in
          let asked : address_of_call c.ra false ≡ s.ra - 1 = omega arith in
          rw nonzero (by_holder some (s.ra - 1) asked u.1 (module_at space.modules (s.ra - 1)) refl)

  -- The last state that is reached from the start of a chain, where there is room for it, is the outermost, after a call.
  last_shown : (functions : List Function) (s : State) (calls : List Call) (t : Stepped) (room : ℕ) →
      IsChain space.image (IsUncoveredBy space.image (formats_of space)) functions s calls → AllByRecursion (λ (k : Call). LiesDescribed space.image (formats_of space) functions k.callee) calls → Shows (columns_of t.context) s → t.signal ≡ false → length calls < room →
      Shows (columns_of (reached_by (caller_from space) room t).state.context) (last_state s calls) × ((reached_by (caller_from space) room t).state.signal ≡ false)
  unfolding call_in
  last_shown functions s [] t zero chain lie shows unmarked less = absurd (omega arith)
  last_shown functions s [] t (suc room) chain lie shows unmarked less =
      let ends : step_of space t.context t.signal ≡ Ok None = rw unmarked (step_ends space apart laid functions t.context s shows chain) in
      rw ends (shows, unmarked)
  last_shown functions s (k ∷ calls) t zero chain lie shows unmarked less = absurd (omega arith)
  last_shown functions s (k ∷ calls) t (suc room) chain lie shows unmarked less =
      let step : UndoneIn lie.0.home (step_of space t.context false) (columns_of t.context) k.caller = format_undone space t.context functions s k apart laid (call_in space functions s k calls chain lie.0) shows chain.0.state.ra in
      let goes : step_of space t.context t.signal ≡ Ok (Some step.next) = rw unmarked step.answered in
      let fewer : length calls < room = omega arith in
      rw goes (last_shown functions k.caller calls step.next room chain.1 lie.1 step.shows step.unmarked fewer)

  -- ---- why the walk ends

  pub chain_comes : (c : Context) (limit : ℕ) (functions : List Function) (s : State) (calls : List Call) → StartsChain space c limit functions s calls → ComesTo (end_reason_of_chain space.modules (last_state s calls)) space limit c false
  chain_comes c limit functions s calls is =
      let line = chain_walked space c limit functions s calls apart laid is in
      let last = last_shown functions s calls (start_state c false) limit is.described.chain is.described.described is.shows refl is.shorter in
      comes (end_reason_of_chain space.modules (last_state s calls)) space limit (start_state c false) (not_refused (line_of space limit c false) line.0 line.1)
      (rw last.1 (last_ends functions (reached_by (caller_from space) limit (start_state c false)).state.context (last_state s calls) last.0 (chain_end space functions s calls is.described.chain)))

  pub stop_comes : (c : Context) (limit : ℕ) (functions : List Function) (s : State) (call : Call) (calls : List Call) → StartsStopped space c limit functions s call calls → ComesTo (end_reason_of_chain space.modules (last_state call.caller calls)) space limit c true
  stop_comes c zero functions s call calls is = let short = is.shorter in absurd (omega arith)
  stop_comes c (suc room) functions s call calls is =
      let short = is.shorter in
      let fewer : length calls < room = omega arith in
      let line = stopped_walked space functions s call calls c apart laid (suc room) is in
      let stop : IsDescribedStop space.image (formats_of space) functions s call = is.stopped in
      let step : UndoneIn stop.lies.home (step_of space c true) (columns_of c) call.caller = format_stopped space c functions s call apart laid stop is.shows in
      let last = last_shown functions call.caller calls step.next room is.described.chain is.described.described step.shows step.unmarked fewer in
      comes (end_reason_of_chain space.modules (last_state call.caller calls)) space (suc room) (start_state c true) (not_refused (line_of space (suc room) c true) line.0 line.1)
      (rw (step.answered, last.1) (last_ends functions (reached_by (caller_from space) room step.next).state.context (last_state call.caller calls) last.0 (chain_end space functions call.caller calls is.described.chain)))
