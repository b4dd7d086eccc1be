-- The frame of a called function of an ELF module, what it asks, and its caller. `MachoFrames` and `PeFrames` have the same of theirs.
use Rattle.std.proofs.Common.{◌≡◌, ◌≢◌, ℕ, ◌-◌, ◌^◌, ◌<◌, Bool, false, List, Option, Some, None, Result, Ok, refl, sym, ap, subst, ◌∙◌, arith, eqb, ltb, leb}
use Rattle.std.specs.Prelude.{IsTrue}
use Rattle.std.specs.List.{Contains}
use Rattle.std.proofs.lemmas.Bool.Decides.{nat_tests}
use Rattle.std.proofs.lemmas.Bool.{ltb-true, leb-true}
use Rattle.memory_image.specs.Image.{Span, IsLaidOut}
use Rattle.memory_image.specs.Results.{result_map}
use Rattle.unwind_definitions.specs.Pointers.{Bases}
use Rattle.unwind_definitions.specs.Row.{row_at}
use Rattle.unwind_definitions.specs.LanguageTable.{input_at}
use Rattle.unwind_definitions.specs.LanguageSearch.{address_of_call}
use Rattle.unwind_definitions.specs.Caller.{Columns, StepFault}
use Rattle.unwind_definitions.specs.State.{State, IsState, Shows, KeepsOthers}
use Rattle.unwind_definitions.specs.Prologue.{SystemV}
use Rattle.unwind_definitions.specs.Function.{Action, Function, IsFunction, action_at}
use Rattle.unwind_definitions.specs.Chain.{Call, IsCalled}
use Rattle.unwind_definitions.specs.Module as described
use Rattle.unwind_definitions.specs.Valid.{LiesInElf}
use Rattle.unwind_laws.specs.Found.{AsksAs}
use Rattle.unwind_laws.specs.Walked.{Steps}
use Rattle.unwind_laws.proofs.Asked.{asks_as, ends_below}
use Rattle.unwind_laws.proofs.Found.{body_inside}
use Rattle.unwind_laws.proofs.Walk.{one_step}
use Rattle.unwind_laws.proofs.Booleans as lists
use Rattle.unwind_arch.specs.declared.x86_64.Context.{Context}
use Rattle.unwind_arch.specs.ContextViews.{columns_of, context_of}
use Rattle.fde_finders.specs.declared.custom.FrameInfoKind.{FrameInfoKind}
use Rattle.fde_finders.specs.declared.custom.FrameInfoKind.TheVariants.{EhFrame, EhFrameHdr}
use Rattle.unwind_definitions.specs.Expressions.{evaluation}
use Rattle.fde_finders.specs.Finding.{FoundFde, table_bases, scanned_in}
use Rattle.fde_finders.specs.Named.{found_by_kind}
use Rattle.fde_finders.specs.declared.custom.FrameInfo.{FrameInfo}
use Rattle.stack_steps.specs.declared.error.DeliverError.{DeliverError}
use Rattle.stack_steps.specs.declared.space.Module.{Module}
use Rattle.stack_steps.specs.declared.space.ModuleTables.TheVariants.{Elf}
use Rattle.format_frames.specs.declared.machine.Stepped.{Stepped}
use Rattle.stack_steps.specs.Modules.{SpaceValue, AreApart, module_at}
use Rattle.stack_steps.specs.SpaceViews.{tables_of, elf_module, process_of}
use Rattle.stack_steps.specs.Stepping.{step_of, frame_of, caller_by}
use Rattle.stack_steps.specs.Frames.{FrameAt, Described}
use Rattle.stack_steps.specs.Undoing.{Undone}
use Rattle.stack_steps.specs.Asking.{action_if_named, described_action}
use Rattle.stack_steps.specs.Elf.{table_if_named}
use Rattle.stack_steps.proofs.FoundFrames.{Met}
use Rattle.stack_steps.proofs.HeaderFinds.{header_finds}
use Rattle.stack_steps.proofs.StepParts.{some_next, stepped_by, step_is}
use Rattle.stack_steps.proofs.StepUndone.{IsOf, contains_map, module_at-contains, context_of-holds}

-- A call of a function that one of the ELF modules of a process describes.
pub record IsElfCall (p : described.Process) (functions : List Function) (s : State) (c : Call) : Type 0 where
  pub is_function : IsFunction SystemV c.callee
  pub listed : Contains functions c.callee
  pub lies : LiesInElf p functions c.callee
  pub called : IsCalled p.image s c
  pub caller : IsState c.caller
  pub ends : IsTrue c.callee.outermost → c.caller.ra ≡ 0

-- such a frame, where the caller's context keeps every column that no state has
record MetKeeping (space : SpaceValue) (c : Context) (s : State) (call : Call) : Type 0 where
  met : Met space c s call
  others : KeepsOthers (columns_of c) (columns_of met.next.context)

-- what is asked, where a description asks what its function does
pub asked_as : (image : List Span) (c : Context) (interrupted : Bool) (found : FoundFde) (f : Function) (a : ℕ) → AsksAs image found.bases f found.fde → address_of_call c.ra interrupted ≡ a → described_action image c interrupted found ≡ Ok (action_at f a)
asked_as image c interrupted found f a asks at = ap asked asks.personality ∙ go asks.routine asks.silent
  where
    asked : Result (Option ℕ) StepFault → Result Action DeliverError
    asked routine = result_map (action_if_named image (address_of_call c.ra interrupted)) (table_if_named image found routine)

    go : (o : Option ℕ) → (o ≡ None → f.sites ≡ None) → asked (Ok o) ≡ Ok (action_at f a)
    go None silent = let none : f.sites ≡ None = silent refl in rw none refl
    go (Some routine) silent = rw (at, asks.action a) refl

module _ (space : SpaceValue) (c : Context) (functions : List Function) (s : State) (call : Call) (apart : AreApart 0 space.modules) (laid : IsLaidOut 0 space.image)
    (is : IsElfCall (process_of space) functions s call) (shows : Shows (columns_of c) s) where
  abbrev step : Steps (process_of space) (evaluation space.image) (columns_of c) (s.ra - 1) call
  step = one_step (process_of space) (evaluation space.image) functions (s.ra - 1) s call (columns_of c)
      record { is_function = is.is_function; listed = is.listed; lies = is.lies; inside = is.called.inside; entered = is.called.entered; caller = is.caller; ends = is.ends } shows

  ra_is : c.ra ≡ s.ra
  ra_is = let e : columns_of c 16 ≡ Some s.ra = shows.ra in cc

  abbrev next : Stepped
  next = record { context = context_of step.undoes.caller; signal = false }

  abbrev bases : Bases
  bases = described.bases_of step.finds.home step.finds.frame

  abbrev found_there : FoundFde
  found_there = record { fde = step.finds.fde; bases = bases; table = input_at space.image step.finds.frame }

  abbrev frame_at : FrameAt
  frame_at = Described (record { found = found_there; run = step.finds.run })

  -- the return address is a word, for its function ends below 2 ^ 64
  small : s.ra < 2 ^ 64
  small =
      let lies = body_inside call.callee (s.ra - 1) is.is_function is.called.inside in
      let below = ends_below (described.bases_of step.finds.home step.finds.frame) step.finds.fde step.finds.read in
      let end = step.finds.describes.code.end in
      omega (arith, lies.1)

  asked_at : address_of_call c.ra false ≡ s.ra - 1
  asked_at = let some : s.ra ≢ 0 = is.called.returns in let low = small in let same = ra_is in omega arith

  -- the module finds the description by the tables that it names
  found_with : (m : Module) (t : FrameInfo) → m.tables ≡ Elf t → found_by_kind t.text_base t.kind space.image (s.ra - 1) ≡ Some found_there → module_at space.modules (s.ra - 1) ≡ Some m → MetKeeping space c s call
  unfolding frame_of
  found_with m t elf finds found =
      let nonzero : eqb c.ra 0 ≡ false = let some : s.ra ≢ 0 = is.called.returns in let at : c.ra ≡ s.ra = ra_is in grind (arith, nat_tests) in
      let row : row_at bases step.finds.fde (s.ra - 1) ≡ Ok step.finds.run = step.finds.has_row in
      let framed : frame_of space c false ≡ Ok (Some frame_at) = rw (nonzero, asked_at, found, elf, finds, row) refl in
      let called : caller_by space.image c frame_at ≡ Ok next = rw (step.undoes.is_caller, step.finds.no_signal) refl in
      let kept : columns_of (context_of step.undoes.caller) ≡ step.undoes.caller = λ i k. context_of-holds c step.undoes.caller call.caller step.undoes.shows step.undoes.others k i in
      let asks : AsksAs space.image bases call.callee step.finds.fde = asks_as space.image bases call.callee step.finds.fde is.is_function step.finds.read step.finds.describes in
      record {
        met = record {
          frame = frame_at;
          framed = framed;
          asks = asked_as space.image c false found_there call.callee (s.ra - 1) asks asked_at;
          no_arguments = step.finds.no_arguments;
          next = next;
          called = called;
          unmarked = refl;
          shows = subst (λ (columns : Columns). Shows columns call.caller) (sym kept) step.undoes.shows;
          whole = refl;
          address = small;
        };
        others = subst (λ (columns : Columns). KeepsOthers (columns_of c) columns) (sym kept) step.undoes.others;
      }

  -- a scan of the frame table finds it
  scans : scanned_in bases (input_at space.image step.finds.frame) (s.ra - 1) ≡ Some found_there
  scans = rw step.finds.found refl

  -- so does the module's frame table, or the header that lists what the frame table has
  by_kind : (m : Module) (t : FrameInfo) (kind : FrameInfoKind) → elf_module m.start m.end t ≡ step.finds.home → t.kind ≡ kind → found_by_kind t.text_base kind space.image (s.ra - 1) ≡ Some found_there
  by_kind m t (EhFrame f) same named =
      let address : described.frame_address space.image (tables_of t.kind) ≡ Some step.finds.frame = subst (λ (h : described.Module). described.frame_address space.image h.tables ≡ Some step.finds.frame) (sym same) step.finds.address in
      let at : described.frame_address space.image (tables_of (EhFrame f)) ≡ Some step.finds.frame = rw named at address in
      let place : f ≡ step.finds.frame = cc in
      let header : described.header_of (tables_of t.kind) ≡ None = rw named refl in
      let same_bases : described.bases_of step.finds.home step.finds.frame ≡ table_bases t.text_base f =
      subst (λ (h : described.Module). described.bases_of h step.finds.frame ≡ table_bases t.text_base f) same
      (subst (λ (g : ℕ). described.bases_of (elf_module m.start m.end t) g ≡ table_bases t.text_base f) place (rw header refl)) in
      rw (← same_bases, place) scans
  by_kind m t (EhFrameHdr h) same named =
      let names : step.finds.home.tables ≡ described.Header h = ap (λ (k : described.Module). k.tables) (sym same) ∙ ap tables_of named in
      let text : t.text_base ≡ step.finds.home.text = ap (λ (k : described.Module). k.text) same in
      let finds = header_finds space.image step.finds.home step.finds.part step.finds.home_describes h names laid (s.ra - 1) in
      rw text (rw step.finds.framed at finds ∙ scans)

  met_keeping : MetKeeping space c s call
  met_keeping =
      let named : IsOf space.modules step.finds.home = contains_map space.modules step.finds.home step.finds.known in
      let m : Module = named.named in
      let t : FrameInfo = named.frame in
      let inside : IsTrue (described.in_module (s.ra - 1) (elf_module m.start m.end t)) = subst (λ (h : described.Module). IsTrue (described.in_module (s.ra - 1) h)) (sym named.same) step.finds.inside in
      let both = lists.both_true (leb m.start (s.ra - 1)) (ltb (s.ra - 1) m.end) inside in
      let found : module_at space.modules (s.ra - 1) ≡ Some m = module_at-contains 0 space.modules m (s.ra - 1) apart named.among (leb-true m.start (s.ra - 1) both.0) (ltb-true (s.ra - 1) m.end both.1) in
      found_with m t named.elf (by_kind m t t.kind named.same refl) found

  pub met : Met space c s call
  met = met_keeping.met

  -- The step undoes the call.
  pub step_undone : Undone (step_of space c false) (columns_of c) call.caller
  step_undone = record {
    next = met_keeping.met.next;
    answered = step_is space c false ∙ ap (stepped_by space.image c) met_keeping.met.framed ∙ ap some_next met_keeping.met.called;
    unmarked = met_keeping.met.unmarked;
    shows = met_keeping.met.shows;
    others = met_keeping.others;
  }
