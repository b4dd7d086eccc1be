-- The step of a space where its tables say facts, or a signal's frame.
use Rattle.std.proofs.Common.{◌≡◌, ◌≢◌, ℕ, ◌^◌, ◌<◌, Bool, true, false, [], Option, Some, None, Result, Ok, refl, sym, ap, subst, ◌∙◌, arith, eqb, ltb, leb}
use Rattle.std.specs.Prelude.{IsTrue, slice_index}
use Rattle.std.proofs.lemmas.Bool.Decides.{nat_tests}
use Rattle.std.proofs.lemmas.Bool.{ltb-true, leb-true}
use Rattle.memory_image.specs.Image.{IsLaidOut}
use Rattle.memory_image.specs.Results.{result_map}
use Rattle.unwind_definitions.specs.Pointers.{Bases}
use Rattle.unwind_definitions.specs.Row.{argument_size, row_at}
use Rattle.unwind_definitions.specs.LanguageTable.{input_at}
use Rattle.unwind_definitions.specs.Function.{Action, NoAction}
use Rattle.unwind_definitions.specs.LanguageSearch.{address_of_call, personality_address, language_action}
use Rattle.unwind_definitions.specs.Caller.{Columns, StepFault}
use Rattle.unwind_definitions.specs.State.{CalleeSaved, RBX, RBP, R12, R13, R14, R15, State, IsState, Shows, KeepsOthers, column_of, value_of}
use Rattle.unwind_definitions.specs.Module as described
use Rattle.unwind_definitions.specs.Expressions.{evaluation}
use Rattle.unwind_laws.proofs.Booleans as lists
use Rattle.unwind_laws.proofs.RowFacts.{by_register}
use Rattle.frame_facts.specs.Facts.{Facts, StandsWith}
use Rattle.frame_facts.specs.FactTables.{HasTables, AreSaidAt}
use Rattle.frame_facts.specs.FactChains.{address_asked}
use Rattle.frame_facts.specs.FactDeliveries.{AsksAt}
use Rattle.frame_facts.specs.SignalFrames.{SignalFrame, StandsInSignal, IsSignalFrameAt}
use Rattle.frame_facts_laws.specs.FactWalks.{FindsRow, StepsOut, DescriptionAsks}
use Rattle.frame_facts_laws.specs.SignalSteps.{HasGeneralRegisters, StepsToInterrupted}
use Rattle.frame_facts_laws.proofs.FactSteps.{steps_out, steps_to_interrupted}
use Rattle.frame_facts_laws.proofs.FactsAsked.{facts_ask}
use Rattle.unwind_arch.specs.declared.x86_64.Context.{Context}
use Rattle.unwind_arch.specs.ContextViews.{columns_of, context_of}
use Rattle.fde_finders.specs.declared.custom.FrameInfoKind.{FrameInfoKind}
use Rattle.fde_finders.specs.declared.custom.FrameInfoKind.TheVariants.{EhFrame, EhFrameHdr}
use Rattle.fde_finders.specs.Finding.{FoundFde, table_bases, scanned_in}
use Rattle.fde_finders.specs.Named.{found_by_kind}
use Rattle.fde_finders.specs.declared.custom.FrameInfo.{FrameInfo}
use Rattle.stack_steps.specs.declared.error.DeliverError.{DeliverError}
use Rattle.stack_steps.specs.declared.space.Module.{Module}
use Rattle.stack_steps.specs.declared.space.ModuleTables.TheVariants.{Elf}
use Rattle.format_frames.specs.declared.machine.Stepped.{Stepped}
use Rattle.stack_steps.specs.Modules.{SpaceValue, AreApart, module_at}
use Rattle.stack_steps.specs.SpaceViews.{tables_of, elf_module, process_of}
use Rattle.stack_steps.specs.Stepping.{step_of, frame_of, caller_by}
use Rattle.stack_steps.specs.Frames.{FrameAt, Described}
use Rattle.stack_steps.specs.Asking.{action_if_named, described_action}
use Rattle.stack_steps.specs.Elf.{table_if_named}
use Rattle.stack_steps.specs.declared.asking.FrameAction.{FrameAction}
use Rattle.stack_steps.specs.Languages.{Languages, described_asks, found_in}
use Rattle.stack_steps.specs.Undoing.{Undone}
use Rattle.stack_steps.specs.Interrupting.{Interrupted}
use Rattle.stack_steps.proofs.HeaderFinds.{header_finds}
use Rattle.stack_steps.proofs.StepParts.{some_next, stepped_by, step_is}
use Rattle.stack_steps.specs.KnownFrames.{MeetsAsked, MeetsFrame}
use Rattle.stack_steps.proofs.StepUndone.{IsOf, contains_map, module_at-contains, context_of-holds}

-- By the tables that the module of an address names, the description that a scan of its frame table has for the address is found.
module _ (space : SpaceValue) (signal : Bool) (a : ℕ) (apart : AreApart 0 space.modules) (laid : IsLaidOut 0 space.image) (row : FindsRow (process_of space) signal a) where
  abbrev home : described.Module
  home = row.home

  abbrev tables : HasTables space.image home
  tables = row.tables

  abbrev bases : Bases
  bases = described.bases_of home tables.frame

  abbrev found_there : FoundFde
  found_there = record { fde = row.fde; bases = bases; table = input_at space.image tables.frame }

  scans : scanned_in bases (input_at space.image tables.frame) a ≡ Some found_there
  scans = rw row.found refl

  by_kind : (m : Module) (f : FrameInfo) (kind : FrameInfoKind) → elf_module m.start m.end f ≡ home → f.kind ≡ kind → found_by_kind f.text_base kind space.image a ≡ Some found_there
  by_kind m f (EhFrame g) same named =
      let address : described.frame_address space.image (tables_of f.kind) ≡ Some tables.frame = subst (λ (h : described.Module). described.frame_address space.image h.tables ≡ Some tables.frame) (sym same) tables.address in
      let at : described.frame_address space.image (tables_of (EhFrame g)) ≡ Some tables.frame = rw named at address in
      let place : g ≡ tables.frame = cc in
      let header : described.header_of (tables_of f.kind) ≡ None = rw named refl in
      let same_bases : described.bases_of home tables.frame ≡ table_bases f.text_base g =
      subst (λ (h : described.Module). described.bases_of h tables.frame ≡ table_bases f.text_base g) same
      (subst (λ (k : ℕ). described.bases_of (elf_module m.start m.end f) k ≡ table_bases f.text_base g) place (rw header refl)) in
      rw (← same_bases, place) scans
  by_kind m f (EhFrameHdr h) same named =
      let names : home.tables ≡ described.Header h = ap (λ (k : described.Module). k.tables) (sym same) ∙ ap tables_of named in
      let text : f.text_base ≡ home.text = ap (λ (k : described.Module). k.text) same in
      let finds = header_finds space.image home [] tables h names laid a in
      rw text (finds ∙ scans)

  -- the module that holds the address, and what its tables find
  pub record HasFound : Type 0 where
    pub holder : Module
    pub holds : module_at space.modules a ≡ Some holder
    pub frame : FrameInfo
    pub elf : holder.tables ≡ Elf frame
    pub finds : found_by_kind frame.text_base frame.kind space.image a ≡ Some found_there

  pub has_found : HasFound
  has_found =
      let named : IsOf space.modules home = contains_map space.modules home row.known in
      let m : Module = named.named in
      let f : FrameInfo = named.frame in
      let inside : IsTrue (described.in_module a (elf_module m.start m.end f)) = subst (λ (h : described.Module). IsTrue (described.in_module a h)) (sym named.same) row.inside in
      let both = lists.both_true (leb m.start a) (ltb a m.end) inside in
      let found : module_at space.modules a ≡ Some m = module_at-contains 0 space.modules m a apart named.among (leb-true m.start a both.0) (ltb-true a m.end both.1) in
      record { holder = m; holds = found; frame = f; elf = named.elf; finds = by_kind m f f.kind named.same refl }

-- the address asked of a state, by the rule of steps
pub asked_at : (b : Bool) (s : State) → s.ra ≢ 0 → s.ra < 2 ^ 64 → address_of_call s.ra b ≡ address_asked b s
asked_at true s some low = refl
asked_at false s some low = let other : s.ra ≢ 0 = some in omega arith

-- the context that holds columns shows what they show
held_shows : (columns : Columns) (t : State) → Shows columns t → Shows (columns_of (context_of columns)) t
held_shows columns t shows = record { ra = rw shows.ra refl; sp = rw shows.sp refl; saved = λ r. by_register AddedModule (rw (shows.saved RBX) refl) (rw (shows.saved RBP) refl) (rw (shows.saved R12) refl) (rw (shows.saved R13) refl) (rw (shows.saved R14) refl) (rw (shows.saved R15) refl) r }
  where
    AddedModule : CalleeSaved → Type 0
    AddedModule r = columns_of (context_of columns) (column_of r) ≡ Some (value_of r t)

module _ (space : SpaceValue) (c : Context) (interrupted : Bool) (s t : State) (apart : AreApart 0 space.modules) (laid : IsLaidOut 0 space.image)
    (some : s.ra ≢ 0) (asked : address_of_call s.ra interrupted ≡ address_asked interrupted s) (shows : Shows (columns_of c) s) where
  ra_is : c.ra ≡ s.ra
  ra_is = let e : columns_of c 16 ≡ Some s.ra = shows.ra in cc

  -- the description that a step finds
  abbrev found_by : (signal : Bool) → FindsRow (process_of space) signal (address_asked interrupted s) → FoundFde
  found_by signal row = record { fde = row.fde; bases = described.bases_of row.home row.tables.frame; table = input_at space.image row.tables.frame }

  abbrev frame_by : (signal : Bool) → FindsRow (process_of space) signal (address_asked interrupted s) → FrameAt
  frame_by signal row = Described (record { found = found_by signal row; run = row.run })

  -- the frame at the context is by what the tables find for the address asked
  framed_by : (signal : Bool) (row : FindsRow (process_of space) signal (address_asked interrupted s)) → frame_of space c interrupted ≡ Ok (Some (frame_by signal row))
  unfolding frame_of
  framed_by signal row =
      let a : ℕ = address_asked interrupted s in
      let has : HasFound space signal a apart laid row = has_found space signal a apart laid row in
      let elf : has.holder.tables ≡ Elf has.frame = has.elf in
      let at : c.ra ≡ s.ra = ra_is in
      let nonzero : eqb s.ra 0 ≡ false = let other : s.ra ≢ 0 = some in grind (arith, nat_tests) in
      let place : address_of_call s.ra interrupted ≡ address_asked interrupted s = asked in
      let ruled : row_at (described.bases_of row.home row.tables.frame) row.fde (address_asked interrupted s) ≡ Ok row.run = row.has_row in
      let holds : module_at space.modules (address_asked interrupted s) ≡ Some has.holder = has.holds in
      let finds : found_by_kind has.frame.text_base has.frame.kind space.image (address_asked interrupted s) ≡ Some (found_by signal row) = has.finds in
      rw (at, nonzero, place, holds, elf, finds, ruled) refl

  -- the frame at the context, and its caller
  record IsLeft (frame : FrameAt) : Type 0 where
    pub framed : frame_of space c interrupted ≡ Ok (Some frame)
    pub next : Stepped
    pub called : caller_by space.image c frame ≡ Ok next
    pub unmarked : next.signal ≡ false
    pub caller_shows : Shows (columns_of next.context) t
    pub others : KeepsOthers (columns_of c) (columns_of next.context)

  -- What the tables find for the address asked gives both.
  is_left : (step : StepsOut (process_of space) (evaluation space.image) (columns_of c) (address_asked interrupted s) t) → IsLeft (frame_by false step.finds)
  is_left step =
      let kept : columns_of (context_of step.undoes.caller) ≡ step.undoes.caller = λ i k. context_of-holds c step.undoes.caller t step.undoes.shows step.undoes.others k i in
      record {
        framed = framed_by false step.finds;
        next = record { context = context_of step.undoes.caller; signal = false };
        called = rw (step.undoes.is_caller, step.finds.marked) refl;
        unmarked = refl;
        caller_shows = subst (λ (columns : Columns). Shows columns t) (sym kept) step.undoes.shows;
        others = subst (λ (columns : Columns). KeepsOthers (columns_of c) columns) (sym kept) step.undoes.others;
      }

  -- The step where facts are said.
  pub facts_undone : (facts : Facts) → IsState t → AreSaidAt (process_of space) (address_asked interrupted s) facts → StandsWith space.image facts t s → Undone (step_of space c interrupted) (columns_of c) t
  facts_undone facts fits said stands =
      let left = is_left (steps_out (process_of space) (evaluation space.image) (address_asked interrupted s) facts s t (columns_of c) said stands fits shows) in
      record {
        next = left.next;
        answered = step_is space c interrupted ∙ ap (stepped_by space.image c) left.framed ∙ ap some_next left.called;
        unmarked = left.unmarked;
        shows = left.caller_shows;
        others = left.others;
      }

  general : HasGeneralRegisters (columns_of c)
  general k low = (slice_index c.registers k, here)
    where
      here : columns_of c k ≡ Some (slice_index c.registers k)
      here = let fits : ltb k 16 ≡ true = grind (arith, nat_tests) in rw fits refl

  -- The step out of a signal's frame.
  pub signal_left : (frame : SignalFrame) → IsSignalFrameAt (process_of space) (address_asked interrupted s) frame → StandsInSignal space.image frame t s → Interrupted (step_of space c interrupted) t
  signal_left frame said stands =
      let step : StepsToInterrupted (process_of space) (columns_of c) (address_asked interrupted s) t = steps_to_interrupted (process_of space) (address_asked interrupted s) frame s t (columns_of c) said stands shows general in
      let called : caller_by space.image c (frame_by true step.finds) ≡ Ok (record { context = context_of step.gives.caller; signal = true }) = rw (step.gives.is_caller, step.finds.marked) refl in
      record {
        next = record { context = context_of step.gives.caller; signal = true };
        answered = step_is space c interrupted ∙ ap (stepped_by space.image c) (framed_by true step.finds) ∙ ap some_next called;
        marked = refl;
        shows = held_shows step.gives.caller t step.gives.shows;
      }

  -- What the description asks that says the facts is asked of the frame.
  asked_there : (found : FoundFde) (a : ℕ) (routine : Option ℕ) (x : Action) → address_of_call s.ra interrupted ≡ a → personality_address space.image found.fde ≡ Ok routine → (routine ≡ None → x ≡ NoAction) →
      language_action space.image found.bases found.fde a ≡ Ok x → described_action space.image c interrupted found ≡ Ok x
  asked_there found a routine x at named silent asks = ap action named ∙ go routine silent
    where
      action : Result (Option ℕ) StepFault → Result Action DeliverError
      action routine = result_map (action_if_named space.image (address_of_call c.ra interrupted)) (table_if_named space.image found routine)

      go : (o : Option ℕ) → (o ≡ None → x ≡ NoAction) → action (Ok o) ≡ Ok x
      go None silent = rw (silent refl) refl
      go (Some r) silent = let same : c.ra ≡ s.ra = ra_is in rw (same, at, asks) refl

  -- The frame where facts are said, and what is asked of it.
  pub facts_met : (facts : Facts) (fits : IsState t) (said : AreSaidAt (process_of space) (address_asked interrupted s) facts) (stands : StandsWith space.image facts t s) (x : Action) (arguments : ℕ) →
      AsksAt (process_of space) (address_asked interrupted s) facts said x arguments → MeetsFrame space c interrupted x arguments t
  facts_met facts fits said stands x arguments asks =
      let a : ℕ = address_asked interrupted s in
      let step : StepsOut (process_of space) (evaluation space.image) (columns_of c) a t = steps_out (process_of space) (evaluation space.image) a facts s t (columns_of c) said stands fits shows in
      let left : IsLeft (frame_by false step.finds) = is_left step in
      let known : DescriptionAsks (process_of space) a facts said x = facts_ask (process_of space) a facts said x arguments asks in
      record {
        frame = frame_by false step.finds;
        framed = left.framed;
        asks = asked_there (found_by false step.finds) a known.routine x asked known.personality known.silent known.asks;
        size = sym asks.size;
        next = left.next;
        called = left.called;
        unmarked = left.unmarked;
        shows = left.caller_shows;
      }

  -- The same by the rules of languages: what the description that says the facts asks there.
  pub facts_asked : (languages : Languages) (facts : Facts) (fits : IsState t) (said : AreSaidAt (process_of space) (address_asked interrupted s) facts) (stands : StandsWith space.image facts t s) (action : FrameAction) (arguments : ℕ) →
      described_asks languages space.image (address_asked interrupted s) (found_in said) ≡ Ok action → arguments ≡ argument_size said.says.row.0 → MeetsAsked languages space c interrupted action arguments t
  facts_asked languages facts fits said stands action arguments asks size =
      let a : ℕ = address_asked interrupted s in
      let step : StepsOut (process_of space) (evaluation space.image) (columns_of c) a t = steps_out (process_of space) (evaluation space.image) a facts s t (columns_of c) said stands fits shows in
      let left : IsLeft (frame_by false step.finds) = is_left step in
      let at : address_of_call c.ra interrupted ≡ a = ap (λ (ra : ℕ). address_of_call ra interrupted) ra_is ∙ asked in
      record {
        frame = frame_by false step.finds;
        framed = left.framed;
        asks = ap (λ (b : ℕ). described_asks languages space.image b (found_by false step.finds)) at ∙ asks;
        size = sym size;
        next = left.next;
        called = left.called;
        unmarked = left.unmarked;
        shows = left.caller_shows;
      }
