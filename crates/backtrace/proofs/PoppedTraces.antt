-- What a trace keeps of popped registers, and that it keeps none where its stack isn't cut at its start.
use Rattle.std.proofs.Common.{◌≡◌, ℕ, zero, suc, Bool, true, false, List, [], ◌∷◌, Option, Some, None, Result, Ok, Err, refl, sym, ap, subst, ◌∙◌}
use Rattle.std.specs.Prelude.{map}
use Rattle.memory_image.specs.Image.{IsLaidOut}
use Rattle.unwind_definitions.specs.State.{State}
use Rattle.unwind_arch.specs.declared.x86_64.Context.{Context}
use Rattle.format_frames.specs.declared.machine.Stepped.{Stepped}
use Rattle.stack_steps.specs.declared.error.DeliverError.{DeliverError}
use Rattle.stack_steps.specs.declared.error.DeliverError.TheVariants.{NoMemory, FrameLimit, Unmapped, PassLimit, NoResume, Table, MachO, CompactForm, PeInfo, ChainLimit}
use Rattle.stack_steps.specs.Modules.{SpaceValue, AreApart}
use Rattle.stack_steps.specs.Stepping.{frame_of, step_of}
use Rattle.stack_walks.specs.declared.walk_end.EndReason.{EndReason}
use Rattle.stack_walks.specs.KnownWalks.{end_reason_of_stack}
use Rattle.stack_walks.specs.Lines.{line_of}
use Rattle.stack_walks.specs.WalkEnds.{ComesTo, contexts_to_end, start_state}
use Rattle.stack_walks.proofs.EndAnswers.{line_whole}
use Rattle.stack_walks.proofs.KnownLines.{known_comes, known_walked}
use Rattle.popped_registers.specs.PoppedRegisters.{are_some, is_popped, popped_at, popped_in, popped_where}
use Rattle.popped_registers.proofs.KeptLemmas.{kept_laid_out, unkept, whole_popped}
use Rattle.stack_deliver.specs.StateViews.{state_of}
use Rattle.stack_deliver.proofs.Chains.{shown_states}
use Rattle.stack_snapshot.specs.Content.{Content, space_of}
use Rattle.backtrace.specs.Code.{CodeValue, PlacesValue}
use Rattle.backtrace.specs.declared.options.Options.{Options}
use Rattle.backtrace.specs.Tracing.{TraceValue, IsCutAtStart, IsFrontOf, IsPlainFrom, IsTraceFrom, called_from, keeps_popped, start_space}
use Rattle.backtrace.specs.Lines.{backtrace_text, form_with, states_text}
use Rattle.backtrace.specs.Due.{IsPlainTraceOf, IsTraceOf, text_of}
use Rattle.backtrace.specs.PoppedStacks.{BeginsPoppedStack, PopsAtStart, kept_of, popped_stack_text, popped_text}
use Rattle.backtrace.proofs.Somewhere.{unended_somewhere}

-- a list is empty where a test that each longer one passes fails
none_of : {A : Type 0} (some : List A → Bool) → ((p : A) (ps : List A) → some (p ∷ ps) ≡ true) → (ps : List A) → some ps ≡ false → ps ≡ []
none_of some each [] is = refl
none_of some each (p ∷ ps) is = let bad : true ≡ false = sym (each p ps) ∙ is in absurd cc

module _ (space : SpaceValue) where
  -- ---- where none were popped

  -- the memory stays
  same_space : (limit : ℕ) (c : Context) (interrupted : Bool) → keeps_popped space limit c interrupted ≡ false → start_space space limit c interrupted ≡ space
  same_space limit c false is = refl
  same_space limit c true is = unkept space limit c (none_of are_some (λ p ps. refl) (popped_in space limit c) is)

  -- so the walk is that over the memory as it is
  pub plain_front : (limit : ℕ) (c : Context) (interrupted : Bool) (t : TraceValue) → keeps_popped space limit c interrupted ≡ false → IsFrontOf space limit c interrupted false t →
      IsFrontOf (start_space space limit c interrupted) limit c interrupted (keeps_popped space limit c interrupted) t
  plain_front limit c interrupted t none is =
      subst (λ (marked : Bool). IsFrontOf (start_space space limit c interrupted) limit c interrupted marked t) (sym none)
      (subst (λ (s : SpaceValue). IsFrontOf s limit c interrupted false t) (sym (same_space limit c interrupted none)) is)

  front_plain : (limit : ℕ) (c : Context) (interrupted : Bool) (t : TraceValue) → keeps_popped space limit c interrupted ≡ false →
      IsFrontOf (start_space space limit c interrupted) limit c interrupted (keeps_popped space limit c interrupted) t → IsFrontOf space limit c interrupted false t
  front_plain limit c interrupted t none is =
      subst (λ (s : SpaceValue). IsFrontOf s limit c interrupted false t) (same_space limit c interrupted none)
      (subst (λ (marked : Bool). IsFrontOf (start_space space limit c interrupted) limit c interrupted marked t) none is)

  -- of a stack that is walked whole
  pub whole_unmarked : (limit : ℕ) (c : Context) (interrupted : Bool) (states : List Context) → line_of space limit c interrupted ≡ Ok states → keeps_popped space limit c interrupted ≡ false
  whole_unmarked limit c false states whole = refl
  whole_unmarked limit c true states whole = ap are_some (whole_popped space limit c states whole)

  -- ---- where some were

  cut_by : (c : Context) (r : Result (Option Stepped) DeliverError) → are_some (popped_where r (popped_at space.image c (frame_of space c true))) ≡ true → (a : ℕ) × (r ≡ Err (Unmapped a))
  cut_by c (Ok next) is = absurd cc
  cut_by c (Err (Unmapped a)) is = (a, refl)
  cut_by c (Err NoMemory) is = absurd cc
  cut_by c (Err FrameLimit) is = absurd cc
  cut_by c (Err PassLimit) is = absurd cc
  cut_by c (Err (NoResume pad)) is = absurd cc
  cut_by c (Err (Table f)) is = absurd cc
  cut_by c (Err (MachO f)) is = absurd cc
  cut_by c (Err CompactForm) is = absurd cc
  cut_by c (Err PeInfo) is = absurd cc
  cut_by c (Err ChainLimit) is = absurd cc

  -- the step from the start meets what isn't mapped
  pub popped_cut : (limit : ℕ) (c : Context) → is_popped space limit c ≡ true → (a : ℕ) × (step_of space c true ≡ Err (Unmapped a))
  unfolding popped_in
  popped_cut zero c is = absurd cc
  popped_cut (suc room) c is = cut_by c (step_of space c true) is

  pub marked_cut : (limit : ℕ) (c : Context) (interrupted : Bool) → keeps_popped space limit c interrupted ≡ true → IsCutAtStart space c interrupted
  marked_cut limit c false is = absurd cc
  marked_cut limit c true is = let cut = popped_cut limit c is in record { interrupted_there = refl; address = cut.0; refused = cut.1 }

  -- so the start isn't nowhere
  popped_somewhere : (limit : ℕ) (c : Context) (code : List CodeValue) → is_popped space limit c ≡ true → called_from space code c true ≡ None
  popped_somewhere limit c code is =
      let cut = popped_cut limit c is in
      unended_somewhere space code c (λ ends. let bad : ◌≡◌ {A = Result (Option Stepped) DeliverError} (Err (Unmapped cut.0)) (Ok None) = sym cut.1 ∙ ends in cc)

  -- ---- traces

  pub trace_plain : (o : Option Context) (c : Context) (interrupted : Bool) (limit : ℕ) (t : TraceValue) → IsTraceFrom o space c interrupted limit t → t.popped ≡ false → IsPlainFrom o space c interrupted limit t
  trace_plain None c interrupted limit t is none = (is.0, front_plain limit c interrupted t (sym is.1.marked ∙ none) is.1)
  trace_plain (Some caller) c interrupted limit t is none = is

  pub plain_trace : (o : Option Context) (c : Context) (interrupted : Bool) (limit : ℕ) (t : TraceValue) → keeps_popped space limit c interrupted ≡ false → IsPlainFrom o space c interrupted limit t → IsTraceFrom o space c interrupted limit t
  plain_trace None c interrupted limit t none is = (is.0, plain_front limit c interrupted t none is.1)
  plain_trace (Some caller) c interrupted limit t none is = is

  pub trace_cut : (o : Option Context) (c : Context) (interrupted : Bool) (limit : ℕ) (t : TraceValue) → IsTraceFrom o space c interrupted limit t → t.popped ≡ true → IsCutAtStart space c interrupted
  trace_cut None c interrupted limit t is some = marked_cut limit c interrupted (sym is.1.marked ∙ some)
  trace_cut (Some caller) c interrupted limit t is some = let bad : ◌≡◌ {A = Bool} true false = sym some ∙ is.1.marked in absurd cc

  pub whole_trace : (o : Option Context) (c : Context) (interrupted : Bool) (limit : ℕ) (t : TraceValue) (states : List Context) → IsTraceFrom o space c interrupted limit t → line_of space limit c interrupted ≡ Ok states → t.popped ≡ false
  whole_trace None c interrupted limit t states is whole = is.1.marked ∙ whole_unmarked limit c interrupted states whole
  whole_trace (Some caller) c interrupted limit t states is whole = is.1.marked

-- ---- over the memory that keeps them

module _ (s : Content) (o : Options) (places : PlacesValue) where
  -- The lines of a trace that keeps none are written where none were popped.
  pub plain_traced : (t : TraceValue) → keeps_popped (space_of s) s.limit s.start s.interrupted ≡ false → IsPlainTraceOf s places t → IsTraceOf s places t
  plain_traced t none is = plain_trace (space_of s) (called_from (space_of s) places.code s.start s.interrupted) s.start s.interrupted s.limit t none is

  abbrev kept_trace : EndReason → TraceValue
  kept_trace why = record { first = None; states = contexts_to_end (kept_of s) s.limit s.start true; why = why; popped = true }

  pub popped_traced : (why : EndReason) → PopsAtStart s → ComesTo why (kept_of s) s.limit s.start true → (t : TraceValue) × IsTraceOf s places t × (text_of o s places t ≡ popped_text o s places why)
  unfolding backtrace_text
  popped_traced why pops comes =
      let stops : s.interrupted ≡ true = pops.stops in
      let some : is_popped (space_of s) s.limit s.start ≡ true = pops.some in
      let none = popped_somewhere (space_of s) s.limit s.start places.code some in
      (kept_trace why, rw (stops, none) (refl, record { states = refl; why = comes; marked = sym some }), refl)

  -- So are those of a stack that is known over that memory.
  pub popped_stack_traced : AreApart 0 (space_of s).modules → IsLaidOut 0 (space_of s).image → (start : State) (callers : List State) (is : BeginsPoppedStack s start callers) →
      (t : TraceValue) × IsTraceOf s places t × (text_of o s places t ≡ popped_stack_text o s places start callers is)
  popped_stack_traced apart laid start callers is =
      let laid_there : IsLaidOut 0 (kept_of s).image = kept_laid_out (space_of s) s.limit s.start laid in
      let w = known_walked (kept_of s) apart laid_there s.start s.limit true start callers is.starts in
      let all : contexts_to_end (kept_of s) s.limit s.start true ≡ w.0 = line_whole (kept_of s) s.limit (start_state s.start true) w.0 w.1 in
      let shown : map state_of (contexts_to_end (kept_of s) s.limit s.start true) ≡ start ∷ callers = rw all (shown_states w.0 (start ∷ callers) w.2.each) in
      let why = end_reason_of_stack (kept_of s) true start callers is.starts.stack in
      let traced = popped_traced why is.pops (known_comes (kept_of s) apart laid_there s.start s.limit true start callers is.starts) in
      (traced.0, traced.1, traced.2 ∙ ap (λ (states : List State). states_text (form_with o.registers s.interrupted places false true) states why) shown)
