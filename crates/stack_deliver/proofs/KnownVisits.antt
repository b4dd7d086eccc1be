-- The turn of a pass at a frame that is met: what it asks, the size of its arguments, and its caller.
use Rattle.std.proofs.Common.{inl, inr, ◌≡◌, ◌≢◌, ℕ, zero, suc, ◌+◌, ◌-◌, ◌%◌, ◌^◌, ◌<◌, Bool, true, false, List, [], ◌∷◌, get_or, set, Option, Some, None, Result, Ok, Err, refl, sym, ap, subst, ◌∙◌, arith}
use Rattle.std.proofs.lemmas.List.{get_or-set_same, get_or-set_other}
use Rattle.std.proofs.Math.ListN.{length-set}
use Rattle.memory_image.specs.Image.{Span, IsLaidOut}
use Rattle.std.specs.Result.{result_map_both}
use Rattle.memory_image.specs.Results.{result_map}
use Rattle.unwind_definitions.specs.Caller.{◌+w◌, StepFault, x86_64, caller_of}
use Rattle.unwind_definitions.specs.Expressions.{evaluation}
use Rattle.unwind_definitions.specs.State.{CalleeSaved, RBX, RBP, R12, R13, R14, R15, State, IsState, value_of, column_of, Shows}
use Rattle.unwind_definitions.specs.Function.{action_at}
use Rattle.format_definitions.specs.CompactStep.{opcode_step}
use Rattle.format_definitions.specs.CompactStep as compact
use Rattle.macho_unwind_info.specs.X86_64.{opcode_of}
use Rattle.unwind_arch.specs.declared.x86_64.Context.{Context}
use Rattle.unwind_arch.specs.ContextViews.{columns_of}
use Rattle.format_frames.specs.declared.machine.Stepped.{Stepped}
use Rattle.stack_steps.specs.declared.error.DeliverError.{DeliverError}
use Rattle.stack_steps.specs.Modules.{SpaceValue, AreApart}
use Rattle.stack_steps.specs.Frames.{FrameAt, Described, Compact, Recorded, next_with, refusal_of}
use Rattle.stack_steps.specs.Stepping.{caller_by}
use Rattle.stack_steps.specs.Macho.{compact_next, opcode_caller}
use Rattle.stack_steps.specs.Pe.{recorded_columns, refusal as pe_refusal}
use Rattle.stack_steps.specs.declared.asking.FrameAction.{FrameAction}
use Rattle.stack_steps.specs.Languages.{Languages, asked_by_rust}
use Rattle.stack_steps.specs.KnownFrames.{MeetsAsked}
use Rattle.stack_steps.specs.KnownStacks.{IsKnownLink}
use Rattle.stack_steps.proofs.ContextLemmas.{IsWhole}
use Rattle.stack_steps.proofs.FactSteps.{asked_at, facts_asked}
use Rattle.stack_steps.proofs.LanguageAsks.{asks_without_cxx}
use Rattle.stack_steps.proofs.MetCalls.{format_met}
use Rattle.stack_steps.proofs.FoundFrames.{Met}
use Rattle.stack_walks.specs.declared.unwind.Phase.{Phase}
use Rattle.stack_walks.specs.FrameVisits.{Pass, stops, past_arguments, Stops, Goes, visit_of, with_context, pass_of, visit_for}
use Rattle.stack_walks.specs.ContextsMet.{contexts_met}
use Rattle.stack_walks.proofs.VisitLines.{stop_at}
use Rattle.stack_walks.proofs.VisitCounts.{met_beyond}
use Rattle.stack_deliver.specs.KnownThrows.{AsksThere}

-- ---- a turn

module _ (languages : Languages) (space : SpaceValue) (c : Context) (action : FrameAction) (arguments : ℕ) (t : State) (m : MeetsAsked languages space c false action arguments t) where
  -- a pass for this
  abbrev pub by : Phase → Pass
  by p = record { phase = p; languages = languages }

  visit_stops : (p : Phase) → stops p action ≡ true → visit_of (by p) space c false ≡ Ok (Stops action (past_arguments c arguments))
  unfolding visit_for
  visit_stops p asks = rw (m.framed, m.asks, asks, m.size) refl

  visit_goes : (p : Phase) → stops p action ≡ false → visit_of (by p) space c false ≡ Ok (Goes m.next)
  unfolding visit_for
  visit_goes p asks = rw (m.framed, m.asks, asks, m.called) refl

  -- a pass that stops there
  pub stops_there : (p : Phase) (room : ℕ) → 0 < room → stops p action ≡ true → pass_of (by p) space room c false ≡ Ok (record { contexts = c ∷ []; stop = Some (stop_at c false action (past_arguments c arguments)) })
  stops_there p zero some asks = absurd (omega arith)
  stops_there p (suc n) some asks = rw (visit_stops p asks) refl

  -- a pass that goes on there
  pub goes_there : (p : Phase) (room : ℕ) → 0 < room → stops p action ≡ false → pass_of (by p) space room c false ≡ with_context c (pass_of (by p) space (room - 1) m.next.context false)
  goes_there p zero some asks = absurd (omega arith)
  goes_there p (suc n) some asks = let less : suc n - 1 ≡ n = omega arith in rw (less, visit_goes p asks, m.unmarked) refl

  -- and meets one context more than from there on
  pub met_there : (p : Phase) (room : ℕ) → 0 < room → stops p action ≡ false → contexts_met (Some (by p)) space room c false ≡ suc (contexts_met (Some (by p)) space (room - 1) m.next.context false)
  met_there p room some asks =
      met_beyond (Some (by p)) space room (room - 1) c false m.next (omega arith) (visit_goes p asks)
      ∙ ap (λ (marked : Bool). suc (contexts_met (Some (by p)) space (room - 1) m.next.context marked)) m.unmarked

-- ---- contexts

-- a caller that is made of columns has all sixteen registers
module _ (next : Stepped) where
  made_whole : {A E : Type 0} (make : A → Stepped) → ((x : A) → IsWhole (make x).context) → (refuse : E → DeliverError) (r : Result A E) → result_map_both make refuse r ≡ Ok next → IsWhole next.context
  made_whole make whole refuse (Ok x) is = let same : make x ≡ next = cc in subst (λ (s : Stepped). IsWhole s.context) same (whole x)
  made_whole make whole refuse (Err e) is = absurd cc

  opcode_whole : (o : Option (Result compact.Stepped StepFault)) → opcode_caller o ≡ Ok next → IsWhole next.context
  opcode_whole None is = absurd cc
  opcode_whole (Some r) is = made_whole compact_next (λ s. refl) refusal_of r is

  pub caller_whole : (image : List Span) (c : Context) (f : FrameAt) → caller_by image c f ≡ Ok next → IsWhole next.context
  caller_whole image c (Described f) is = made_whole (next_with f.found.fde.cie.letters.signal) (λ columns. refl) refusal_of (caller_of x86_64 (evaluation image) image (columns_of c) f.run) is
  caller_whole image c (Compact m listed) is = opcode_whole (opcode_step image (m.base + listed.start_address) (columns_of c) (opcode_of listed.opcode)) is
  caller_whole image c (Recorded m rva function) is = made_whole (next_with false) (λ columns. refl) pe_refusal (recorded_columns image c m rva function) is

-- the context past arguments shows the state past them
module _ (c : Context) (s : State) (size : ℕ) (shows : Shows (columns_of c) s) (whole : IsWhole c) where
  abbrev sum : ℕ
  sum = (get_or c.registers 7 0 + size) % 2 ^ 64

  other_at : (k : ℕ) → k ≢ 7 → get_or (set c.registers 7 sum) k 0 ≡ get_or c.registers k 0
  other_at k other = get_or-set_other c.registers 7 k sum 0 other

  abbrev some_number : ℕ → Option ℕ
  some_number n = Some n

  pub past_whole : IsWhole (past_arguments c size)
  past_whole = length-set c.registers 7 sum ∙ whole

  pub past_shows : Shows (columns_of (past_arguments c size)) (record s { sp = s.sp +w size })
  past_shows = record { ra = shows.ra; sp = ap some_number here; saved = each }
    where
      here : get_or (set c.registers 7 sum) 7 0 ≡ s.sp +w size
      here =
          let e : Some (get_or c.registers 7 0) ≡ Some s.sp = shows.sp in
          let sp : get_or c.registers 7 0 ≡ s.sp = cc in
          get_or-set_same c.registers 7 sum 0 (omega arith) ∙ ap (λ (n : ℕ). n +w size) sp

      each : (r : CalleeSaved) → columns_of (past_arguments c size) (column_of r) ≡ Some (value_of r (record s { sp = s.sp +w size }))
      each RBX = ap some_number (other_at 3 (λ e. cc)) ∙ shows.saved RBX
      each RBP = ap some_number (other_at 6 (λ e. cc)) ∙ shows.saved RBP
      each R12 = ap some_number (other_at 12 (λ e. cc)) ∙ shows.saved R12
      each R13 = ap some_number (other_at 13 (λ e. cc)) ∙ shows.saved R13
      each R14 = ap some_number (other_at 14 (λ e. cc)) ∙ shows.saved R14
      each R15 = ap some_number (other_at 15 (λ e. cc)) ∙ shows.saved R15

-- ---- frames of which it is known what they ask

-- at every context that shows a state there is a frame that asks this
abbrev pub IsMet : Languages → SpaceValue → State → FrameAction → ℕ → State → Type 0
IsMet languages space s action arguments t = (c : Context) → Shows (columns_of c) s → MeetsAsked languages space c false action arguments t

module _ (languages : Languages) (space : SpaceValue) (apart : AreApart 0 space.modules) (laid : IsLaidOut 0 space.image) where
  pub link_met : (s t : State) (link : IsKnownLink space false s t) (action : FrameAction) (arguments : ℕ) → IsState t → AsksThere languages space s t link action arguments → IsMet languages space s action arguments t
  link_met s t (inl known) wanted arguments fits asks c shows =
      facts_asked space c false s t apart laid known.1.returns (asked_at false s known.1.returns known.1.state.ra) shows languages known.0 fits known.1.said known.1.stands wanted arguments asks.0 asks.1
  link_met s t (inr described) wanted arguments fits asks c shows =
      let m : Met space c s described.call = format_met space c described.functions s described.call apart laid described.called shows described.state.ra in
      record {
        frame = m.frame;
        framed = m.framed;
        asks = asks_without_cxx languages space.image c false m.frame asks.1 ∙ ap (result_map asked_by_rust) m.asks ∙ ap ok (sym asks.0);
        size = m.no_arguments ∙ sym asks.2;
        next = m.next;
        called = m.called;
        unmarked = m.unmarked;
        shows = subst (λ (u : State). Shows (columns_of m.next.context) u) described.caller m.shows;
      }
    where
      ok : FrameAction → Result FrameAction DeliverError
      ok x = Ok x
