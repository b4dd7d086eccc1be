-- The passes of a delivery are those over any stack, by the step of its space and the personality of Rust.
use Rattle.std.proofs.Common.{inl, inr, ◌≡◌, ℕ, zero, suc, Bool, true, false, List, ◌∷◌, length, map, set, Option, Some, None, Result, Ok, Err, refl, sym, ap, subst, ◌∙◌, ◌+◌, ◌%◌, ◌^◌, arith}
use Rattle.std.specs.Prelude.{◌⊎◌, ◌↔◌, if◌then◌else◌, ◌==◌, slice_index}
use Rattle.std.specs.Option.{option_map}
use Rattle.std.specs.Result.{result_map_both}
use Rattle.std.proofs.Math.ListN.{length-set}
use Rattle.unwind_definitions.specs.Row.{RowInstructions}
use Rattle.unwind_definitions.specs.Caller.{Columns, StepFault, x86_64, caller_of}
use Rattle.unwind_definitions.specs.Function.{Action, NoAction, Cleanup, Catch, Filter, Terminate}
use Rattle.unwind_definitions.specs.LanguageSearch.{LanguagePlace, personality_address, address_of_call, language_action, place_action}
use Rattle.frame_rows.specs.RowValue.{RowValue}
use Rattle.unwind_arch.specs.declared.x86_64.Context.{Context}
use Rattle.unwind_definitions.specs.Columns.{rsp}
use Rattle.unwind_arch.specs.ContextViews.{columns_of, context_of}
use Rattle.unwinding_frames.specs.declared.abi.UnwindAction.{UnwindAction}
use Rattle.unwinding_frames.specs.declared.abi.UnwindReasonCode.{UnwindReasonCode}
use Rattle.unwinding_frames.specs.declared.abi.TheConstants.UnwindAction as actions
use Rattle.unwinding_frames.specs.declared.abi.TheConstants.UnwindReasonCode.{HANDLER_FOUND, INSTALL_CONTEXT, CONTINUE_UNWIND, FATAL_PHASE1_ERROR, FATAL_PHASE2_ERROR}
use Rattle.unwind_definitions.specs.Expressions.{evaluation}
use Rattle.unwinding_frames.specs.FrameValue.{FrameValue}
use Rattle.unwinding_frames.specs.OneLine as one
use Rattle.unwinding_frames.specs.Passes.{Marked, without_mark, Answering, LineEnd, RanOut, Decides, Fails, Crowded, is_code, by_personality, cleanup_actions, cleanup_end, mark_of, visit_asked, visit_seen, goes, answer_of_personality}
use Rattle.unwinding_frames.specs.Passes as any
use Rattle.unwinding_frames.specs.Personalities.{Answer, search_answer, action_seen, rust_answers}
use Rattle.unwinding_frames.specs.Seen.{Thrown}
use Rattle.stack_deliver.specs.declared.outcome.Outcome.TheVariants.{FatalPhase1}
use Rattle.stack_steps.specs.declared.error.DeliverError.{DeliverError}
use Rattle.stack_steps.specs.declared.error.DeliverError.TheVariants.{FrameLimit, PassLimit}
use Rattle.stack_walks.specs.declared.unwind.Phase.{Phase}
use Rattle.stack_walks.specs.declared.unwind.Phase.TheVariants as phase
use Rattle.delivery_laws.specs.AnyPasses.{marked_of, placed_routine, place_named, asked_with, seen_at, undoing_in, sees_in, stepping_in, rust_in, answer_left, Search, TakenBy, Untaken, search_end, search_stop, search_line, search_of, pass_end, FollowedBy, ResumedBy, IsSearchBy, IsPassBy, ArePassesBy, IsDeliveredAfter, IsDeliveredBy, IsDeliveryBy}
use Rattle.stack_steps.specs.Modules.{SpaceValue}
use Rattle.stack_steps.specs.Asking.{action_if_named, action_asked, arguments_of, named_table, or_terminate}
use Rattle.stack_steps.specs.Macho.{compact_table}
use Rattle.stack_steps.specs.Pe.{recorded_table}
use Rattle.stack_steps.specs.Elf.{table_if_named}
use Rattle.stack_steps.specs.declared.asking.FrameAction.{FrameAction}
use Rattle.stack_steps.specs.declared.asking.FrameAction.TheVariants.{Nothing}
use Rattle.stack_steps.specs.Languages.{asked_by_rust, frame_asks, is_taken, pad_of, rust_alone, selector_of}
use Rattle.stack_steps.proofs.LanguageAsks.{asks_without_cxx}
use Rattle.stack_walks.specs.FrameVisits.{Line, Pass, Stop, cleaning, searching, FrameVisit, Ends, Stops, Goes, stops, stop_by, visit_at, visit_in, visit_for, line_visit, line_for, pass_of, past_arguments, enters, mark_at, with_context}
use Rattle.stack_deliver.specs.Passes.{PassEnd, Finishes, Cleanup, end_at, end_by, end_of, cleanup_of, ending_at, cleanup_at, resume_at, CleanupsRun, with_cleanup, cleanup_and_rest, after_pass, passes_of}
use Rattle.stack_deliver.specs.StackDelivery.{DeliveryValue, delivery_after, delivery_at, delivery_to, delivery_by, delivery_through, stack_delivery}
use Rattle.stack_deliver.specs.Resumes.{return_of}
use Rattle.delivery_laws.specs.Personality.{landing_columns, InCleanup, AnswersCleanup}
use Rattle.memory_image.specs.Results.{◌>>=◌, result_map}
use Rattle.stack_steps.specs.Frames.{FrameAt, DescribedFrame, Described, Compact, Recorded, next_with, refusal_of}
use Rattle.stack_steps.specs.Stepping.{frame_of, caller_by}
use Rattle.stack_steps.specs.Macho.{opcode_caller}
use Rattle.stack_steps.specs.Pe.{refusal as pe_refusal, recorded_columns}
use Rattle.macho_unwind_info.specs.declared.error.Error.{Error}
use Rattle.macho_unwind_info.specs.declared.function.Function.{Function as Listed}
use Rattle.macho_unwind_info.specs.X86_64.{opcode_of}
use Rattle.pe_unwind_info.specs.declared.x86_64.fault.FrameFault.{FrameFault}
use Rattle.format_definitions.specs.CompactStep.{MachoModule, opcode_step}
use Rattle.format_definitions.specs.CompactStep as compact
use Rattle.pe_unwind_info.specs.declared.x86_64.function_table.RuntimeFunction.{RuntimeFunction}
use Rattle.format_definitions.specs.PeImage.{PeModule}
use Rattle.format_definitions.specs.PeStep.{PeFault}
use Rattle.format_frames.specs.Handlers.{macho_place, pe_place}
use Rattle.stack_steps.proofs.ContextLemmas.{IsWhole, context_of-columns}
use Rattle.delivery_laws.proofs.PersonalityAsks.{seen_search, seen_cleanup}

-- a landing pad is entered past the arguments
past_then_enters : (c : Context) (size exception number pad : ℕ) → IsWhole c → past_arguments (enters c exception number pad) size ≡ enters (past_arguments c size) exception number pad
past_then_enters c size exception number pad whole = go c.registers whole
  where
    go : (xs : List ℕ) → length xs ≡ 16 → past_arguments (enters (record c { registers = xs }) exception number pad) size ≡ enters (past_arguments (record c { registers = xs }) size) exception number pad
    go (x0 ∷ x1 ∷ x2 ∷ x3 ∷ x4 ∷ x5 ∷ x6 ∷ x7 ∷ xs) e = refl
    go _ e = absurd (omega arith)

enters_whole : (c : Context) (exception number pad : ℕ) → IsWhole c → IsWhole (enters c exception number pad)
enters_whole c exception number pad whole = length-set (set c.registers 0 exception) 1 number ∙ length-set c.registers 0 exception ∙ whole

past_whole : (c : Context) (size : ℕ) → IsWhole c → IsWhole (past_arguments c size)
past_whole c size whole = length-set c.registers rsp ((slice_index c.registers rsp + size) % 2 ^ 64) ∙ whole

module _ (space : SpaceValue) (row : RowInstructions → RowValue) (thrown : Thrown) where
  abbrev p : Answering Context FrameAt DeliverError
  p = rust_in space row thrown

  -- ---- an answer at a frame

  -- a cleanup pass enters a pad where one is asked for
  abbrev Enters : Option ℕ → Stop → UnwindReasonCode → Context → Type 0
  Enters None stop code past = is_code code INSTALL_CONTEXT ≡ false
  Enters (Some pad) stop code past = (is_code code INSTALL_CONTEXT ≡ true) × (past ≡ enters stop.past thrown.word (selector_of stop.action) pad) × IsWhole past

  -- an answer other than to go on is what the pass stops for
  abbrev Agrees : Phase → Stop → UnwindReasonCode → Context → Context → Type 0
  Agrees phase.Search stop code left past = (left ≡ stop.context) × (is_code code HANDLER_FOUND ≡ is_taken stop.action)
  Agrees phase.Cleanup stop code left past = Enters (pad_of stop.action) stop code past

  abbrev stop_for : Marked Context → FrameAt → Action → Stop
  stop_for x f action = record { context = x.context; interrupted = x.signal; action = asked_by_rust action; past = past_arguments x.context (arguments_of f) }

  abbrev Answers : Phase → Marked Context → FrameAt → Action → Bool → UnwindReasonCode → Context → Type 0
  Answers ph x f wanted true code left = (is_code code CONTINUE_UNWIND ≡ false) × Agrees ph (stop_for x f wanted) code left (past_arguments left (arguments_of f))
  Answers ph x f wanted false code left = (is_code code CONTINUE_UNWIND ≡ true) × (left ≡ x.context)

  record Answered (ph : Phase) (acts : UnwindAction) (x : Marked Context) (f : FrameAt) (routine : ℕ) (action : Action) : Type 0 where
    pub code : UnwindReasonCode
    pub left : Context
    pub is : p.answers routine acts f x ≡ (code, left)
    pub agrees : Answers ph x f action (stops ph (asked_by_rust action)) code left

  abbrev value_of : DescribedFrame → FrameValue
  value_of f = record { found = f.found; row = row f.run }

  whole_left : (c : Context) → IsWhole c → context_of (columns_of c) ≡ c
  whole_left c whole = context_of-columns c (columns_of c) whole (λ k. refl)

  abbrev left_with : UnwindReasonCode → Context → UnwindReasonCode × Context
  left_with code c = (code, c)

  -- a frame is seen as one of call frame information, or by the place of its language table, which asks for an action
  record IsSeen (x : Marked Context) (f : FrameAt) (routine : ℕ) (action : Action) : Type 0 where
    pub frame : Option FrameValue
    pub place : Option LanguagePlace
    pub answers : (acts : UnwindAction) → p.answers routine acts f x ≡ answer_left (rust_answers landing_columns (asked_with thrown acts routine) (seen_at space x frame place))
    pub told : or_terminate (action_seen space.image frame place (address_of_call x.context.ra x.signal)) ≡ action

  module _ (x : Marked Context) (f : FrameAt) (routine : ℕ) (action : Action) (whole : IsWhole x.context) (is : IsSeen x f routine action) where
    search_answers : (a : Action) → Answers phase.Search x f a (stops phase.Search (asked_by_rust a)) (search_answer a) x.context
    search_answers NoAction = (refl, refl)
    search_answers (Cleanup pad) = (refl, refl)
    search_answers (Catch pad) = (refl, (refl, refl))
    search_answers (Filter pad) = (refl, (refl, refl))
    search_answers Terminate = (refl, (refl, refl))

    searches : Answered phase.Search actions.SEARCH_PHASE x f routine action
    searches = record {
      code = search_answer action;
      left = x.context;
      is = is.answers actions.SEARCH_PHASE ∙ ap answer_left (seen_search space.image x.context x.signal is.frame is.place action (asked_with thrown actions.SEARCH_PHASE routine) is.told (record { version = refl; search = refl })) ∙ ap (left_with (search_answer action)) (whole_left x.context whole);
      agrees = search_answers action;
    }

    abbrev answer_to : UnwindAction → Answer
    answer_to acts = rust_answers landing_columns (asked_with thrown acts routine) (seen_at space x is.frame is.place)

    cleans : (acts : UnwindAction) → InCleanup (asked_with thrown acts routine) → Answered phase.Cleanup acts x f routine action
    cleans acts in_cleanup = go action (answer_to acts) refl (seen_cleanup space.image x.context x.signal is.frame is.place action (asked_with thrown acts routine) is.told in_cleanup whole)
      where
        stays : (a : Action) (code : UnwindReasonCode) → answer_to acts ≡ (code, columns_of x.context) → Answers phase.Cleanup x f a (stops phase.Cleanup (asked_by_rust a)) code x.context → Answered phase.Cleanup acts x f routine a
        stays a code same agrees = record { code = code; left = x.context; is = is.answers acts ∙ ap answer_left same ∙ ap (left_with code) (whole_left x.context whole); agrees = agrees }

        installs : (a : Action) (pad : ℕ) → answer_to acts ≡ (INSTALL_CONTEXT, columns_of (enters x.context thrown.word 0 pad)) → Answers phase.Cleanup x f a (stops phase.Cleanup (asked_by_rust a)) INSTALL_CONTEXT (enters x.context thrown.word 0 pad) → Answered phase.Cleanup acts x f routine a
        installs a pad same agrees = record {
          code = INSTALL_CONTEXT;
          left = enters x.context thrown.word 0 pad;
          is = is.answers acts ∙ ap answer_left same ∙ ap (left_with INSTALL_CONTEXT) (whole_left (enters x.context thrown.word 0 pad) (enters_whole x.context thrown.word 0 pad whole));
          agrees = agrees;
        }

        entered : (pad : ℕ) → (is_code INSTALL_CONTEXT INSTALL_CONTEXT ≡ true) × (past_arguments (enters x.context thrown.word 0 pad) (arguments_of f) ≡ enters (past_arguments x.context (arguments_of f)) thrown.word 0 pad) × IsWhole (past_arguments (enters x.context thrown.word 0 pad) (arguments_of f))
        entered pad = (refl, past_then_enters x.context (arguments_of f) thrown.word 0 pad whole, past_whole (enters x.context thrown.word 0 pad) (arguments_of f) (enters_whole x.context thrown.word 0 pad whole))

        go : (a : Action) (r : Answer) → answer_to acts ≡ r → AnswersCleanup a thrown.word x.context r → Answered phase.Cleanup acts x f routine a
        go NoAction r same so = stays NoAction CONTINUE_UNWIND (same ∙ so) (refl, refl)
        go (Cleanup pad) r same so = installs (Cleanup pad) pad (same ∙ so) (refl, entered pad)
        go (Catch pad) r same so = installs (Catch pad) pad (same ∙ so) (refl, entered pad)
        go (Filter pad) r same so = installs (Filter pad) pad (same ∙ so) (refl, entered pad)
        go Terminate r same (inl so) = stays Terminate FATAL_PHASE2_ERROR (same ∙ so) (refl, refl)
        go Terminate r same (inr so) = stays Terminate FATAL_PHASE1_ERROR (same ∙ so) (refl, refl)

  -- ---- a turn

  -- the actions of a phase, and what frames answer to them
  abbrev AreAnswered : Phase → (Marked Context → UnwindAction) → Type 0
  AreAnswered ph acts = (x : Marked Context) (f : FrameAt) (routine : ℕ) (action : Action) → IsWhole x.context → IsSeen x f routine action → Answered ph (acts x) x f routine action

  abbrev Turned : Phase → Marked Context → Result FrameVisit DeliverError → any.FrameVisit Context DeliverError (Unit {0}) → Type 0
  Turned ph x (Ok Ends) g = g ≡ any.Ends tt (RanOut x)
  Turned ph x (Ok (Stops action past)) g =
      (code : UnwindReasonCode) × (left : Context) × (entered : Context) × (g ≡ any.Ends tt (Decides x code left entered)) ×
      Agrees ph (record { context = x.context; interrupted = x.signal; action = action; past = past }) code left entered
  Turned ph x (Ok (Goes next)) g = (g ≡ any.Goes tt (marked_of next)) × IsWhole next.context
  Turned ph x (Err e) g = g ≡ any.Ends tt (Fails e)

  module _ (ph : Phase) (acts : Marked Context → UnwindAction) (answered : AreAnswered ph acts) where
    -- a pass by the rule of Rust alone
    abbrev pass : Pass
    pass = record { phase = ph; languages = rust_alone }

    module _ (x : Marked Context) (whole : IsWhole x.context) where
      called : (f : FrameAt) → Turned ph x (result_map Goes (caller_by space.image x.context f)) (goes tt ((undoing_in space).caller f x.context))
      called (Described f) = go (caller_of x86_64 (evaluation space.image) space.image (columns_of x.context) f.run)
        where
          go : (r : Result Columns StepFault) → Turned ph x (result_map Goes (result_map_both (next_with f.found.fde.cie.letters.signal) refusal_of r)) (goes tt (result_map marked_of (result_map_both (next_with f.found.fde.cie.letters.signal) refusal_of r)))
          go (Ok columns) = (refl, refl)
          go (Err e) = refl
      called (Compact m listed) = go (opcode_step space.image (m.base + listed.start_address) (columns_of x.context) (opcode_of listed.opcode))
        where
          go : (o : Option (Result compact.Stepped StepFault)) → Turned ph x (result_map Goes (opcode_caller o)) (goes tt (result_map marked_of (opcode_caller o)))
          go None = refl
          go (Some (Ok s)) = (refl, refl)
          go (Some (Err e)) = refl
      called (Recorded m rva function) = go (recorded_columns space.image x.context m rva function)
        where
          go : (r : Result Columns PeFault) → Turned ph x (result_map Goes (result_map_both (next_with false) pe_refusal r)) (goes tt (result_map marked_of (result_map_both (next_with false) pe_refusal r)))
          go (Ok columns) = (refl, refl)
          go (Err e) = refl

      abbrev Framed : FrameAt → Result Action DeliverError → Result (UnwindReasonCode × Context) DeliverError → Type 0
      Framed f due answer = Turned ph x (result_map (stop_by ph) (result_map asked_by_rust due) >>= visit_at space.image x.context f) (visit_asked (undoing_in space) f x (tt, answer))

      abbrev acted : Result (Option (Result LanguagePlace StepFault)) DeliverError → Result Action DeliverError
      acted named = result_map (action_if_named space.image (address_of_call x.context.ra x.signal)) named

      spoken : (f : FrameAt) (action : Action) (code : UnwindReasonCode) (left : Context) (t : Bool) → stops ph (asked_by_rust action) ≡ t → Answers ph x f action t code left → Framed f (Ok action) (Ok (code, left))
      spoken f wanted code left true is (other, agrees) = rw (is, other) (code, left, past_arguments left (arguments_of f), refl, agrees)
      spoken f wanted code left false is (same, stays) = rw (is, same, stays) (called f)

      quiet : (k : Phase) → stops k Nothing ≡ false
      quiet phase.Search = refl
      quiet phase.Cleanup = refl

      silent : (f : FrameAt) → Framed f (Ok NoAction) (Ok (CONTINUE_UNWIND, x.context))
      silent f = spoken f NoAction CONTINUE_UNWIND x.context false (quiet ph) (refl, refl)

      module _ (f : DescribedFrame) where
        named : (routine : ℕ) → personality_address space.image f.found.fde ≡ Ok (Some routine) →
            Framed (Described f) (Ok (or_terminate (language_action space.image f.found.bases f.found.fde (address_of_call x.context.ra x.signal)))) (Ok (p.answers routine (acts x) (Described f) x))
        named routine is =
            let action : Action = or_terminate (language_action space.image f.found.bases f.found.fde (address_of_call x.context.ra x.signal)) in
            let a = answered x (Described f) routine action whole (record { frame = Some (value_of f); place = None; answers = λ acts. refl; told = refl }) in
            subst (λ (r : UnwindReasonCode × Context). Framed (Described f) (Ok action) (Ok r)) (sym a.is) (spoken (Described f) action a.code a.left (stops ph (asked_by_rust action)) refl a.agrees)

        described : Framed (Described f) (action_asked space.image x.context x.signal (Described f)) (answer_of_personality p (acts x) (Described f) x)
        described = go (personality_address space.image f.found.fde) refl
          where
            go : (r : Result (Option ℕ) StepFault) → personality_address space.image f.found.fde ≡ r →
                Framed (Described f) (acted (table_if_named space.image f.found r)) (any.asked_if_named p (acts x) (Described f) x (result_map_both (λ routine. routine) refusal_of r))
            go (Err e) is = refl
            go (Ok None) is = silent (Described f)
            go (Ok (Some routine)) is = named routine is

      -- by the place of a language table, if it has one
      by_place : (f : FrameAt) → ((acts : UnwindAction) → p.answers 0 acts f x ≡ answer_left (rust_answers landing_columns (asked_with thrown acts 0) (seen_at space x None (place_named (named_table space.image f))))) →
          (r : Result (Option LanguagePlace) DeliverError) → named_table space.image f ≡ result_map (option_map Ok) r →
          Framed f (acted (result_map (option_map Ok) r)) (any.asked_if_named p (acts x) f x (placed_routine (result_map (option_map Ok) r)))
      by_place f answers (Err e) is = refl
      by_place f answers (Ok None) is = silent f
      by_place f answers (Ok (Some place)) is =
          let action : Action = or_terminate (place_action space.image place (address_of_call x.context.ra x.signal)) in
          let named : place_named (named_table space.image f) ≡ Some place = ap place_named is in
          let a = answered x f 0 action whole (record {
            frame = None;
            place = Some place;
            answers = λ k. answers k ∙ ap (λ (o : Option LanguagePlace). answer_left (rust_answers landing_columns (asked_with thrown k 0) (seen_at space x None o))) named;
            told = refl;
          }) in
          subst (λ (q : UnwindReasonCode × Context). Framed f (Ok action) (Ok q)) (sym a.is) (spoken f action a.code a.left (stops ph (asked_by_rust action)) refl a.agrees)

      compacted : (m : MachoModule) (listed : Listed) (r : Result (Option LanguagePlace) Error) → macho_place space.image m listed ≡ r →
          Framed (Compact m listed) (acted (compact_table r)) (any.asked_if_named p (acts x) (Compact m listed) x (placed_routine (compact_table r)))
      compacted m listed (Ok o) is = by_place (Compact m listed) (λ k. refl) (Ok o) (ap compact_table is)
      compacted m listed (Err e) is = refl

      recorded : (m : PeModule) (rva : ℕ) (function : Option RuntimeFunction) (r : Result (Option LanguagePlace) FrameFault) → pe_place space.image m function ≡ r →
          Framed (Recorded m rva function) (acted (recorded_table r)) (any.asked_if_named p (acts x) (Recorded m rva function) x (placed_routine (recorded_table r)))
      recorded m rva function (Ok o) is = by_place (Recorded m rva function) (λ k. refl) (Ok o) (ap recorded_table is)
      recorded m rva function (Err e) is = refl

      framed : (f : FrameAt) → Framed f (action_asked space.image x.context x.signal f) (answer_of_personality p (acts x) f x)
      framed (Described f) = described f
      framed (Compact m listed) = compacted m listed (macho_place space.image m listed) refl
      framed (Recorded m rva function) = recorded m rva function (pe_place space.image m function) refl

      -- what the frame asks is what its table says by the rule of Rust
      asks_so : (f : FrameAt) → Framed f (action_asked space.image x.context x.signal f) (answer_of_personality p (acts x) f x) →
          Turned ph x (visit_in (Some pass) space.image x.context x.signal (Some f)) (visit_asked (undoing_in space) f x (tt, answer_of_personality p (acts x) f x))
      asks_so f is =
          subst (λ (r : Result FrameAction DeliverError). Turned ph x (result_map (stop_by ph) r >>= visit_at space.image x.context f) (visit_asked (undoing_in space) f x (tt, answer_of_personality p (acts x) f x)))
          (sym (asks_without_cxx rust_alone space.image x.context x.signal f refl)) is

      turned : Turned ph x (visit_for (Some pass) space x.context x.signal) (visit_seen (undoing_in space) (by_personality p acts) tt x (sees_in space x))
      unfolding visit_for
      turned = go (frame_of space x.context x.signal)
        where
          go : (r : Result (Option FrameAt) DeliverError) → Turned ph x (r >>= visit_in (Some pass) space.image x.context x.signal) (visit_seen (undoing_in space) (by_personality p acts) tt x r)
          go (Ok None) = refl
          go (Ok (Some f)) = asks_so f (framed f)
          go (Err e) = refl

    -- ---- a line

    abbrev line_of : ℕ → Marked Context → any.Line Context DeliverError (Unit {0})
    line_of room x = one.line_of (sees_in space) (undoing_in space) (by_personality p acts) room tt x

    abbrev contexts_of : any.Line Context DeliverError (Unit {0}) → List Context
    contexts_of line = map (λ x. x.context) line.contexts

    abbrev Stopped : Option Stop → LineEnd Context DeliverError → Type 0
    Stopped None end = (x : Marked Context) × (end ≡ RanOut x)
    Stopped (Some stop) end =
        (code : UnwindReasonCode) × (left : Context) × (entered : Context) × (end ≡ Decides (record { context = stop.context; signal = stop.interrupted }) code left entered) × Agrees ph stop code left entered

    abbrev Lined : Result Line DeliverError → any.Line Context DeliverError (Unit {0}) → Type 0
    Lined (Ok found) line = (found.contexts ≡ contexts_of line) × Stopped found.stop line.end
    Lined (Err e) line = (line.end ≡ Fails e) ⊎ ((line.end ≡ Crowded) × (e ≡ FrameLimit))

    preceded : (x : Marked Context) (r : Result Line DeliverError) (line : any.Line Context DeliverError (Unit {0})) → Lined r line → Lined (with_context x.context r) (one.with_rest x line)
    preceded x (Ok found) line (same, end) = (ap (λ (cs : List Context). x.context ∷ cs) same, end)
    preceded x (Err e) line is = is

    lined : (room : ℕ) (x : Marked Context) → IsWhole x.context → Lined (line_for (Some pass) space room x.context x.signal) (line_of room x)
    lined zero x whole = inr (refl, refl)
    lined (suc room) x whole = go (visit_for (Some pass) space x.context x.signal) (visit_seen (undoing_in space) (by_personality p acts) tt x (sees_in space x)) (turned x whole) (λ y whole. lined room y whole)
      where
        go : (t : Result FrameVisit DeliverError) (g : any.FrameVisit Context DeliverError (Unit {0})) → Turned ph x t g → ((y : Marked Context) → IsWhole y.context → Lined (line_for (Some pass) space room y.context y.signal) (line_of room y)) →
            Lined (line_visit x.context x.signal t (line_for (Some pass) space room)) (one.line_after (one.line_of (sees_in space) (undoing_in space) (by_personality p acts) room) x g)
        go (Ok Ends) g is later = rw is (refl, (x, refl))
        go (Ok (Stops wanted past)) g (code, left, entered, is, agrees) later = rw is (refl, (code, left, entered, refl, agrees))
        go (Ok (Goes next)) g (is, whole) later = rw is (preceded x (line_for (Some pass) space room next.context next.signal) (line_of room (marked_of next)) (later (marked_of next) whole))
        go (Err e) g is later = rw is (inl refl)

  abbrev stack_pointer : Context → ℕ
  stack_pointer c = slice_index c.registers rsp

  -- ---- the search

  abbrev search_acts : Marked Context → UnwindAction
  search_acts x = actions.SEARCH_PHASE

  answers_to_search : AreAnswered phase.Search search_acts
  answers_to_search x f routine action whole is = searches x f routine action whole is

  abbrev searched_line : ℕ → Context → any.Line Context DeliverError (Unit {0})
  searched_line limit start = line_of phase.Search search_acts answers_to_search limit (without_mark start)

  search_same : (r : Result Line DeliverError) (line : any.Line Context DeliverError (Unit {0})) → Lined phase.Search search_acts answers_to_search r line →
      search_end stack_pointer (map (λ x. x.context) line.contexts) line.end ≡ result_map search_line r
  search_same (Ok found) line (same, end) = go found.stop refl end
    where
      go : (o : Option Stop) → found.stop ≡ o → Stopped phase.Search search_acts answers_to_search o line.end → search_end stack_pointer (map (λ x. x.context) line.contexts) line.end ≡ Ok (search_line found)
      go None none (x, is) = rw (is, none, same) refl
      go (Some stop) some (code, left, entered, is, (stays, test)) = rw (is, some, same, stays, test) refl
  search_same (Err e) line (inl is) = rw is refl
  search_same (Err e) line (inr (is, same)) = rw (is, same) refl

  search_by_line : (limit : ℕ) (start : Context) → IsWhole start → search_end stack_pointer (map (λ x. x.context) (searched_line limit start).contexts) (searched_line limit start).end ≡ search_of space limit start
  search_by_line limit start whole = search_same (pass_of (searching rust_alone) space limit start false) (searched_line limit start) (lined phase.Search search_acts answers_to_search limit (without_mark start) whole)

  pub searches_are : (limit : ℕ) (start : Context) (due : Result Search DeliverError) → IsWhole start → IsSearchBy (stepping_in space) p limit start due ↔ (due ≡ search_of space limit start)
  searches_are limit start due whole = (
    λ s. s.2 ∙ ap (λ (line : any.Line Context DeliverError (Unit {0})). search_end stack_pointer (map (λ x. x.context) line.contexts) line.end)
        (one.line_is (sees_in space) (undoing_in space) (by_personality p search_acts) limit tt (without_mark start) s.0 s.1) ∙ search_by_line limit start whole,
    λ e. (searched_line limit start, one.is_line (sees_in space) (undoing_in space) (by_personality p search_acts) limit tt (without_mark start), e ∙ sym (search_by_line limit start whole)),
  )

  -- ---- a cleanup pass

  abbrev IsWholeEnd : Result PassEnd DeliverError → Type 0
  IsWholeEnd (Ok (Cleanup pad entered)) = IsWhole entered
  IsWholeEnd _ = Unit {0}

  module _ (kept : ℕ) where
    abbrev cleanup_acts : Marked Context → UnwindAction
    cleanup_acts = cleanup_actions stack_pointer kept

    answers_to_cleanup : AreAnswered phase.Cleanup cleanup_acts
    answers_to_cleanup x f routine action whole is = cleans x f routine action whole is (cleanup_acts x) (go (mark_of stack_pointer x == kept))
      where
        go : (b : Bool) → InCleanup (asked_with thrown (if b then any.both actions.CLEANUP_PHASE actions.HANDLER_FRAME else actions.CLEANUP_PHASE) routine)
        go true = record { version = refl; cleanup = refl; unforced = refl }
        go false = record { version = refl; cleanup = refl; unforced = refl }

    abbrev cleaned_line : ℕ → Context → any.Line Context DeliverError (Unit {0})
    cleaned_line limit start = line_of phase.Cleanup cleanup_acts answers_to_cleanup limit (without_mark start)

    abbrev Passes : Result PassEnd DeliverError → any.Outcome Context DeliverError → Type 0
    Passes due outcome = (pass_end outcome ≡ due) × IsWholeEnd due

    pass_same : (r : Result Line DeliverError) (line : any.Line Context DeliverError (Unit {0})) → Lined phase.Cleanup cleanup_acts answers_to_cleanup r line → Passes (end_of thrown.word kept r) (cleanup_end stack_pointer kept line.end)
    pass_same (Ok found) line (same, end) = go found.stop end
      where
        at_pad : (stop : Stop) (code : UnwindReasonCode) (left entered : Context) (o : Option ℕ) → Enters o stop code entered →
            Passes (Ok (end_at thrown.word kept stop o)) (cleanup_end stack_pointer kept (Decides (record { context = stop.context; signal = stop.interrupted }) code left entered))
        at_pad stop code left entered None other = rw other (refl, tt)
        at_pad stop code left entered (Some pad) (installs, is, whole) = rw installs (marks (mark_at stop.context stop.interrupted == kept))
          where
            marks : (b : Bool) → Passes (Ok (if b then Finishes (ending_at (enters stop.past thrown.word (selector_of stop.action) pad)) else Cleanup pad (enters stop.past thrown.word (selector_of stop.action) pad))) (any.Installs entered b)
            marks true = rw is (refl, tt)
            marks false = rw is (refl, subst IsWhole is whole)

        go : (o : Option Stop) → Stopped phase.Cleanup cleanup_acts answers_to_cleanup o line.end → Passes (Ok (end_by thrown.word kept o)) (cleanup_end stack_pointer kept line.end)
        go None (x, is) = rw is (refl, tt)
        go (Some stop) (code, left, entered, is, enters_too) = rw is (at_pad stop code left entered (pad_of stop.action) enters_too)
    pass_same (Err e) line (inl is) = rw is (refl, tt)
    pass_same (Err e) line (inr (is, same)) = rw (is, same) (refl, tt)

    passes_by_line : (limit : ℕ) (start : Context) → IsWhole start → Passes (cleanup_of rust_alone space thrown.word kept limit start) (cleanup_end stack_pointer kept (cleaned_line limit start).end)
    passes_by_line limit start whole = pass_same (pass_of (cleaning rust_alone) space limit start false) (cleaned_line limit start) (lined phase.Cleanup cleanup_acts answers_to_cleanup limit (without_mark start) whole)

    pub pass_is : (limit : ℕ) (start : Context) (due : Result PassEnd DeliverError) → IsWhole start → IsPassBy (stepping_in space) p limit kept start due → due ≡ cleanup_of rust_alone space thrown.word kept limit start
    pass_is limit start due whole (outcome, (line, is, ends), e) =
        e ∙ ap pass_end ends ∙ ap (λ (l : any.Line Context DeliverError (Unit {0})). pass_end (cleanup_end stack_pointer kept l.end)) (one.line_is (sees_in space) (undoing_in space) (by_personality p cleanup_acts) limit tt (without_mark start) line is)
        ∙ (passes_by_line limit start whole).0

    pub is_pass : (limit : ℕ) (start : Context) → IsWhole start → IsPassBy (stepping_in space) p limit kept start (cleanup_of rust_alone space thrown.word kept limit start)
    is_pass limit start whole = (
      cleanup_end stack_pointer kept (cleaned_line limit start).end,
      (cleaned_line limit start, one.is_line (sees_in space) (undoing_in space) (by_personality p cleanup_acts) limit tt (without_mark start), refl),
      sym (passes_by_line limit start whole).0,
    )

    pub passes_are : (limit : ℕ) (start : Context) (due : Result PassEnd DeliverError) → IsWhole start → IsPassBy (stepping_in space) p limit kept start due ↔ (due ≡ cleanup_of rust_alone space thrown.word kept limit start)
    passes_are limit start due whole = (pass_is limit start due whole, λ e. subst (IsPassBy (stepping_in space) p limit kept start) (sym e) (is_pass limit start whole))

    -- ---- the cleanup passes

    module _ (resumes : List (ℕ × ℕ)) (limit : ℕ) where
      abbrev passes : ℕ → Context → Result CleanupsRun DeliverError
      passes places start = passes_of rust_alone space thrown.word kept resumes limit places start

      abbrev ArePasses : ℕ → Context → Result CleanupsRun DeliverError → Type 0
      ArePasses places start passed = ArePassesBy (stepping_in space) p limit resumes kept places start passed

      abbrev end_from : Context → Result PassEnd DeliverError
      end_from start = cleanup_of rust_alone space thrown.word kept limit start

      -- what follows a cleanup where the trail has a place for it
      abbrev Later : ℕ → ℕ → Context → Result CleanupsRun DeliverError → Type 0
      Later places pad entered due = ResumedBy (ArePasses places) (cleanup_at pad entered) (resume_at pad entered (return_of resumes pad)) due

      abbrev later : ℕ → ℕ → Context → Result CleanupsRun DeliverError
      later places pad entered = cleanup_and_rest (cleanup_at pad entered) (resume_at pad entered (return_of resumes pad)) (passes places)

      pub hold : (places : ℕ) (start : Context) → IsWhole start → ArePasses places start (passes places start)
      hold zero start whole = (end_from start, is_pass limit start whole, go (end_from start))
        where
          go : (r : Result PassEnd DeliverError) → FollowedBy (λ pad entered due. due ≡ Err PassLimit) r (after_pass r (λ pad entered. Err PassLimit))
          go (Ok (Finishes ending)) = refl
          go (Ok (Cleanup pad entered)) = refl
          go (Err e) = refl
      hold (suc places) start whole = (end_from start, is_pass limit start whole, go (end_from start) (passes_by_line limit start whole).1 (λ d whole. hold places d whole))
        where
          resumes_by : (pad : ℕ) (entered : Context) → IsWhole entered → ((d : Context) → IsWhole d → ArePasses places d (passes places d)) → (o : Option ℕ) →
              ResumedBy (ArePasses places) (cleanup_at pad entered) (resume_at pad entered o) (cleanup_and_rest (cleanup_at pad entered) (resume_at pad entered o) (passes places))
          resumes_by pad entered whole holds None = refl
          resumes_by pad entered whole holds (Some ret) = (passes places (record entered { ra = ret }), holds (record entered { ra = ret }) whole, refl)

          go : (r : Result PassEnd DeliverError) → IsWholeEnd r → ((d : Context) → IsWhole d → ArePasses places d (passes places d)) → FollowedBy (Later places) r (after_pass r (later places))
          go (Ok (Finishes ending)) whole holds = refl
          go (Ok (Cleanup pad entered)) whole holds = resumes_by pad entered whole holds (return_of resumes pad)
          go (Err e) whole holds = refl

      pub only : (places : ℕ) (start : Context) (due : Result CleanupsRun DeliverError) → IsWhole start → ArePasses places start due → due ≡ passes places start
      only zero start due whole (end, is, follows) = go (end_from start) (subst (λ (r : Result PassEnd DeliverError). FollowedBy (λ pad entered due. due ≡ Err PassLimit) r due) (pass_is limit start end whole is) follows)
        where
          go : (r : Result PassEnd DeliverError) → FollowedBy (λ pad entered due. due ≡ Err PassLimit) r due → due ≡ after_pass r (λ pad entered. Err PassLimit)
          go (Ok (Finishes ending)) e = e
          go (Ok (Cleanup pad entered)) e = e
          go (Err e) same = same
      only (suc places) start due whole (end, is, follows) =
          go (end_from start) (passes_by_line limit start whole).1 (λ d rest whole. only places d rest whole) (subst (λ (r : Result PassEnd DeliverError). FollowedBy (Later places) r due) (pass_is limit start end whole is) follows)
        where
          resumes_by : (pad : ℕ) (entered : Context) → IsWhole entered → ((d : Context) (rest : Result CleanupsRun DeliverError) → IsWhole d → ArePasses places d rest → rest ≡ passes places d) → (o : Option ℕ) →
              ResumedBy (ArePasses places) (cleanup_at pad entered) (resume_at pad entered o) due → due ≡ cleanup_and_rest (cleanup_at pad entered) (resume_at pad entered o) (passes places)
          resumes_by pad entered whole outer None e = e
          resumes_by pad entered whole outer (Some ret) (rest, are, e) = e ∙ ap (with_cleanup (cleanup_at pad entered)) (outer (record entered { ra = ret }) rest whole are)

          go : (r : Result PassEnd DeliverError) → IsWholeEnd r → ((d : Context) (rest : Result CleanupsRun DeliverError) → IsWhole d → ArePasses places d rest → rest ≡ passes places d) → FollowedBy (Later places) r due → due ≡ after_pass r (later places)
          go (Ok (Finishes ending)) whole outer e = e
          go (Ok (Cleanup pad entered)) whole outer e = resumes_by pad entered whole outer (return_of resumes pad) e
          go (Err e) whole outer same = same

  -- ---- a delivery

  module _ (resumes : List (ℕ × ℕ)) (limit : ℕ) (start : Context) (whole : IsWhole start) where
    abbrev toward : ℕ → Result CleanupsRun DeliverError
    toward kept = passes_of rust_alone space thrown.word kept resumes limit limit start

    abbrev Delivered_by : Result Search DeliverError → Result DeliveryValue DeliverError → Type 0
    Delivered_by found due = IsDeliveredBy (stepping_in space) p limit resumes start found due

    holds_at : (visited : List Context) (stop : Stop) (b : Bool) →
        IsDeliveredAfter (stepping_in space) p limit resumes start visited (if b then TakenBy (mark_at stop.context stop.interrupted) else Untaken FatalPhase1) (delivery_at visited b (toward (mark_at stop.context stop.interrupted)))
    holds_at visited stop false = refl
    holds_at visited stop true = let kept : ℕ = mark_at stop.context stop.interrupted in (toward kept, hold kept resumes limit limit start whole, refl)

    holds_to : (visited : List Context) (o : Option Stop) → IsDeliveredAfter (stepping_in space) p limit resumes start visited (search_stop o) (delivery_to visited o toward)
    holds_to visited None = refl
    holds_to visited (Some stop) = holds_at visited stop (is_taken stop.action)

    holds_by : (r : Result Line DeliverError) → Delivered_by (result_map search_line r) (delivery_by r toward)
    holds_by (Ok line) = holds_to line.contexts line.stop
    holds_by (Err e) = refl

    only_at : (due : Result DeliveryValue DeliverError) (visited : List Context) (stop : Stop) (b : Bool) →
        IsDeliveredAfter (stepping_in space) p limit resumes start visited (if b then TakenBy (mark_at stop.context stop.interrupted) else Untaken FatalPhase1) due → due ≡ delivery_at visited b (toward (mark_at stop.context stop.interrupted))
    only_at due visited stop false e = e
    only_at due visited stop true (passed, are, e) = e ∙ ap (delivery_after visited) (only (mark_at stop.context stop.interrupted) resumes limit limit start passed whole are)

    only_to : (due : Result DeliveryValue DeliverError) (visited : List Context) (o : Option Stop) → IsDeliveredAfter (stepping_in space) p limit resumes start visited (search_stop o) due → due ≡ delivery_to visited o toward
    only_to due visited None e = e
    only_to due visited (Some stop) e = only_at due visited stop (is_taken stop.action) e

    only_by : (due : Result DeliveryValue DeliverError) (r : Result Line DeliverError) → Delivered_by (result_map search_line r) due → due ≡ delivery_by r toward
    only_by due (Ok line) is = only_to due line.contexts line.stop is
    only_by due (Err e) is = is

    pub deliveries_are : (due : Result DeliveryValue DeliverError) → IsDeliveryBy (stepping_in space) p limit resumes start due ↔ (due ≡ stack_delivery space start thrown.word resumes limit)
    unfolding delivery_through
    deliveries_are due = (
      λ d. only_by due (pass_of (searching rust_alone) space limit start false) (subst (λ (found : Result Search DeliverError). Delivered_by found due) ((searches_are limit start d.0 whole).0 d.1) d.2),
      λ e. subst (IsDeliveryBy (stepping_in space) p limit resumes start) (sym e) (search_of space limit start, (searches_are limit start (search_of space limit start) whole).1 refl, holds_by (pass_of (searching rust_alone) space limit start false)),
    )
