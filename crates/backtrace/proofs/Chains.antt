-- The trace of a snapshot whose tables describe a chain of calls.
use Rattle.std.proofs.Common.{inl, inr, ◌≡◌, ◌≢◌, ℕ, ◌+◌, ◌-◌, ◌%◌, ◌^◌, ◌<◌, ◌≤◌, Bool, true, false, ◌||◌, ◌&&◌, List, [], ◌∷◌, length, set, get_or, Option, Some, None, Result, Ok, refl, sym, ap, ◌∙◌, arith}
use Rattle.std.proofs.lemmas.Bool.Decides.{nat_tests}
use Rattle.std.specs.Prelude.{map, ◌==◌}
use Rattle.std.proofs.lemmas.List.{get_or-set_same, get_or-set_other}
use Rattle.memory_image.specs.Image.{Span, IsLaidOut, word_at}
use Rattle.unwind_definitions.specs.Columns as column
use Rattle.unwind_definitions.specs.State.{CalleeSaved, RBX, RBP, R12, R13, R14, R15, State, IsState, Shows, column_of, value_of}
use Rattle.unwind_definitions.specs.Entered.{IsEntered}
use Rattle.unwind_definitions.specs.Function.{Function}
use Rattle.unwind_definitions.specs.Chain.{Call, states_of, last_state, IsChain}
use Rattle.format_definitions.specs.Modules.{IsUncoveredBy}
use Rattle.format_definitions.specs.Stops.{IsDescribedStop}
use Rattle.unwind_arch.specs.declared.x86_64.Context.{Context}
use Rattle.unwind_arch.specs.ContextViews.{columns_of}
use Rattle.format_frames.specs.declared.machine.Stepped.{Stepped}
use Rattle.stack_steps.specs.declared.error.DeliverError.{DeliverError}
use Rattle.stack_steps.specs.Modules.{SpaceValue, AreApart}
use Rattle.stack_steps.specs.SpaceViews.{formats_of}
use Rattle.stack_steps.specs.Stepping.{step_of}
use Rattle.stack_steps.specs.Undoing.{UndoneIn}
use Rattle.stack_steps.proofs.ContextLemmas.{IsWhole}
use Rattle.stack_steps.proofs.MetCalls.{format_stopped}
use Rattle.stack_walks.specs.WalkEnds.{start_state, contexts_to_end, end_reason_of_chain}
use Rattle.stack_walks.specs.Walking.{StartsChain}
use Rattle.stack_walks.proofs.ChainEnds.{chain_comes, stop_comes}
use Rattle.stack_walks.proofs.ChainWalked.{chain_walked}
use Rattle.stack_walks.proofs.StoppedWalk.{stopped_walked}
use Rattle.stack_walks.proofs.EndAnswers.{line_whole}
use Rattle.stack_deliver.specs.StateViews.{state_of}
use Rattle.stack_deliver.proofs.Chains.{shown_state, shown_states}
use Rattle.stack_snapshot.specs.Content.{Content, space_of}
use Rattle.stack_snapshot.specs.Described.{DescribesStop, DescribesWalk}
use Rattle.backtrace.specs.Code.{CodeValue, PlacesValue}
use Rattle.backtrace.specs.declared.options.Options.{Options}
use Rattle.backtrace.specs.Tracing.{TraceValue, IsFrontOf, IsNowhere, called_from, is_nowhere, keeps_popped, returned_to}
use Rattle.backtrace.specs.Lines.{backtrace_text}
use Rattle.backtrace.specs.Due.{IsTraceOf, DescribesCallToNowhere, text_of, chain_text, called_text}
use Rattle.backtrace.proofs.Somewhere.{unended_somewhere}
use Rattle.backtrace.proofs.PoppedTraces.{plain_front, whole_unmarked}

-- A stack that has a step isn't guessed at.
stepped_somewhere : (space : SpaceValue) (code : List CodeValue) (c : Context) (next : Stepped) → step_of space c true ≡ Ok (Some next) → called_from space code c true ≡ None
stepped_somewhere space code c next steps =
    unended_somewhere space code c (λ ends. let bad : ◌≡◌ {A = Result (Option Stepped) DeliverError} (Ok (Some next)) (Ok None) = sym steps ∙ ends in cc)

-- ---- a call to nowhere

-- a chain begins with a state
begins : (image : List Span) (Uncovered : ℕ → Type 0) (functions : List Function) (s : State) (calls : List Call) → IsChain image Uncovered functions s calls → IsState s
begins image Uncovered functions s [] chain = chain.state
begins image Uncovered functions s (c ∷ calls) chain = chain.0.state

-- the stack pointer past the word that it leads to
abbrev popped : Context → ℕ
popped c = (get_or c.registers 7 0 + 8) % 2 ^ 64

-- after a write to it every other register stays
kept : (c : Context) (v j : ℕ) → j ≢ 7 → get_or (set c.registers 7 v) j 0 ≡ get_or c.registers j 0
kept c v j other = get_or-set_other c.registers 7 j v 0 other

-- the word at the stack pointer is popped, and every other register stays
returned_shows : (c : Context) (t s : State) → IsWhole c → IsState t → 8 ≤ t.sp → s.sp ≡ t.sp - 8 → ((r : CalleeSaved) → value_of r s ≡ value_of r t) → Shows (columns_of c) s → Shows (columns_of (returned_to c t.ra)) t
returned_shows c t s whole state room below same shows = record { ra = refl; sp = at_sp; saved = saved }
  where
    some : ℕ → Option ℕ
    some n = Some n

    popped_is : popped c ≡ t.sp
    popped_is =
        let at : get_or c.registers 7 0 ≡ s.sp = (let e : Some (get_or c.registers 7 0) ≡ Some s.sp = shows.sp in cc) in
        let high : t.sp < 2 ^ 64 = state.sp in
        omega arith

    at_sp : columns_of (returned_to c t.ra) column.rsp ≡ Some t.sp
    at_sp =
        let all : length c.registers ≡ 16 = whole in
        let within : 7 < length c.registers = omega arith in
        let put : get_or (set c.registers 7 (popped c)) 7 0 ≡ popped c = get_or-set_same c.registers 7 (popped c) 0 within in
        ap some (put ∙ popped_is)

    saved : (r : CalleeSaved) → columns_of (returned_to c t.ra) (column_of r) ≡ Some (value_of r t)
    saved RBX = ap some (kept c (popped c) 3 (λ e. cc)) ∙ shows.saved RBX ∙ ap some (same RBX)
    saved RBP = ap some (kept c (popped c) 6 (λ e. cc)) ∙ shows.saved RBP ∙ ap some (same RBP)
    saved R12 = ap some (kept c (popped c) 12 (λ e. cc)) ∙ shows.saved R12 ∙ ap some (same R12)
    saved R13 = ap some (kept c (popped c) 13 (λ e. cc)) ∙ shows.saved R13 ∙ ap some (same R13)
    saved R14 = ap some (kept c (popped c) 14 (λ e. cc)) ∙ shows.saved R14 ∙ ap some (same R14)
    saved R15 = ap some (kept c (popped c) 15 (λ e. cc)) ∙ shows.saved R15 ∙ ap some (same R15)

-- what is nowhere is tested so
tested : (space : SpaceValue) (code : List CodeValue) (c : Context) (interrupted : Bool) → IsNowhere space code c interrupted → is_nowhere space code c interrupted ≡ true
tested space code c interrupted (marked, inl zero, free) = rw (marked, free, zero) refl
tested space code c interrupted (marked, inr none, free) = rw (marked, free, none) (either (c.ra == 0))
  where
    either : (b : Bool) → ((b || true) && true) ≡ true
    either true = refl
    either false = refl

-- after a call to nowhere the caller that the stack names shows the caller's state
pub called_caller : (space : SpaceValue) (code : List CodeValue) (c : Context) (interrupted : Bool) (t s : State) → IsWhole c → IsNowhere space code c interrupted → IsEntered space.image false [] t s → IsState t → t.ra ≢ 0 → Shows (columns_of c) s →
    (d : Context) × (called_from space code c interrupted ≡ Some d) × Shows (columns_of d) t
called_caller space code c interrupted t s whole nowhere entered state returns shows =
    let at : get_or c.registers 7 0 ≡ s.sp = (let e : Some (get_or c.registers 7 0) ≡ Some s.sp = shows.sp in cc) in
    let below : s.sp ≡ t.sp - 8 = entered.stack in
    let word : word_at space.image (get_or c.registers 7 0) ≡ Some t.ra = rw (at, below) (entered.returns refl) in
    let some : (t.ra == 0) ≡ false = (let is : t.ra ≢ 0 = returns in grind (arith, nat_tests)) in (
      returned_to c t.ra,
      rw (tested space code c interrupted nowhere, word, some) refl,
      returned_shows c t s whole state entered.room below (λ r. entered.keeps r refl) shows,
    )

module _ (s : Content) (apart : AreApart 0 (space_of s).modules) (laid : IsLaidOut 0 (space_of s).image) where
  -- of a walk that begins at the start
  abbrev walked : Bool → State → List Call → TraceValue
  walked interrupted start calls =
      record { first = None; states = contexts_to_end (space_of s) s.limit s.start interrupted; why = end_reason_of_chain (space_of s).modules (last_state start calls); popped = false }

  lines_are : (o : Options) (places : PlacesValue) (start : State) (calls : List Call) → map state_of (contexts_to_end (space_of s) s.limit s.start s.interrupted) ≡ states_of start calls →
      text_of o s places (walked s.interrupted start calls) ≡ chain_text o s places start calls
  unfolding backtrace_text
  lines_are o places start calls shown = rw shown refl

  -- The trace of a described chain has its states, and the lines are theirs.
  pub chain_traced : (o : Options) (places : PlacesValue) (functions : List Function) (start : State) (calls : List Call) → DescribesWalk s functions start calls →
      (t : TraceValue) × IsTraceOf s places t × (text_of o s places t ≡ chain_text o s places start calls)
  chain_traced o places functions start calls is =
      let w = chain_walked (space_of s) s.start s.limit functions start calls apart laid is.1 in
      let all : contexts_to_end (space_of s) s.limit s.start false ≡ w.0 = line_whole (space_of s) s.limit (start_state s.start false) w.0 w.1 in
      let shown : map state_of (contexts_to_end (space_of s) s.limit s.start s.interrupted) ≡ states_of start calls = rw (is.0, all) (shown_states w.0 (states_of start calls) w.2.states) in
      let why = chain_comes (space_of s) apart laid s.start s.limit functions start calls is.1 in (
        walked s.interrupted start calls,
        rw is.0 (refl, record { states = refl; why = why; marked = refl }),
        lines_are o places start calls shown,
      )

  -- So has that of a stop in a described function.
  pub stop_traced : (o : Options) (places : PlacesValue) (functions : List Function) (start : State) (call : Call) (calls : List Call) → DescribesStop s functions start call calls →
      (t : TraceValue) × IsTraceOf s places t × (text_of o s places t ≡ chain_text o s places start (call ∷ calls))
  stop_traced o places functions start call calls is =
      let w = stopped_walked (space_of s) functions start call calls s.start apart laid s.limit is.1 in
      let all : contexts_to_end (space_of s) s.limit s.start true ≡ w.0 = line_whole (space_of s) s.limit (start_state s.start true) w.0 w.1 in
      let shown : map state_of (contexts_to_end (space_of s) s.limit s.start s.interrupted) ≡ states_of start (call ∷ calls) = rw (is.0, all) (shown_states w.0 (states_of start (call ∷ calls)) w.2.states) in
      let stop : IsDescribedStop (space_of s).image (formats_of (space_of s)) functions start call = is.1.stopped in
      let step : UndoneIn stop.lies.home (step_of (space_of s) s.start true) (columns_of s.start) call.caller = format_stopped (space_of s) s.start functions start call apart laid stop is.1.shows in
      let none : called_from (space_of s) places.code s.start true ≡ None = stepped_somewhere (space_of s) places.code s.start step.next step.answered in
      let why = stop_comes (space_of s) apart laid s.start s.limit functions start call calls is.1 in
      let unmarked : keeps_popped (space_of s) s.limit s.start true ≡ false = whole_unmarked (space_of s) s.limit s.start true w.0 w.1 in
      let front : IsFrontOf (space_of s) s.limit s.start true false (walked true start (call ∷ calls)) = record { states = refl; why = why; marked = refl } in (
        walked s.interrupted start (call ∷ calls),
        rw (is.0, none) (refl, plain_front (space_of s) s.limit s.start true (walked true start (call ∷ calls)) unmarked front),
        lines_are o places start (call ∷ calls) shown,
      )

  -- And so has that of a call to nowhere, whose caller the stack names.
  pub called_traced : IsWhole s.start → (o : Options) (places : PlacesValue) (functions : List Function) (start caller : State) (calls : List Call) → DescribesCallToNowhere s places functions start caller calls →
      (t : TraceValue) × IsTraceOf s places t × (text_of o s places t ≡ called_text o s places start caller calls)
  unfolding backtrace_text
  called_traced whole o places functions start caller calls is =
      let d = called_caller (space_of s) places.code s.start s.interrupted caller start whole is.nowhere is.entered (begins (space_of s).image (IsUncoveredBy (space_of s).image (formats_of (space_of s))) functions caller calls is.described.chain) is.returns is.shows in
      let short = is.shorter in
      let fewer : length calls < s.limit - 1 = omega arith in
      let starts : StartsChain (space_of s) d.0 (s.limit - 1) functions caller calls = record { described = is.described; shows = d.2; shorter = fewer } in
      let w = chain_walked (space_of s) d.0 (s.limit - 1) functions caller calls apart laid starts in
      let all : contexts_to_end (space_of s) (s.limit - 1) d.0 false ≡ w.0 = line_whole (space_of s) (s.limit - 1) (start_state d.0 false) w.0 w.1 in
      let shown : map state_of (contexts_to_end (space_of s) (s.limit - 1) d.0 false) ≡ states_of caller calls = rw all (shown_states w.0 (states_of caller calls) w.2.states) in
      let first : state_of s.start ≡ start = shown_state s.start start is.shows in
      let why = chain_comes (space_of s) apart laid d.0 (s.limit - 1) functions caller calls starts in (
        record { first = Some s.start; states = contexts_to_end (space_of s) (s.limit - 1) d.0 false; why = end_reason_of_chain (space_of s).modules (last_state caller calls); popped = false },
        rw d.1 (refl, record { states = refl; why = why; marked = refl }),
        rw (first, shown) refl,
      )
