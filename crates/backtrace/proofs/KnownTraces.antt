-- The trace of a snapshot that begins a known stack.
use Rattle.std.proofs.Common.{◌≡◌, ℕ, ◌-◌, ◌<◌, Bool, false, List, [], ◌∷◌, length, Some, None, refl, arith}
use Rattle.std.specs.Prelude.{map}
use Rattle.memory_image.specs.Image.{IsLaidOut}
use Rattle.unwind_definitions.specs.State.{State}
use Rattle.stack_steps.specs.Modules.{SpaceValue, AreApart}
use Rattle.stack_steps.specs.KnownStacks.{is_by_signal, IsKnownStack}
use Rattle.stack_steps.proofs.ContextLemmas.{IsWhole}
use Rattle.stack_walks.specs.declared.walk_end.EndReason.TheVariants.{Outermost}
use Rattle.stack_walks.specs.WalkEnds.{start_state, contexts_to_end}
use Rattle.stack_walks.specs.KnownWalks.{StartsKnownStack, end_reason_of_stack}
use Rattle.stack_walks.proofs.KnownLines.{called_state, known_walked, known_comes}
use Rattle.stack_walks.proofs.EndAnswers.{line_whole}
use Rattle.stack_deliver.specs.StateViews.{state_of}
use Rattle.stack_deliver.proofs.Chains.{shown_state, shown_states}
use Rattle.stack_snapshot.specs.Content.{Content, space_of}
use Rattle.backtrace.specs.Code.{PlacesValue}
use Rattle.backtrace.specs.declared.options.Options.{Options}
use Rattle.backtrace.specs.Tracing.{TraceValue, IsFrontOf, called_from, is_nowhere, keeps_popped}
use Rattle.backtrace.specs.Lines.{backtrace_text}
use Rattle.backtrace.specs.Due.{IsTraceOf, text_of}
use Rattle.backtrace.specs.KnownStacks.{BeginsKnownStack, BeginsByCallToNowhere, stack_text, called_stack_text}
use Rattle.backtrace.proofs.Chains.{called_caller}
use Rattle.backtrace.proofs.PoppedTraces.{plain_front, whole_unmarked}

-- where the outermost state returns to
abbrev pub last_returns : State → List State → ℕ
last_returns s [] = s.ra
last_returns s (t ∷ callers) = last_returns t callers

module _ (s : Content) (apart : AreApart 0 (space_of s).modules) (laid : IsLaidOut 0 (space_of s).image) where
  -- of a walk that begins at the start
  abbrev walked : (places : PlacesValue) (start : State) (callers : List State) → BeginsKnownStack s places start callers → TraceValue
  walked places start callers is =
      record { first = None; states = contexts_to_end (space_of s) s.limit s.start s.interrupted; why = end_reason_of_stack (space_of s) s.interrupted start callers is.starts.stack; popped = false }

  lines_are : (o : Options) (places : PlacesValue) (start : State) (callers : List State) (is : BeginsKnownStack s places start callers) →
      map state_of (contexts_to_end (space_of s) s.limit s.start s.interrupted) ≡ start ∷ callers → text_of o s places (walked places start callers is) ≡ stack_text o s places start callers is
  unfolding backtrace_text
  lines_are o places start callers is shown = rw shown refl

  -- It has the states of the stack, and the lines are theirs.
  pub stack_traced : (o : Options) (places : PlacesValue) (start : State) (callers : List State) (is : BeginsKnownStack s places start callers) →
      (t : TraceValue) × IsTraceOf s places t × (text_of o s places t ≡ stack_text o s places start callers is)
  stack_traced o places start callers is =
      let w = known_walked (space_of s) apart laid s.start s.limit s.interrupted start callers is.starts in
      let all : contexts_to_end (space_of s) s.limit s.start s.interrupted ≡ w.0 = line_whole (space_of s) s.limit (start_state s.start s.interrupted) w.0 w.1 in
      let shown : map state_of (contexts_to_end (space_of s) s.limit s.start s.interrupted) ≡ start ∷ callers = rw all (shown_states w.0 (start ∷ callers) w.2.each) in
      let why = known_comes (space_of s) apart laid s.start s.limit s.interrupted start callers is.starts in
      let somewhere : is_nowhere (space_of s) places.code s.start s.interrupted ≡ false = is.somewhere in
      let none : called_from (space_of s) places.code s.start s.interrupted ≡ None = rw somewhere refl in
      let unmarked : keeps_popped (space_of s) s.limit s.start s.interrupted ≡ false = whole_unmarked (space_of s) s.limit s.start s.interrupted w.0 w.1 in
      let front : IsFrontOf (space_of s) s.limit s.start s.interrupted false (walked places start callers is) = record { states = refl; why = why; marked = refl } in (
        walked places start callers is,
        rw none (refl, plain_front (space_of s) s.limit s.start s.interrupted (walked places start callers is) unmarked front),
        lines_are o places start callers is shown,
      )

  -- And so has that of a call to nowhere, whose caller the stack names.
  pub called_stack_traced : IsWhole s.start → (o : Options) (places : PlacesValue) (start caller : State) (callers : List State) (is : BeginsByCallToNowhere s places start caller callers) →
      (t : TraceValue) × IsTraceOf s places t × (text_of o s places t ≡ called_stack_text o s places start caller callers is)
  unfolding backtrace_text
  called_stack_traced whole o places start caller callers is =
      let d = called_caller (space_of s) places.code s.start s.interrupted caller start whole is.nowhere is.entered (called_state (space_of s) caller callers is.stack) is.returns is.shows in
      let short = is.shorter in
      let fewer : length callers < s.limit - 1 = omega arith in
      let starts : StartsKnownStack (space_of s) d.0 (s.limit - 1) false caller callers = record { stack = is.stack; shows = d.2; shorter = fewer } in
      let w = known_walked (space_of s) apart laid d.0 (s.limit - 1) false caller callers starts in
      let all : contexts_to_end (space_of s) (s.limit - 1) d.0 false ≡ w.0 = line_whole (space_of s) (s.limit - 1) (start_state d.0 false) w.0 w.1 in
      let shown : map state_of (contexts_to_end (space_of s) (s.limit - 1) d.0 false) ≡ caller ∷ callers = rw all (shown_states w.0 (caller ∷ callers) w.2.each) in
      let first : state_of s.start ≡ start = shown_state s.start start is.shows in
      let why = known_comes (space_of s) apart laid d.0 (s.limit - 1) false caller callers starts in (
        record { first = Some s.start; states = contexts_to_end (space_of s) (s.limit - 1) d.0 false; why = end_reason_of_stack (space_of s) false caller callers is.stack; popped = false },
        rw d.1 (refl, record { states = refl; why = why; marked = refl }),
        rw (first, shown) refl,
      )

-- A stack whose outermost state returns to 0 ends there, whether or not that state was interrupted.
pub ends_outermost : (space : SpaceValue) (interrupted : Bool) (s : State) (callers : List State) (stack : IsKnownStack space interrupted s callers) → last_returns s callers ≡ 0 → end_reason_of_stack space interrupted s callers stack ≡ Outermost
ends_outermost space interrupted s [] stack none = rw none refl
ends_outermost space interrupted s (t ∷ callers) stack none = ends_outermost space (is_by_signal space interrupted s t stack.0) t callers stack.1 none
