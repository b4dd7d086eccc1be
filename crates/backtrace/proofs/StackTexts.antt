-- A stack has one backtrace, with frame pointers and without.
use Rattle.std.proofs.Common.{◌≡◌, ℕ, ◌-◌, Bool, true, false, ◌&&◌, List, [], length, Option, Some, None, refl, sym, ap, subst, ◌∙◌, arith}
use Rattle.std.specs.Prelude.{if◌then◌else◌, option_and_then}
use Rattle.unwind_arch.specs.declared.x86_64.Context.{Context}
use Rattle.stack_steps.specs.Modules.{SpaceValue}
use Rattle.stack_walks.specs.WalkEnds.{start_state, contexts_to_end}
use Rattle.stack_walks.proofs.EndAnswers.{one_front}
use Rattle.stack_walks.proofs.EndThere.{end_there}
use Rattle.backtrace.specs.Code.{CodeValue, PlacesValue}
use Rattle.backtrace.specs.declared.options.Options.{Options}
use Rattle.backtrace.specs.Tracing.{TraceValue, IsTrace, IsTraceFrom, called_from, keeps_popped, start_space}
use Rattle.backtrace.specs.FramePointers.{is_without_table, caller_by_pointer, last_of, guess_after, AreGuesses}
use Rattle.backtrace.specs.Lines.{backtrace_text, contexts_of, states_text, traces_text}
use Rattle.backtrace.specs.Stacks.{IsStackText}
use Rattle.backtrace.proofs.Guesses.{same_parts, one_guesses, guesses_there}

-- ---- one trace

one_from : (o : Option Context) (space : SpaceValue) (c : Context) (interrupted : Bool) (limit : ℕ) (t u : TraceValue) → IsTraceFrom o space c interrupted limit t → IsTraceFrom o space c interrupted limit u → t ≡ u
one_from None space c interrupted limit t u is other =
    same_parts t u (is.0 ∙ sym other.0) (is.1.states ∙ sym other.1.states) (one_front (start_space space limit c interrupted) limit (start_state c interrupted) t.why u.why is.1.why other.1.why) (is.1.marked ∙ sym other.1.marked)
one_from (Some d) space c interrupted limit t u is other =
    same_parts t u (is.0 ∙ sym other.0) (is.1.states ∙ sym other.1.states) (one_front space (limit - 1) (start_state d false) t.why u.why is.1.why other.1.why) (is.1.marked ∙ sym other.1.marked)

pub one_traced : (space : SpaceValue) (code : List CodeValue) (c : Context) (interrupted : Bool) (limit : ℕ) (t u : TraceValue) → IsTrace space code c interrupted limit t → IsTrace space code c interrupted limit u → t ≡ u
one_traced space code c interrupted limit t u is other = one_from (called_from space code c interrupted) space c interrupted limit t u is other

-- and it is there
from_there : (o : Option Context) (space : SpaceValue) (c : Context) (interrupted : Bool) (limit : ℕ) → (t : TraceValue) × IsTraceFrom o space c interrupted limit t
from_there None space c interrupted limit =
    let memory = start_space space limit c interrupted in
    let front = end_there memory limit c interrupted in
    (record { first = None; states = contexts_to_end memory limit c interrupted; why = front.0; popped = keeps_popped space limit c interrupted }, (refl, record { states = refl; why = front.1; marked = refl }))
from_there (Some caller) space c interrupted limit =
    let front = end_there space (limit - 1) caller false in
    (record { first = Some c; states = contexts_to_end space (limit - 1) caller false; why = front.0; popped = false }, (refl, record { states = refl; why = front.1; marked = refl }))

traced_there : (space : SpaceValue) (code : List CodeValue) (c : Context) (interrupted : Bool) (limit : ℕ) → (t : TraceValue) × IsTrace space code c interrupted limit t
traced_there space code c interrupted limit = from_there (called_from space code c interrupted) space c interrupted limit

-- ---- one text

-- where frame pointers aren't asked for, no trace goes on
pub none_unasked : (space : SpaceValue) (code : List CodeValue) (t : TraceValue) → guess_after false space code t ≡ None
none_unasked space code t = go (is_without_table code t.why)
  where
    go : (b : Bool) → (if b && false then option_and_then (caller_by_pointer space code) (last_of t.states) else None) ≡ None
    go true = refl
    go false = refl

module _ (o : Options) (space : SpaceValue) (limit : ℕ) (places : PlacesValue) (c : Context) (interrupted : Bool) where
  pub one_stack_text : (x y : List ℕ) → IsStackText o space limit places c interrupted x → IsStackText o space limit places c interrupted y → x ≡ y
  one_stack_text x y is other =
      let traced : is.0 ≡ other.0 = one_traced space places.code c interrupted limit is.0 other.0 is.2 other.2 in
      let moved : AreGuesses o.frame_pointers space places.code limit (length (contexts_of is.0)) is.0 other.1 =
      subst (λ (t : TraceValue). AreGuesses o.frame_pointers space places.code limit (length (contexts_of t)) t other.1) (sym traced) other.3 in
      let guesses : is.1 ≡ other.1 = one_guesses o.frame_pointers space places.code limit (length (contexts_of is.0)) is.0 is.1 other.1 is.3 moved in
      is.4 ∙ (ap (λ (t : TraceValue). traces_text o.registers interrupted places t is.1) traced ∙ (ap (λ (ts : List TraceValue). traces_text o.registers interrupted places other.0 ts) guesses ∙ sym other.4))

  pub stack_text_there : (text : List ℕ) × IsStackText o space limit places c interrupted text
  stack_text_there =
      let trace = traced_there space places.code c interrupted limit in
      let n = length (contexts_of trace.0) in
      let guesses = guesses_there o.frame_pointers space places.code limit limit n trace.0 (omega arith) in
      (traces_text o.registers interrupted places trace.0 guesses.0, (trace.0, guesses.0, trace.1, guesses.1, refl))

  -- with frame pointers it is that of a trace and of the walks that go on from it
  pub pointers_text : o.frame_pointers ≡ true → (t : TraceValue) (ts : List TraceValue) → IsTrace space places.code c interrupted limit t → AreGuesses true space places.code limit (length (contexts_of t)) t ts →
      IsStackText o space limit places c interrupted (traces_text o.registers interrupted places t ts)
  pointers_text asked t ts is guesses =
      (t, ts, is, subst (λ (b : Bool). AreGuesses b space places.code limit (length (contexts_of t)) t ts) (sym asked) guesses, refl)

  -- without them it is the trace's
  pub tables_text : o.frame_pointers ≡ false → (t : TraceValue) → IsTrace space places.code c interrupted limit t → IsStackText o space limit places c interrupted (backtrace_text o.registers interrupted places t)
  unfolding backtrace_text states_text traces_text
  tables_text unasked t is =
      (t, [], is, subst (λ (b : Bool). guess_after b space places.code t ≡ None) (sym unasked) (none_unasked space places.code t), refl)

  pub by_tables : o.frame_pointers ≡ false → (t : TraceValue) (text : List ℕ) → IsTrace space places.code c interrupted limit t → IsStackText o space limit places c interrupted text → text ≡ backtrace_text o.registers interrupted places t
  by_tables unasked t text is all = one_stack_text text (backtrace_text o.registers interrupted places t) all (tables_text unasked t is)
