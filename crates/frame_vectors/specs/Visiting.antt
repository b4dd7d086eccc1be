-- What the stops and traces of these tests answer, by the words that they hold.
use Rattle.std.specs.Prelude.{ℕ, ◌+◌, ◌%◌, ◌^◌, ◌==◌, Bool, List, [], ◌∷◌, if◌then◌else◌}
use Rattle.std.specs.Int.{w32, cast_unsigned}
use Rattle.std.specs.Option.{unwrap_or}
use Rattle.unwinding_frames.specs.declared.abi.UnwindReasonCode.{UnwindReasonCode}
use Rattle.unwinding_frames.specs.declared.abi.TheConstants.UnwindReasonCode.{NO_REASON, NORMAL_STOP}
use Rattle.unwinding_frames.specs.ContextSeen.{ContextSeen}
use Rattle.unwinding_core.specs.Stopping.{StopAsked, StopAnswer, TraceAnswer}

-- whether it refuses, the calls so far, and what the first and the last of them were for
abbrev pub visit : Bool → ℕ → ℕ → ℕ → List ℕ
visit refuses calls first last = (if refuses then 1 else 0) ∷ calls ∷ first ∷ last ∷ []

abbrev pub answer_of : ℕ → UnwindReasonCode
answer_of refuses = if refuses == 0 then NO_REASON else NORMAL_STOP

-- one more call
abbrev pub visit_answer : List ℕ → ℕ → UnwindReasonCode × List ℕ
visit_answer (refuses ∷ calls ∷ first ∷ last ∷ []) now = (answer_of refuses, refuses ∷ ((calls + 1) % 2 ^ 64) ∷ (if calls == 0 then now else first) ∷ now ∷ [])
visit_answer words now = (NO_REASON, words)

abbrev pub by_actions : List ℕ → StopAsked → ContextSeen → StopAnswer
by_actions words asked seen = let v = visit_answer words (cast_unsigned w32 asked.actions.0) in (v.0, seen.columns, v.1)

abbrev pub by_address : List ℕ → ContextSeen → TraceAnswer
by_address words seen = visit_answer words (unwrap_or (seen.columns 16) 0)
