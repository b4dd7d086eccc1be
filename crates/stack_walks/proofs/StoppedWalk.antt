-- The walk from a state that was stopped in a described function, over the chain that its caller begins.
use Rattle.std.proofs.Common.{◌≡◌, ℕ, zero, suc, ◌<◌, true, List, [], ◌∷◌, length, Ok, refl, arith}
use Rattle.memory_image.specs.Image.{IsLaidOut}
use Rattle.unwind_definitions.specs.State.{State}
use Rattle.unwind_definitions.specs.Function.{Function}
use Rattle.unwind_definitions.specs.Chain.{Call, states_of, StacksRise}
use Rattle.format_definitions.specs.Modules.{part_of, IsUncoveredBy}
use Rattle.format_definitions.specs.Stops.{IsDescribedStop}
use Rattle.unwind_arch.specs.declared.x86_64.Context.{Context}
use Rattle.unwind_arch.specs.ContextViews.{columns_of}
use Rattle.stack_steps.specs.Modules.{SpaceValue, AreApart}
use Rattle.stack_steps.specs.SpaceViews.{formats_of}
use Rattle.stack_steps.specs.Stepping.{step_of}
use Rattle.stack_walks.specs.Lines.{line_of}
use Rattle.stack_steps.specs.Undoing.{UndoneIn}
use Rattle.stack_walks.specs.Walking.{ShowChain}
use Rattle.stack_steps.specs.Stopped.{StartsStopped}
use Rattle.stack_walks.proofs.ChainWalked.{chain_rises}
use Rattle.stack_walks.proofs.LineShows.{line_shows}
use Rattle.format_laws.proofs.Stopped.{stop_below}
use Rattle.stack_steps.proofs.MetCalls.{format_stopped}

-- one more state below a chain
rise_from : (s t : State) (calls : List Call) → s.sp < t.sp → StacksRise (states_of t calls) → StacksRise (s ∷ states_of t calls)
rise_from s t [] below rise = (below, rise)
rise_from s t (c ∷ calls) below rise = (below, rise)

module _ (space : SpaceValue) (functions : List Function) (s : State) (call : Call) (calls : List Call) (c : Context) (apart : AreApart 0 space.modules) (laid : IsLaidOut 0 space.image) where
  -- The line from the stopped state is that state and then the chain's.
  pub stopped_walked : (limit : ℕ) → StartsStopped space c limit functions s call calls → (cs : List Context) × (line_of space limit c true ≡ Ok cs) × ShowChain cs s (call ∷ calls)
  stopped_walked zero is = let short = is.shorter in absurd (omega arith)
  stopped_walked (suc room) is =
      let short = is.shorter in
      let fewer : length calls < room = omega arith in
      let stop : IsDescribedStop space.image (formats_of space) functions s call = is.stopped in
      let step : UndoneIn stop.lies.home (step_of space c true) (columns_of c) call.caller = format_stopped space c functions s call apart laid stop is.shows in
      let rest = line_shows space apart laid functions call.caller calls step.next.context room is.described.chain is.described.described step.shows fewer in
      let below = stop_below space.image s call stop.lies.home (part_of stop.lies.home functions) stop.lies.describes stop.stands in
      let rise = chain_rises space.image (IsUncoveredBy space.image (formats_of space)) functions call.caller calls is.described.chain in (
        c ∷ rest.0,
        rw (step.answered, step.unmarked, rest.1) refl,
        record { states = (is.shows, rest.2); rise = rise_from s call.caller calls below rise },
      )
