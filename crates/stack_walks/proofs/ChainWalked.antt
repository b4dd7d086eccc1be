-- What a walk over a described chain visits.
use Rattle.std.proofs.Common.{◌≡◌, ℕ, false, List, [], ◌∷◌, Ok}
use Rattle.memory_image.specs.Image.{Span, IsLaidOut}
use Rattle.unwind_definitions.specs.State.{State}
use Rattle.unwind_definitions.specs.Function.{Function}
use Rattle.unwind_definitions.specs.Chain.{Call, IsChain, states_of, StacksRise}
use Rattle.unwind_definitions.specs.Prologue.{steps_of}
use Rattle.format_definitions.specs.Modules.{IsUncoveredBy, IsDescribedChain}
use Rattle.unwind_laws.proofs.Undo.{rises}
use Rattle.unwind_arch.specs.declared.x86_64.Context.{Context}
use Rattle.stack_steps.specs.Modules.{SpaceValue, AreApart}
use Rattle.stack_steps.specs.SpaceViews.{formats_of}
use Rattle.stack_walks.specs.Lines.{line_of}
use Rattle.stack_walks.specs.Walking.{StartsChain, ShowChain}
use Rattle.stack_walks.proofs.LineShows.{line_shows}

-- the stack pointers of a chain strictly rise
pub chain_rises : (image : List Span) (Uncovered : ℕ → Type 0) (functions : List Function) (s : State) (calls : List Call) → IsChain image Uncovered functions s calls → StacksRise (states_of s calls)
chain_rises image Uncovered functions s [] chain = tt
chain_rises image Uncovered functions s (c ∷ []) chain = (rises image c.callee.outermost (steps_of c.callee.prologue) c.caller s chain.0.called.entered, tt)
chain_rises image Uncovered functions s (c ∷ d ∷ calls) chain =
    (rises image c.callee.outermost (steps_of c.callee.prologue) c.caller s chain.0.called.entered, chain_rises image Uncovered functions c.caller (d ∷ calls) chain.1)

-- the walk over a chain that the limit has room for
pub chain_walked : (space : SpaceValue) (c : Context) (limit : ℕ) (functions : List Function) (s : State) (calls : List Call) → AreApart 0 space.modules → IsLaidOut 0 space.image → StartsChain space c limit functions s calls →
    (cs : List Context) × (line_of space limit c false ≡ Ok cs) × ShowChain cs s calls
chain_walked space c limit functions s calls apart laid is =
    let chain : IsDescribedChain space.image (formats_of space) functions s calls = is.described in
    let line = line_shows space apart laid functions s calls c limit chain.chain chain.described is.shows is.shorter in
    (line.0, line.1, record { states = line.2; rise = chain_rises space.image (IsUncoveredBy space.image (formats_of space)) functions s calls chain.chain })
