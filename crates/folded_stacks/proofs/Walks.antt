-- The stacks of walks over described chains, and of stops from which such chains begin.
use Rattle.std.proofs.Common.{◌≡◌, ℕ, Bool, true, false, List, [], ◌∷◌, Option, Some, None, Ok, Err, refl, ap, ◌∙◌}
use Rattle.std.specs.Prelude.{map, is_none}
use Rattle.std.specs.List.{count_by, filter_map}
use Rattle.memory_image.specs.Image.{IsLaidOut}
use Rattle.unwind_definitions.specs.State.{State}
use Rattle.unwind_definitions.specs.Function.{Function}
use Rattle.unwind_definitions.specs.Chain.{Call, states_of}
use Rattle.unwind_arch.specs.declared.x86_64.Context.{Context}
use Rattle.stack_steps.specs.declared.error.DeliverError.{DeliverError}
use Rattle.stack_steps.specs.Modules.{SpaceValue, AreApart}
use Rattle.stack_steps.specs.Stopped.{StartsStopped}
use Rattle.stack_walks.specs.Lines.{line_of}
use Rattle.stack_walks.specs.Walking.{EachShows, StartsChain}
use Rattle.stack_walks.proofs.ChainWalked.{chain_walked}
use Rattle.stack_walks.proofs.StoppedWalk.{stopped_walked}
use Rattle.folded_stacks.specs.declared.samples.Sample.{Sample}
use Rattle.folded_stacks.specs.Counts.{FoldedValue, counts_of}
use Rattle.folded_stacks.specs.Folding.{chain_stack, fold_of, stack_in, walked_stack}
use Rattle.folded_stacks.specs.Stacks.{outermost_first, stack_of, stack_shown}

returns_shown : (cs : List Context) (ss : List State) → EachShows cs ss → map (λ (c : Context). c.ra) cs ≡ map (λ (s : State). s.ra) ss
returns_shown [] [] each = refl
returns_shown (c ∷ cs) (s ∷ ss) each =
    let ra : c.ra ≡ s.ra = let e = each.0.ra in cc in
    let later = returns_shown cs ss each.1 in
    λ i. ra i ∷ later i
returns_shown [] (s ∷ ss) each = absurd each
returns_shown (c ∷ cs) [] each = absurd each

-- the stack of contexts that show states is these states' stack
pub stack_is : (cs : List Context) (ss : List State) → EachShows cs ss → stack_of cs ≡ stack_shown ss
stack_is cs ss each = ap outermost_first (returns_shown cs ss each)

pub walked_by : (space : SpaceValue) (limit : ℕ) (s : Sample) (cs : List Context) → line_of space limit s.start s.interrupted ≡ Ok cs → walked_stack space limit s ≡ Some (stack_of cs)
unfolding walked_stack
walked_by space limit s cs is = rw is refl

pub refused_by : (space : SpaceValue) (limit : ℕ) (s : Sample) (e : DeliverError) → line_of space limit s.start s.interrupted ≡ Err e → walked_stack space limit s ≡ None
unfolding walked_stack
refused_by space limit s e is = rw is refl

pub chain_stacked : (space : SpaceValue) (limit : ℕ) (sample : Sample) (functions : List Function) (s : State) (calls : List Call) → AreApart 0 space.modules → IsLaidOut 0 space.image
    → StartsChain space sample.start limit functions s calls → sample.interrupted ≡ false → walked_stack space limit sample ≡ Some (chain_stack s calls)
chain_stacked space limit sample functions s calls apart laid starts called =
    let w = chain_walked space sample.start limit functions s calls apart laid starts in
    walked_by space limit sample w.0 (rw called w.1) ∙ ap Some (stack_is w.0 (states_of s calls) w.2.states)

pub stop_stacked : (space : SpaceValue) (limit : ℕ) (sample : Sample) (functions : List Function) (s : State) (call : Call) (calls : List Call) → AreApart 0 space.modules → IsLaidOut 0 space.image
    → StartsStopped space sample.start limit functions s call calls → sample.interrupted ≡ true → walked_stack space limit sample ≡ Some (chain_stack s (call ∷ calls))
stop_stacked space limit sample functions s call calls apart laid starts marked =
    let w = stopped_walked space functions s call calls sample.start apart laid limit starts in
    walked_by space limit sample w.0 (rw marked w.1) ∙ ap Some (stack_is w.0 (states_of s (call ∷ calls)) w.2.states)

-- spaces over which walks are the same fold the same
pub fold_same : (a b : SpaceValue) (limit : ℕ) (samples : List Sample) → ((start : Context) (interrupted : Bool) → line_of a limit start interrupted ≡ line_of b limit start interrupted) → fold_of a limit samples ≡ fold_of b limit samples
unfolding fold_of walked_stack
fold_same a b limit samples alike =
    let folded : (Sample → Option (List ℕ)) → FoldedValue = λ stack. record { lines = counts_of (filter_map stack samples); refused = count_by (λ s. is_none (stack s)) samples } in
    ap folded (λ i s. stack_in (alike s.start s.interrupted i))
