-- What is delivered and walked of a snapshot whose tables describe a chain.
use Rattle.std.proofs.Common.{◌≡◌, List, ◌∷◌, Ok}
use Rattle.std.specs.Prelude.{map, IsFalse, IsTrue}
use Rattle.std.specs.List.{Contains}
use Rattle.memory_image.specs.Image.{IsLaidOut}
use Rattle.unwind_definitions.specs.State.{State}
use Rattle.unwind_definitions.specs.Function.{Function}
use Rattle.unwind_definitions.specs.Chain.{Call, states_of}
use Rattle.unwind_arch.specs.declared.x86_64.Context.{Context}
use Rattle.stack_steps.specs.Modules.{AreApart}
use Rattle.stack_deliver.specs.Searches.{met_in_delivery}
use Rattle.stack_deliver.specs.StateViews.{state_of}
use Rattle.stack_steps.specs.Stopped.{StartsStopped}
use Rattle.stack_walks.proofs.ChainWalked as walks
use Rattle.stack_walks.proofs.StoppedWalk.{stopped_walked}
use Rattle.stack_deliver.proofs.Chains as chains
use Rattle.stack_steps.proofs.ContextLemmas.{IsWhole}
use Rattle.stack_deliver.proofs.ChainDelivered.{DeliversChain}
use Rattle.stack_deliver.proofs.ChainDelivered as delivered
use Rattle.stack_walks.specs.Walking.{StartsChain}
use Rattle.folded_stacks.specs.declared.samples.Sample.{Sample}
use Rattle.folded_stacks.specs.Counts.{HasStack}
use Rattle.folded_stacks.specs.Folding.{chain_stack, fold_of}
use Rattle.folded_stacks.proofs.FoldedLines.{stack_has_line}
use Rattle.folded_stacks.proofs.Walks.{chain_stacked, stop_stacked}
use Rattle.stack_snapshot.specs.Content.{Content, space_of}
use Rattle.stack_snapshot.specs.Sampled.{SampledContent, sampled_space}
use Rattle.stack_snapshot.specs.Described.{DescribesChain, DescribesWalk, DescribesStop}
use Rattle.unwind_cli.specs.Due.{delivery_from, fold_from, walk_from}

-- What is delivered of a snapshot whose tables describe a chain is what the definition says of the chain.
pub chain_delivered : (s : Content) (functions : List Function) (start : State) (calls : List Call) → AreApart 0 (space_of s).modules → IsLaidOut 0 (space_of s).image → IsWhole s.start → DescribesChain s functions start calls →
    DeliversChain s.exception start calls (delivery_from s) (met_in_delivery (space_of s) s.start s.exception s.resumes s.limit)
unfolding delivery_from
chain_delivered s functions start calls apart laid whole is = delivered.chain_delivered (space_of s) s.start s.exception s.resumes s.limit functions start calls apart laid whole is

-- The walk over it visits the chain's states.
pub chain_walked : (s : Content) (functions : List Function) (start : State) (calls : List Call) → AreApart 0 (space_of s).modules → IsLaidOut 0 (space_of s).image → DescribesWalk s functions start calls →
    (cs : List Context) × (walk_from s ≡ Ok cs) × (map state_of cs ≡ states_of start calls)
unfolding walk_from
chain_walked s functions start calls apart laid is =
    let w = walks.chain_walked (space_of s) s.start s.limit functions start calls apart laid is.1 in
    (w.0, rw is.0 w.1, chains.shown_states w.0 (states_of start calls) w.2.states)

-- The folded stacks of samples have that of a sample that begins such a chain.
pub sample_folded : (s : SampledContent) (sample : Sample) (functions : List Function) (start : State) (calls : List Call) → AreApart 0 (sampled_space s).modules → IsLaidOut 0 (sampled_space s).image → Contains s.samples sample → IsFalse sample.interrupted
    → StartsChain (sampled_space s) sample.start s.limit functions start calls → HasStack (fold_from s).lines (chain_stack start calls)
unfolding fold_from fold_of
sample_folded s sample functions start calls apart laid has called starts =
    stack_has_line (sampled_space s) s.limit s.samples sample (chain_stack start calls) has (chain_stacked (sampled_space s) s.limit sample functions start calls apart laid starts called)

-- The walk from a stop in a described function visits its state and those of the chain.
pub stop_walked : (s : Content) (functions : List Function) (start : State) (call : Call) (calls : List Call) → AreApart 0 (space_of s).modules → IsLaidOut 0 (space_of s).image → DescribesStop s functions start call calls →
    (cs : List Context) × (walk_from s ≡ Ok cs) × (map state_of cs ≡ states_of start (call ∷ calls))
unfolding walk_from
stop_walked s functions start call calls apart laid is =
    let w = stopped_walked (space_of s) functions start call calls s.start apart laid s.limit is.1 in
    (w.0, rw is.0 w.1, chains.shown_states w.0 (states_of start (call ∷ calls)) w.2.states)

-- The folded stacks of samples have that of a sample that was stopped so.
pub stop_folded : (s : SampledContent) (sample : Sample) (functions : List Function) (start : State) (call : Call) (calls : List Call) → AreApart 0 (sampled_space s).modules → IsLaidOut 0 (sampled_space s).image → Contains s.samples sample → IsTrue sample.interrupted
    → StartsStopped (sampled_space s) sample.start s.limit functions start call calls → HasStack (fold_from s).lines (chain_stack start (call ∷ calls))
unfolding fold_from fold_of
stop_folded s sample functions start call calls apart laid has marked starts =
    stack_has_line (sampled_space s) s.limit s.samples sample (chain_stack start (call ∷ calls)) has (stop_stacked (sampled_space s) s.limit sample functions start call calls apart laid starts marked)
