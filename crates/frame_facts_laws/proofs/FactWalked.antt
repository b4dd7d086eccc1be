-- A chain of facts is walked.
use Rattle.std.proofs.Common.{Bool, false, List, [], ◌∷◌}
use Rattle.unwind_definitions.specs.Caller.{Evaluates, Columns}
use Rattle.unwind_definitions.specs.State.{State, IsState, Shows}
use Rattle.unwind_definitions.specs.Module.{Process}
use Rattle.unwind_definitions.specs.Chain.{StacksRise}
use Rattle.frame_facts.specs.FactChains.{FactFrame, address_asked, chain_states, IsFactLink, IsFactChain}
use Rattle.frame_facts_laws.specs.FactWalks.{StepsOut, IsFactWalk}
use Rattle.frame_facts_laws.proofs.FactSteps.{steps_out}

module _ (p : Process) where
  pub chain_state : (interrupted : Bool) (s : State) (frames : List FactFrame) → IsFactChain p interrupted s frames → IsState s
  chain_state interrupted s [] chain = chain.state
  chain_state interrupted s (f ∷ frames) chain = chain.0.state

  -- From columns that show its start, step by step to its end.
  pub facts_walked : (evaluates : Evaluates) (interrupted : Bool) (s : State) (frames : List FactFrame) (columns : Columns) → IsFactChain p interrupted s frames → Shows columns s → IsFactWalk p evaluates interrupted columns s frames
  facts_walked evaluates interrupted s [] columns chain shows = (shows, chain)
  facts_walked evaluates interrupted s (f ∷ frames) columns chain shows =
      let link : IsFactLink p interrupted s f = chain.0 in
      let step : StepsOut p evaluates columns (address_asked interrupted s) f.caller =
      steps_out p evaluates (address_asked interrupted s) f.facts s f.caller columns link.said link.stands (chain_state false f.caller frames chain.1) shows in
      (shows, link.returns, link.stands.below, (step, facts_walked evaluates false f.caller frames step.undoes.caller chain.1 step.undoes.shows))

  -- stack pointers strictly rise
  pub facts_rise : (interrupted : Bool) (s : State) (frames : List FactFrame) → IsFactChain p interrupted s frames → StacksRise (chain_states s frames)
  facts_rise interrupted s [] chain = tt
  facts_rise interrupted s (f ∷ []) chain = (chain.0.stands.below, tt)
  facts_rise interrupted s (f ∷ g ∷ frames) chain = (chain.0.stands.below, facts_rise false f.caller (g ∷ frames) chain.1)
