use Rattle.frame_facts_laws.proofs.FactSteps.{steps_to_interrupted}
use Rattle.frame_facts_laws.proofs.chains.signal_frame_gives_the_interrupted_state.Goals as goal

pub returns : goal.returns
returns c p a frame s t columns said stands shows general = steps_to_interrupted p a frame s t columns said stands shows general
