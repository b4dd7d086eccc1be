use Rattle.frame_facts_laws.proofs.FactSteps.{steps_out}
use Rattle.frame_facts_laws.proofs.chains.frame_with_facts_is_undone.Goals as goal

pub returns : goal.returns
returns c p evaluates a facts s t columns said stands words shows = steps_out p evaluates a facts s t columns said stands words shows
