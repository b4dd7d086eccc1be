use Rattle.unwind_definitions.specs.Module.{IsUncovered}
use Rattle.frame_facts_laws.proofs.FactsAsked.{same_delivered, frames_fit}
use Rattle.frame_facts_laws.proofs.deliveries.calls_are_delivered_alike.Goals as goal

pub returns : goal.returns
returns c p functions s calls exception chain = same_delivered exception s calls (frames_fit p.image (IsUncovered p) functions s calls chain)
