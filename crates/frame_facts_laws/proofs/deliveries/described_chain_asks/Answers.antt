use Rattle.frame_facts_laws.proofs.FromFunctions.{described_asked}
use Rattle.frame_facts_laws.proofs.deliveries.described_chain_asks.Goals as goal

pub returns : goal.returns
returns c p functions s calls is = described_asked p functions s calls is
