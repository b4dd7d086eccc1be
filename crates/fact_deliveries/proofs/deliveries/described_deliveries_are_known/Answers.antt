use Rattle.stack_deliver.proofs.DescribedDeliveries.{delivery_starts, delivered_alike}
use Rattle.fact_deliveries.proofs.deliveries.described_deliveries_are_known.Goals as goal

pub returns-clause-chain : goal.returns-clause-chain
returns-clause-chain c = delivery_starts

pub returns-clause-delivered : goal.returns-clause-delivered
returns-clause-delivered c = delivered_alike
