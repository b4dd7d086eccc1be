use Rattle.fact_deliveries.proofs.OneDelivery.{one_delivery}
use Rattle.fact_deliveries.proofs.deliveries.known_delivery_is_one.Goals as goal

pub returns : goal.returns
returns c = one_delivery
