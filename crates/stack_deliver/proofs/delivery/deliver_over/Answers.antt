use Rattle.stack_steps.specs.Languages.{rust_alone}
use Rattle.stack_steps.specs.declared.error.DeliverError.TheVariants.{NoMemory}
use Rattle.stack_deliver.specs.StackDelivery.{DeliveryValue}
use Rattle.stack_deliver.specs.KnownDeliveries.{ShowsKnownDelivery}
use Rattle.stack_deliver.proofs.DeliverFaults.{delivery_memory}
use Rattle.stack_deliver.proofs.DeliveryResults.{delivered_fault, ending_delivered}
use Rattle.stack_deliver.proofs.KnownDelivered.{known_delivered}
use Rattle.stack_deliver.proofs.delivery.deliver_over.Goals as goal

pub returns-clause-takes_no_memory : goal.returns-clause-takes_no_memory
returns-clause-takes_no_memory g c e = delivery_memory c.args.space.now rust_alone c.args.start.now c.args.exception c.args.resumes.now c.args.limit (delivered_fault c.fresh_delivery.result c.fresh_delivery.new.room _ NoMemory c.fresh_delivery.ensures.exact e)

pub returns-clause-known : goal.returns-clause-known
returns-clause-known g c s callers frames starts =
    let d = known_delivered c.args.space.now c.args.start.now c.args.exception c.args.resumes.now c.args.limit s callers frames c.image.ensures.apart c.image.ensures.laid_out c.fresh_delivery.ensures.whole starts in
    ending_delivered c.fresh_delivery.result c.fresh_delivery.new.room _ d.delivered (λ (x : DeliveryValue). ShowsKnownDelivery x c.args.exception s callers frames) c.fresh_delivery.ensures.exact d.is d.shows
