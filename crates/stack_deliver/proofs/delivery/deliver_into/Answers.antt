use Rattle.std.proofs.Common.{◌≡◌, subst}
use Rattle.stack_steps.specs.Languages.{rust_alone}
use Rattle.stack_deliver.proofs.Over.{delivered_over, met_over}
use Rattle.stack_steps.specs.declared.error.DeliverError.TheVariants.{NoMemory, Unmapped}
use Rattle.stack_deliver.specs.Causes.{EndsBy}
use Rattle.stack_deliver.specs.StackDelivery.{DeliveryValue}
use Rattle.stack_deliver.specs.Delivering.{ShowsDelivery}
use Rattle.stack_deliver.specs.KnownDeliveries.{ShowsKnownDelivery}
use Rattle.stack_deliver.specs.Searches.{met_in_delivery}
use Rattle.stack_steps.proofs.Counted.{rises_up_to}
use Rattle.stack_deliver.proofs.DeliverFaults.{delivery_unmapped, delivery_memory}
use Rattle.stack_deliver.proofs.OneHeader.{counts_within}
use Rattle.stack_deliver.proofs.SearchCounts.{few_in_delivery}
use Rattle.stack_deliver.proofs.DeliveryResults.{delivered_fault, fault_delivered, ending_delivered, few_delivered, delivered_ending}
use Rattle.stack_deliver.proofs.DeliveryAnswers.{refused_why, why_refused, ended_by, by_end}
use Rattle.stack_deliver.proofs.ChainDelivered.{chain_delivered}
use Rattle.stack_deliver.proofs.KnownDelivered.{known_delivered}
use Rattle.stack_deliver.proofs.delivery.deliver_into.Goals as goal

pub returns-clause-unmapped : goal.returns-clause-unmapped
returns-clause-unmapped g c a e = delivery_unmapped c.args.space.now rust_alone c.args.start.now c.args.exception c.args.resumes.now c.args.limit a (delivered_fault c.fresh_delivery.result c.fresh_delivery.new.room _ (Unmapped a) (delivered_over rust_alone c.over_own_image-own.result c.args.space.now c.fresh_delivery.result c.fresh_delivery.new.room c.args.start.now c.args.exception c.args.resumes.now c.args.limit c.over_own_image-own.ensures c.fresh_delivery.ensures.exact) e)

pub returns-clause-takes_no_memory : goal.returns-clause-takes_no_memory
returns-clause-takes_no_memory g c e = delivery_memory c.args.space.now rust_alone c.args.start.now c.args.exception c.args.resumes.now c.args.limit (delivered_fault c.fresh_delivery.result c.fresh_delivery.new.room _ NoMemory (delivered_over rust_alone c.over_own_image-own.result c.args.space.now c.fresh_delivery.result c.fresh_delivery.new.room c.args.start.now c.args.exception c.args.resumes.now c.args.limit c.over_own_image-own.ensures c.fresh_delivery.ensures.exact) e)

pub returns-clause-chain : goal.returns-clause-chain
returns-clause-chain g c functions s calls starts =
    let d = chain_delivered c.args.space.now c.args.start.now c.args.exception c.args.resumes.now c.args.limit functions s calls c.image.ensures.apart c.image.ensures.laid_out c.fresh_delivery.ensures.whole starts in
    ending_delivered c.fresh_delivery.result c.fresh_delivery.new.room _ d.delivered (λ (x : DeliveryValue). ShowsDelivery x c.args.exception s calls) (delivered_over rust_alone c.over_own_image-own.result c.args.space.now c.fresh_delivery.result c.fresh_delivery.new.room c.args.start.now c.args.exception c.args.resumes.now c.args.limit c.over_own_image-own.ensures c.fresh_delivery.ensures.exact) d.is d.shows

pub returns-clause-known : goal.returns-clause-known
returns-clause-known g c s callers frames starts =
    let d = known_delivered c.args.space.now c.args.start.now c.args.exception c.args.resumes.now c.args.limit s callers frames c.image.ensures.apart c.image.ensures.laid_out c.fresh_delivery.ensures.whole starts in
    ending_delivered c.fresh_delivery.result c.fresh_delivery.new.room _ d.delivered (λ (x : DeliveryValue). ShowsKnownDelivery x c.args.exception s callers frames) (delivered_over rust_alone c.over_own_image-own.result c.args.space.now c.fresh_delivery.result c.fresh_delivery.new.room c.args.start.now c.args.exception c.args.resumes.now c.args.limit c.over_own_image-own.ensures c.fresh_delivery.ensures.exact) d.is d.shows

pub returns-clause-ticks : goal.returns-clause-ticks
returns-clause-ticks g c =
    rises_up_to c.args.space.now _ _ _ _ (few_in_delivery rust_alone c.args.space.now c.args.start.now c.args.exception c.args.resumes.now c.args.limit) (met_over rust_alone c.over_own_image-own.result c.args.space.now c.args.start.now c.args.exception c.args.resumes.now c.args.limit c.args.steps.now.number c.fresh_delivery.new.steps.number c.over_own_image-own.ensures c.fresh_delivery.ensures.ticks)

pub returns-clause-chain_searches : goal.returns-clause-chain_searches
returns-clause-chain_searches g c functions s calls starts =
    let d = chain_delivered c.args.space.now c.args.start.now c.args.exception c.args.resumes.now c.args.limit functions s calls c.image.ensures.apart c.image.ensures.laid_out c.fresh_delivery.ensures.whole starts in
    let few = few_delivered c.fresh_delivery.result c.fresh_delivery.new.room _ d.delivered (met_in_delivery c.args.space.now c.args.start.now c.args.exception c.args.resumes.now c.args.limit) (delivered_over rust_alone c.over_own_image-own.result c.args.space.now c.fresh_delivery.result c.fresh_delivery.new.room c.args.start.now c.args.exception c.args.resumes.now c.args.limit c.over_own_image-own.ensures c.fresh_delivery.ensures.exact) d.is d.few in
    rises_up_to c.args.space.now _ _ _ _ few (met_over rust_alone c.over_own_image-own.result c.args.space.now c.args.start.now c.args.exception c.args.resumes.now c.args.limit c.args.steps.now.number c.fresh_delivery.new.steps.number c.over_own_image-own.ensures c.fresh_delivery.ensures.ticks)

pub returns-clause-known_searches : goal.returns-clause-known_searches
returns-clause-known_searches g c s callers frames starts =
    let d = known_delivered c.args.space.now c.args.start.now c.args.exception c.args.resumes.now c.args.limit s callers frames c.image.ensures.apart c.image.ensures.laid_out c.fresh_delivery.ensures.whole starts in
    let few = few_delivered c.fresh_delivery.result c.fresh_delivery.new.room _ d.delivered (met_in_delivery c.args.space.now c.args.start.now c.args.exception c.args.resumes.now c.args.limit) (delivered_over rust_alone c.over_own_image-own.result c.args.space.now c.fresh_delivery.result c.fresh_delivery.new.room c.args.start.now c.args.exception c.args.resumes.now c.args.limit c.over_own_image-own.ensures c.fresh_delivery.ensures.exact) d.is d.few in
    rises_up_to c.args.space.now _ _ _ _ few (met_over rust_alone c.over_own_image-own.result c.args.space.now c.args.start.now c.args.exception c.args.resumes.now c.args.limit c.args.steps.now.number c.fresh_delivery.new.steps.number c.over_own_image-own.ensures c.fresh_delivery.ensures.ticks)

pub returns-clause-chain_ticks : goal.returns-clause-chain_ticks
returns-clause-chain_ticks g c functions s calls digits starts one =
    (returns-clause-chain_searches g c functions s calls starts).1 digits (counts_within c.args.space.now digits one c.image.ensures.added)

pub returns-clause-refused : goal.returns-clause-refused
returns-clause-refused g c error = (
  λ e. refused_why rust_alone c.args.space.now c.args.start.now c.args.exception c.args.resumes.now c.args.limit error (delivered_fault c.fresh_delivery.result c.fresh_delivery.new.room _ error (delivered_over rust_alone c.over_own_image-own.result c.args.space.now c.fresh_delivery.result c.fresh_delivery.new.room c.args.start.now c.args.exception c.args.resumes.now c.args.limit c.over_own_image-own.ensures c.fresh_delivery.ensures.exact) e),
  λ why. fault_delivered c.fresh_delivery.result c.fresh_delivery.new.room _ error (delivered_over rust_alone c.over_own_image-own.result c.args.space.now c.fresh_delivery.result c.fresh_delivery.new.room c.args.start.now c.args.exception c.args.resumes.now c.args.limit c.over_own_image-own.ensures c.fresh_delivery.ensures.exact) (why_refused rust_alone c.args.space.now c.args.start.now c.args.exception c.args.resumes.now c.args.limit error why),
)

pub returns-clause-ended : goal.returns-clause-ended
returns-clause-ended g c outcome = (
  λ ends.
      let d = delivered_ending c.fresh_delivery.result c.fresh_delivery.new.room _ outcome (delivered_over rust_alone c.over_own_image-own.result c.args.space.now c.fresh_delivery.result c.fresh_delivery.new.room c.args.start.now c.args.exception c.args.resumes.now c.args.limit c.over_own_image-own.ensures c.fresh_delivery.ensures.exact) ends in
      subst (EndsBy c.args.space.now c.args.start.now c.args.exception c.args.resumes.now c.args.limit) d.2 (ended_by rust_alone c.args.space.now c.args.start.now c.args.exception c.args.resumes.now c.args.limit d.0 d.1),
  λ by.
      let d = by_end rust_alone c.args.space.now c.args.start.now c.args.exception c.args.resumes.now c.args.limit outcome by in
      ending_delivered c.fresh_delivery.result c.fresh_delivery.new.room _ d.0 (λ (x : DeliveryValue). x.outcome ≡ outcome) (delivered_over rust_alone c.over_own_image-own.result c.args.space.now c.fresh_delivery.result c.fresh_delivery.new.room c.args.start.now c.args.exception c.args.resumes.now c.args.limit c.over_own_image-own.ensures c.fresh_delivery.ensures.exact) d.1 d.2,
)
