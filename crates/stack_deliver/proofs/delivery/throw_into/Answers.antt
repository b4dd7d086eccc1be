use Rattle.std.proofs.Common.{◌≡◌, subst}
use Rattle.stack_steps.specs.Languages.{languages_of}
use Rattle.stack_deliver.proofs.Over.{delivered_over, met_over}
use Rattle.stack_steps.specs.declared.error.DeliverError.TheVariants.{NoMemory, Unmapped}
use Rattle.stack_deliver.specs.Causes.{EndsThrough}
use Rattle.stack_deliver.specs.StackDelivery.{DeliveryValue}
use Rattle.stack_deliver.specs.KnownThrows.{ShowsKnownThrow}
use Rattle.stack_steps.proofs.Counted.{rises_up_to}
use Rattle.stack_deliver.proofs.DeliverFaults.{delivery_unmapped, delivery_memory}
use Rattle.stack_deliver.proofs.SearchCounts.{few_in_delivery}
use Rattle.stack_deliver.proofs.DeliveryResults.{delivered_fault, fault_delivered, ending_delivered, delivered_ending}
use Rattle.stack_deliver.proofs.DeliveryAnswers.{refused_why, why_refused, ended_by, by_end}
use Rattle.stack_deliver.proofs.KnownThrown.{throw_delivered}
use Rattle.stack_deliver.proofs.delivery.throw_into.Goals as goal

pub returns-clause-unmapped : goal.returns-clause-unmapped
returns-clause-unmapped g c a e = delivery_unmapped c.args.space.now (languages_of c.args.languages.now) c.args.start.now c.args.exception c.args.resumes.now c.args.limit a (delivered_fault c.fresh_throw.result c.fresh_throw.new.room _ (Unmapped a) (delivered_over (languages_of c.args.languages.now) c.over_own_image-own.result c.args.space.now c.fresh_throw.result c.fresh_throw.new.room c.args.start.now c.args.exception c.args.resumes.now c.args.limit c.over_own_image-own.ensures c.fresh_throw.ensures.exact) e)

pub returns-clause-takes_no_memory : goal.returns-clause-takes_no_memory
returns-clause-takes_no_memory g c e = delivery_memory c.args.space.now (languages_of c.args.languages.now) c.args.start.now c.args.exception c.args.resumes.now c.args.limit (delivered_fault c.fresh_throw.result c.fresh_throw.new.room _ NoMemory (delivered_over (languages_of c.args.languages.now) c.over_own_image-own.result c.args.space.now c.fresh_throw.result c.fresh_throw.new.room c.args.start.now c.args.exception c.args.resumes.now c.args.limit c.over_own_image-own.ensures c.fresh_throw.ensures.exact) e)

pub returns-clause-known : goal.returns-clause-known
returns-clause-known g c s callers frames starts =
    let d = throw_delivered (languages_of c.args.languages.now) c.args.space.now c.args.start.now c.args.exception c.args.resumes.now c.args.limit s callers frames c.image.ensures.apart c.image.ensures.laid_out c.fresh_throw.ensures.whole starts in
    ending_delivered c.fresh_throw.result c.fresh_throw.new.room _ d.delivered (λ (x : DeliveryValue). ShowsKnownThrow x c.args.exception s callers frames) (delivered_over (languages_of c.args.languages.now) c.over_own_image-own.result c.args.space.now c.fresh_throw.result c.fresh_throw.new.room c.args.start.now c.args.exception c.args.resumes.now c.args.limit c.over_own_image-own.ensures c.fresh_throw.ensures.exact) d.is d.shows

pub returns-clause-ticks : goal.returns-clause-ticks
returns-clause-ticks g c =
    rises_up_to c.args.space.now _ _ _ _ (few_in_delivery (languages_of c.args.languages.now) c.args.space.now c.args.start.now c.args.exception c.args.resumes.now c.args.limit) (met_over (languages_of c.args.languages.now) c.over_own_image-own.result c.args.space.now c.args.start.now c.args.exception c.args.resumes.now c.args.limit c.args.steps.now.number c.fresh_throw.new.steps.number c.over_own_image-own.ensures c.fresh_throw.ensures.ticks)

pub returns-clause-refused : goal.returns-clause-refused
returns-clause-refused g c error = (
  λ e. refused_why (languages_of c.args.languages.now) c.args.space.now c.args.start.now c.args.exception c.args.resumes.now c.args.limit error (delivered_fault c.fresh_throw.result c.fresh_throw.new.room _ error (delivered_over (languages_of c.args.languages.now) c.over_own_image-own.result c.args.space.now c.fresh_throw.result c.fresh_throw.new.room c.args.start.now c.args.exception c.args.resumes.now c.args.limit c.over_own_image-own.ensures c.fresh_throw.ensures.exact) e),
  λ why. fault_delivered c.fresh_throw.result c.fresh_throw.new.room _ error (delivered_over (languages_of c.args.languages.now) c.over_own_image-own.result c.args.space.now c.fresh_throw.result c.fresh_throw.new.room c.args.start.now c.args.exception c.args.resumes.now c.args.limit c.over_own_image-own.ensures c.fresh_throw.ensures.exact) (why_refused (languages_of c.args.languages.now) c.args.space.now c.args.start.now c.args.exception c.args.resumes.now c.args.limit error why),
)

pub returns-clause-ended : goal.returns-clause-ended
returns-clause-ended g c outcome = (
  λ ends.
      let d = delivered_ending c.fresh_throw.result c.fresh_throw.new.room _ outcome (delivered_over (languages_of c.args.languages.now) c.over_own_image-own.result c.args.space.now c.fresh_throw.result c.fresh_throw.new.room c.args.start.now c.args.exception c.args.resumes.now c.args.limit c.over_own_image-own.ensures c.fresh_throw.ensures.exact) ends in
      subst (EndsThrough (languages_of c.args.languages.now) c.args.space.now c.args.start.now c.args.exception c.args.resumes.now c.args.limit) d.2 (ended_by (languages_of c.args.languages.now) c.args.space.now c.args.start.now c.args.exception c.args.resumes.now c.args.limit d.0 d.1),
  λ by.
      let d = by_end (languages_of c.args.languages.now) c.args.space.now c.args.start.now c.args.exception c.args.resumes.now c.args.limit outcome by in
      ending_delivered c.fresh_throw.result c.fresh_throw.new.room _ d.0 (λ (x : DeliveryValue). x.outcome ≡ outcome) (delivered_over (languages_of c.args.languages.now) c.over_own_image-own.result c.args.space.now c.fresh_throw.result c.fresh_throw.new.room c.args.start.now c.args.exception c.args.resumes.now c.args.limit c.over_own_image-own.ensures c.fresh_throw.ensures.exact) d.1 d.2,
)
