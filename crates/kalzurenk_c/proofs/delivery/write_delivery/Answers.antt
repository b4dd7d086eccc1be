use Rattle.std.proofs.Common.{List, ap, ◌∙◌}
use Rattle.stack_walks.specs.declared.room.Trail.{Trail}
use Rattle.stack_deliver.specs.KnownDeliveries.{ShowsKnownDelivery}
use Rattle.stack_deliver.specs.StackDelivery.{DeliveryValue, stack_delivery}
use Rattle.kalzurenk_c.specs.Deliveries.{DeliversKnown, cleanups_over}
use Rattle.kalzurenk_c.proofs.DeliveryLemmas.{delivered_so, trail_left}
use Rattle.kalzurenk_c.proofs.delivery.write_delivery.Goals as goal

pub returns : goal.returns
unfolding DeliversKnown
returns c =
    let t = c.args.raised.now in
    let due = stack_delivery c.args.space.now c.args.raised.now.context t.exception c.args.resumes.now t.limit in
    let d = c.deliver_over-delivered in (
      c.told_of.ensures due d.ensures.exact,
      c.put_cleanups.ensures ∙ ap (λ (trail : List Trail). cleanups_over trail c.args.cleanups.now) (trail_left d.result d.new.room due d.ensures.exact d.ensures.emptied),
      λ s callers frames starts. delivered_so d.result d.new.room due (λ (x : DeliveryValue). ShowsKnownDelivery x t.exception s callers frames) d.ensures.exact (d.ensures.known s callers frames starts),
    )
