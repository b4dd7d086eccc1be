use Rattle.std.proofs.Common.{◌≡◌, Result, refl, subst}
use Rattle.stack_steps.specs.declared.error.DeliverError.{DeliverError}
use Rattle.stack_steps.specs.Languages.{languages_of}
use Rattle.stack_walks.specs.Lines.{GivesUnlessNoMemory}
use Rattle.stack_deliver.specs.StackDelivery.{DeliveryValue, delivery_through}
use Rattle.stack_snapshot.specs.Content.{space_of}
use Rattle.unwind_cli.specs.Due.{delivery_from}
use Rattle.unwind_cli.proofs.unwinding.deliver_snapshot.Goals as goal

pub returns : goal.returns
unfolding delivery_from
returns c =
    let s = c.args.snapshot.now in
    let same : delivery_through (languages_of c.rust_alone.result) (space_of s) s.start s.exception s.resumes s.limit ≡ delivery_from s = rw c.rust_alone.ensures refl in
    subst (λ (due : Result DeliveryValue DeliverError). GivesUnlessNoMemory c.snapshot_delivery.result due) same c.snapshot_delivery.ensures
