use Rattle.std.proofs.Common.{◌≡◌, Result, refl, subst}
use Rattle.stack_steps.specs.declared.error.DeliverError.{DeliverError}
use Rattle.stack_steps.specs.Languages.{languages_of}
use Rattle.stack_walks.specs.Lines.{GivesUnlessNoMemory}
use Rattle.stack_deliver.specs.StackDelivery.{DeliveryValue, delivery_through}
use Rattle.stack_snapshot.specs.Content.{space_of}
use Rattle.unwind_cli.specs.Due.{thrown_from}
use Rattle.unwind_cli.proofs.unwinding.throw_snapshot.Goals as goal

pub returns : goal.returns
unfolding thrown_from
returns c =
    let n = c.snapshot.result.now in
    let same : delivery_through (languages_of c.languages.result) (space_of n) n.start n.exception n.resumes n.limit ≡ thrown_from c.args.thrown.now = rw (c.languages.ensures, c.snapshot.ensures) refl in
    subst (λ (due : Result DeliveryValue DeliverError). GivesUnlessNoMemory c.snapshot_delivery.result due) same c.snapshot_delivery.ensures
