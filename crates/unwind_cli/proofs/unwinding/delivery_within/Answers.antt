use Rattle.std.proofs.Common.{◌≡◌, Result, refl, subst}
use Rattle.stack_steps.specs.declared.error.DeliverError.{DeliverError}
use Rattle.stack_steps.specs.Languages.{languages_of}
use Rattle.stack_walks.specs.Lines.{GivesUnlessNoMemory}
use Rattle.stack_deliver.specs.StackDelivery.{DeliveryValue, delivery_through}
use Rattle.unwind_cli.proofs.unwinding.delivery_within.Goals as goal

pub returns : goal.returns
returns c =
    let s = c.args.snapshot.now in
    let languages = languages_of c.args.languages.now in
    let same : delivery_through languages c.args.space.now c.start-start.result c.exception.result c.resumes.result.now c.args.limit ≡ delivery_through languages c.args.space.now s.start s.exception s.resumes c.args.limit = rw (c.start-start.ensures, c.exception.ensures, c.resumes.ensures) refl in
    subst (λ (due : Result DeliveryValue DeliverError). GivesUnlessNoMemory c.throw.result due) same c.throw.ensures.exact
