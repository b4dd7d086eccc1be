use Rattle.std.proofs.Common.{◌≡◌, Result, ◌∙◌, ap, refl, subst}
use Rattle.stack_steps.specs.declared.error.DeliverError.{DeliverError}
use Rattle.stack_steps.specs.Languages.{languages_of}
use Rattle.stack_steps.specs.Modules.{SpaceValue}
use Rattle.stack_steps.specs.Preparing.{with_indexes}
use Rattle.stack_walks.specs.Lines.{GivesUnlessNoMemory}
use Rattle.stack_deliver.specs.StackDelivery.{DeliveryValue, delivery_through}
use Rattle.delivery_laws.proofs.SameAnswers.{delivery_same}
use Rattle.unwind_cli.proofs.unwinding.prepared_delivery.Goals as goal

pub returns : goal.returns
returns c =
    let s = c.args.snapshot.now in
    let old = c.args.space.now in
    let changed = c.in_ok-prepare.ensures.prepares in
    let languages = languages_of c.args.languages.now in
    let delivered = λ (space : SpaceValue). delivery_through languages space s.start s.exception s.resumes c.limit.result in
    let limited : delivered old ≡ delivery_through languages old s.start s.exception s.resumes s.limit = rw c.limit.ensures refl in
    let same = ap delivered changed.is ∙ (delivery_same old (with_indexes old.added changed.made) languages s.start s.exception s.resumes c.limit.result ∙ limited) in
    subst (λ (due : Result DeliveryValue DeliverError). GivesUnlessNoMemory c.delivery_within.result due) same c.delivery_within.ensures
