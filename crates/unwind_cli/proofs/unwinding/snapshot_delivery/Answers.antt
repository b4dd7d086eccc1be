use Rattle.std.proofs.Common.{Result, ap, subst}
use Rattle.stack_steps.specs.declared.error.DeliverError.{DeliverError}
use Rattle.stack_steps.specs.Languages.{languages_of}
use Rattle.stack_steps.specs.Modules.{SpaceValue}
use Rattle.stack_walks.specs.Lines.{GivesUnlessNoMemory}
use Rattle.stack_deliver.specs.StackDelivery.{DeliveryValue, delivery_through}
use Rattle.unwind_cli.proofs.Indexes.{delivered_before}
use Rattle.unwind_cli.proofs.unwinding.snapshot_delivery.Goals as goal

pub returns-in-Some : goal.returns-in-Some
returns-in-Some c =
    let s = c.args.snapshot.now in
    let is = ap (λ (space : SpaceValue). delivery_through (languages_of c.args.languages.now) space s.start s.exception s.resumes s.limit) c.in_ok-space.ensures in
    subst (λ (due : Result DeliveryValue DeliverError). GivesUnlessNoMemory c.in-Some.delivered due) is c.in-Some.ensures.delivered

pub returns : goal.returns
returns c =
    let s = c.args.snapshot.now in
    let languages = languages_of c.args.languages.now in
    let is = ap (λ (space : SpaceValue). delivery_through languages space s.start s.exception s.resumes s.limit) c.in_ok-space.ensures in
    let given = delivered_before languages c.in_ok-space.space c.searched_delivery.new.space s.start s.exception s.resumes s.limit c.prepared_delivery.result c.searched_delivery.ensures.same c.prepared_delivery.ensures in
    subst (λ (due : Result DeliveryValue DeliverError). GivesUnlessNoMemory c.prepared_delivery.result due) is given
