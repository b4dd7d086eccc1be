use Rattle.std.proofs.Common.{◌≡◌, List, Result, ◌∙◌, ap, refl, subst}
use Rattle.unwind_arch.specs.declared.x86_64.Context.{Context}
use Rattle.stack_steps.specs.declared.error.DeliverError.{DeliverError}
use Rattle.stack_steps.specs.Modules.{SpaceValue}
use Rattle.stack_walks.specs.Lines.{GivesUnlessNoMemory, line_of}
use Rattle.stack_snapshot.specs.Content.{space_of}
use Rattle.unwind_cli.specs.Due.{walk_from}
use Rattle.unwind_cli.proofs.unwinding.walk_snapshot.Goals as goal

pub returns-in-Some : goal.returns-in-Some
unfolding walk_from
returns-in-Some c =
    let s = c.args.snapshot.now in
    let same : line_of (space_of s) s.limit s.start c.interrupted-interrupted.result ≡ walk_from s = rw c.interrupted-interrupted.ensures refl in
    let is = ap (λ (space : SpaceValue). line_of space s.limit s.start c.interrupted-interrupted.result) c.in_ok-space.ensures ∙ same in
    subst (λ (due : Result (List Context) DeliverError). GivesUnlessNoMemory c.in-Some.walked due) is c.in-Some.ensures

pub returns : goal.returns
unfolding walk_from
returns c =
    let s = c.args.snapshot.now in
    let same : line_of (space_of s) c.limit-limit.result c.start-start.result c.interrupted-interrupted.result ≡ walk_from s = rw (c.start-start.ensures, c.interrupted-interrupted.ensures, c.limit-limit.ensures) refl in
    let is = ap (λ (space : SpaceValue). line_of space c.limit-limit.result c.start-start.result c.interrupted-interrupted.result) c.in_ok-space.ensures ∙ same in
    subst (λ (due : Result (List Context) DeliverError). GivesUnlessNoMemory c.prepared_states.result due) is c.prepared_states.ensures
