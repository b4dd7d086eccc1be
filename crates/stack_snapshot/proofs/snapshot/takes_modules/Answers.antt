use Rattle.std.proofs.Common.{[], sym, ap, ◌∙◌}
use Rattle.std.proofs.lemmas.Result.{IfOk-weaker}
use Rattle.stack_snapshot.proofs.Disjoint.{items_of, modules_ranges, modules_disjoint, no_module}
use Rattle.stack_snapshot.proofs.snapshot.takes_modules.Goals as goal

pub are_disjoint-requires : goal.are_disjoint-requires
are_disjoint-requires c = modules_ranges c.args.modules.now c.in-Some.ranges.items (sym c.in_ok-ranges.ensures ∙ ap items_of c.in-Some.is)

pub returns-in-Some : goal.returns-in-Some
returns-in-Some c =
    IfOk-weaker _ _ _
    (λ disjoint tells. modules_disjoint c.args.modules.now c.in-Some.ranges.items disjoint (sym c.in_ok-ranges.ensures ∙ ap items_of c.in-Some.is) tells)
    c.are_disjoint.ensures

pub returns-in-None : goal.returns-in-None
returns-in-None c = sym (no_module [] c.args.modules.now (sym c.in_ok-ranges.ensures ∙ ap items_of c.in-None.is))
