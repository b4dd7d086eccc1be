use Rattle.std.proofs.Common.{[], sym, ap, ◌∙◌}
use Rattle.stack_snapshot.specs.Owned.{spans_of}
use Rattle.std.proofs.lemmas.Result.{IfOk-weaker}
use Rattle.stack_snapshot.proofs.Disjoint.{items_of, regions_ranges, regions_disjoint, no_region}
use Rattle.stack_snapshot.proofs.snapshot.takes_regions.Goals as goal

pub are_disjoint-requires : goal.are_disjoint-requires
are_disjoint-requires c = regions_ranges (spans_of c.args.regions.now) c.in-Some.ranges.items (sym c.in_ok-ranges.ensures ∙ ap items_of c.in-Some.is)

pub returns-in-Some : goal.returns-in-Some
returns-in-Some c =
    IfOk-weaker _ _ _
    (λ disjoint tells. regions_disjoint (spans_of c.args.regions.now) c.in-Some.ranges.items disjoint (sym c.in_ok-ranges.ensures ∙ ap items_of c.in-Some.is) tells)
    c.are_disjoint.ensures

pub returns-in-None : goal.returns-in-None
returns-in-None c = sym (no_region [] (spans_of c.args.regions.now) (sym c.in_ok-ranges.ensures ∙ ap items_of c.in-None.is))
