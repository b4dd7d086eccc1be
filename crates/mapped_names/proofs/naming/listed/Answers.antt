use Rattle.std.proofs.Common.{◌≡◌, ◌∙◌, ◌++◌, ◌∷◌, List, map, sym, ap}
use Rattle.core_file.specs.MappedParts.{PartValue}
use Rattle.core_file.specs.MappedViews.{part_of, parts_left}
use Rattle.mapped_names.proofs.Lists.{one_more}
use Rattle.mapped_names.proofs.naming.listed.Goals as goal

pub loop-part-preserved : goal.loop-part-preserved
loop-part-preserved c =
    let old = c.loop-part.list.items in
    let rest = parts_left c.next.new.self in
    let steps : parts_left c.loop-part.parts ≡ part_of c.in-Some.part ∷ rest = c.in-Some.ensures.steps in
    rw c.in_ok-push.ensures.items (one_more part_of old c.in-Some.part rest (parts_left c.args.parts) (ap (λ (ps : List PartValue). map part_of old ++ ps) (sym steps) ∙ c.loop-part.invariant))
