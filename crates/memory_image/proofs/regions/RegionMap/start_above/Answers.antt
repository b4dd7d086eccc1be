use Rattle.std.proofs.Common.{sym, ◌∙◌}
use Rattle.memory_image.proofs.RegionLemmas.{above-found, above-none}
use Rattle.memory_image.proofs.regions.RegionMap.start_above.Goals as goal

pub returns-in-Some : goal.returns-in-Some
returns-in-Some c =
    rw (← c.self.view_is)
    (sym (above-found c.self.inside.regions.items c.self.inside.places.entries c.next.new.self c.args.address (c.in-Some.start.now, c.in-Some.field-0-1.now) (sym (c.range.ensures.between tt) ∙ c.in-Some.ensures.steps)))

pub returns-in-None : goal.returns-in-None
returns-in-None c =
    rw (← c.self.view_is) (sym (above-none c.self.inside.regions.items c.self.inside.places.entries c.args.address (sym (c.range.ensures.between tt) ∙ c.in-None.ensures.steps.0)))
