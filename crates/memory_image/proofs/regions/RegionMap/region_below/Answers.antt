use Rattle.std.proofs.Common.{◌≡◌, List, ℕ, Some, ap, sym, ◌∙◌}
use Rattle.memory_image.specs.Image.{Span}
use Rattle.memory_image.specs.Regions.{bytes_at}
use Rattle.memory_image.proofs.RegionLemmas.{below-found, below-none, Lent}
use Rattle.memory_image.proofs.regions.RegionMap.region_below.Goals as goal

pub returns-in-Some : goal.returns-in-Some
returns-in-Some c =
    let is : c.bytes_at.result.now ≡ bytes_at c.self.inside.regions.items c.in-Some.place.now = c.bytes_at.ensures ∙ ap (λ (rs : Lent). bytes_at rs c.in-Some.place.now) c.deref.ensures.value in
    rw (← c.self.view_is)
    (ap (λ (bytes : List ℕ). let s : Span = record { start = c.in-Some.start.now; bytes = bytes } in Some s) is
    ∙ sym (below-found c.self.inside.regions.items c.self.inside.places.entries c.next_back.new.self c.args.address (c.in-Some.start.now, c.in-Some.place.now) c.self.invariant (sym (c.range.ensures.between tt) ∙ c.in-Some.ensures.steps)))

pub returns-in-None : goal.returns-in-None
returns-in-None c =
    rw (← c.self.view_is) (sym (below-none c.self.inside.regions.items c.self.inside.places.entries c.args.address c.self.invariant (sym (c.range.ensures.between tt) ∙ c.in-None.ensures.steps.0)))
