use Rattle.std.proofs.Common.{◌≡◌, ◌++◌, ◌∷◌, [], length, None, ap, ◌∙◌}
use Rattle.std.specs.BTreeMap.{insert_entry}
use Rattle.std.specs.Ordering.{nat_cmp}
use Rattle.memory_image.specs.Image.{lowest_overlap}
use Rattle.memory_image.specs.Regions.{spans_of}
use Rattle.memory_image.proofs.RegionLemmas.{IsAdded, added}
use Rattle.memory_image.proofs.regions.RegionMap.insert.Goals as goal

was_added : (c : goal.In-Ok) → IsAdded c.args.self.now (spans_of c.push.new.self.items c.insert.new.self.entries) c.args.address c.args.bytes
was_added c =
    let more : c.push.new.self.items ≡ c.self.inside.regions.items ++ c.args.bytes ∷ [] = rw c.if-is_err.ensures.negation at c.push.ensures.items in
    let entries : c.insert.new.self.entries ≡ insert_entry nat_cmp c.self.inside.places.entries c.args.address (length c.as_slice-place.result.now) = c.in-Ok.ensures.entries in
    let place : length c.as_slice-place.result.now ≡ length c.self.inside.regions.items = ap length c.as_slice-place.ensures.value in
    let none : lowest_overlap (spans_of c.self.inside.regions.items c.self.inside.places.entries) c.args.address (length c.args.bytes.now) ≡ None = rw c.self.view_is c.requires.apart in
    rw (← c.self.view_is, more)
    (added c.self.inside.regions.items c.self.inside.places.entries c.insert.new.self.entries c.args.address c.args.bytes c.self.invariant c.requires.nonempty c.requires.fits none (entries ∙ ap (insert_entry nat_cmp c.self.inside.places.entries c.args.address) place))

pub invariant_of-self-in-Ok : goal.invariant_of-self-in-Ok
invariant_of-self-in-Ok c = (was_added c).laid_out

pub returns-in-Ok-clause-added : goal.returns-in-Ok-clause-added
returns-in-Ok-clause-added c = (was_added c).adds

pub returns-in-Ok-clause-laid_out : goal.returns-in-Ok-clause-laid_out
returns-in-Ok-clause-laid_out c = (was_added c).laid_out
