use Rattle.std.proofs.Common.{◌∙◌, map, sym}
use Rattle.mapped_modules.specs.Loading.{loaded_value}
use Rattle.mapped_modules.specs.Spaces.{tables_of}
use Rattle.core_parts.specs.Parts.{has_address}
use Rattle.core_parts.proofs.Finding.{found_at, stack_part_of}
use Rattle.core_parts.proofs.places.stack_part.Goals as goal

pub returns-clause-part : goal.returns-clause-part
returns-clause-part c =
    let places = c.args.front.now.places in
    let place = c.in_ok-place.place in
    let found = found_at (has_address c.args.pointer) places place (sym c.place_at.ensures ∙ c.in_ok-place.was) in
    stack_part_of places (tables_of (map loaded_value c.args.loaded.now)) place c.part_from.result found (sym c.is_apart.ensures ∙ c.if-not-is_apart.false) c.part_from.ensures.lies
