use Rattle.std.proofs.Common.{◌≡◌, drop, map}
use Rattle.mapped_modules.specs.Loading.{loaded_value}
use Rattle.mapped_modules.specs.Spaces.{tables_of}
use Rattle.core_parts.specs.Parts.{is_apart}
use Rattle.core_parts.proofs.places.is_apart.Given as goal

abbrev pub invariant-loop-one : goal.invariant-loop-one
invariant-loop-one l = is_apart l.place (tables_of (map loaded_value (drop l.one-index l.loaded))) ≡ is_apart l.place (tables_of (map loaded_value l.loaded))
