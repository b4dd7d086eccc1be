use Rattle.std.proofs.Common.{◌≡◌, drop, map, []}
use Rattle.mapped_modules.specs.Loading.{loaded_value}
use Rattle.mapped_modules.specs.Spaces.{tables_of, with_regions}
use Rattle.mapped_modules.proofs.spaces.image_of_tables.Given as goal

abbrev pub invariant-loop-one : goal.invariant-loop-one
invariant-loop-one l = with_regions l.image (tables_of (map loaded_value (drop l.one-index l.loaded))) ≡ with_regions [] (tables_of (map loaded_value l.loaded))
