use Rattle.std.proofs.Common.{drop, map}
use Rattle.std.specs.Prelude.{◌↔◌}
use Rattle.mapped_modules.specs.Loading.{loaded_value}
use Rattle.mapped_modules.specs.Spaces.{codes_of}
use Rattle.part_walks.specs.Parts.{HaveTables}
use Rattle.core_parts.proofs.places.have_tables.Given as goal

abbrev pub invariant-loop-one : goal.invariant-loop-one
invariant-loop-one l = HaveTables l.image (codes_of (map loaded_value (drop l.one-index l.loaded))) ↔ HaveTables l.image (codes_of (map loaded_value l.loaded))
