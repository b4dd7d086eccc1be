use Rattle.part_walks.proofs.BuiltParts.{grows_with_regions, has_region, has_still, has_within, part_with_region, part_with_regions}
use Rattle.part_walks.proofs.PartTables.{grown_part}
use Rattle.part_walks.proofs.images.images_are_built_as_parts.Goals as goal

pub returns-clause-region : goal.returns-clause-region
returns-clause-region c = part_with_region

pub returns-clause-regions : goal.returns-clause-regions
returns-clause-regions c = part_with_regions

pub returns-clause-tables : goal.returns-clause-tables
returns-clause-tables c = grown_part

pub returns-clause-grows : goal.returns-clause-grows
returns-clause-grows c = grows_with_regions

pub returns-clause-has : goal.returns-clause-has
returns-clause-has c = has_region

pub returns-clause-within : goal.returns-clause-within
returns-clause-within c = has_within

pub returns-clause-stays : goal.returns-clause-stays
returns-clause-stays c = has_still
