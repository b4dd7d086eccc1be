use Rattle.std.proofs.Common.{refl, lit≤}
use Rattle.part_walks.proofs.PartSamples.{sample_core_tables, sample_core_walk}
use Rattle.core_parts.specs.PartSample.{place}
use Rattle.core_parts.proofs.sample.a_core_has_walkable_parts.Goals as goal

pub returns-clause-segment : goal.returns-clause-segment
returns-clause-segment c = refl

pub returns-clause-window : goal.returns-clause-window
returns-clause-window c = refl

pub returns-clause-long : goal.returns-clause-long
returns-clause-long c = lit≤ tt

pub returns-clause-walkable : goal.returns-clause-walkable
returns-clause-walkable c = record { laid_out = refl; tables = sample_core_tables }

pub returns-clause-parts : goal.returns-clause-parts
returns-clause-parts c = (record { place = place; index = 0; among = refl; apart = refl; lies = record { skip = 8; address = refl; offset = refl; within = lit≤ tt } }, tt)

pub returns-clause-walk : goal.returns-clause-walk
returns-clause-walk c = sample_core_walk
