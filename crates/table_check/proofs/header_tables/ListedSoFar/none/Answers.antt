use Rattle.std.proofs.Common.{refl}
use Rattle.table_check.proofs.Listed.{none_listed}
use Rattle.table_check.proofs.header_tables.ListedSoFar.none.Goals as goal

pub returns : goal.returns
returns c t frame = none_listed t frame _ refl refl
