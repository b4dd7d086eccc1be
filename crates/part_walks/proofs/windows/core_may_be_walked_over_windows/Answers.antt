use Rattle.part_walks.proofs.CoreWindows.{core_walk}
use Rattle.part_walks.proofs.windows.core_may_be_walked_over_windows.Goals as goal

pub returns : goal.returns
returns c = core_walk
