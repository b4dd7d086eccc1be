use Rattle.std.proofs.Common.{◌-◌, ◌^◌, ◌<◌}
use Rattle.encoded_pointers.specs.PointerViews.{bases_of}
use Rattle.fde_finders.proofs.Listed.{IsPast}
use Rattle.fde_finders.proofs.registry.find_listed.Given as goal

abbrev pub invariant-loop-table : goal.invariant-loop-table
invariant-loop-table l = IsPast (bases_of l.known) l.image l.pc l.begin l.place × (l.place < 2 ^ 64)

abbrev pub decreases-loop-table : goal.decreases-loop-table
decreases-loop-table l = 2 ^ 64 - l.place
