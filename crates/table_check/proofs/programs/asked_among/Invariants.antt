use Rattle.std.proofs.Common.{map, drop}
use Rattle.table_check.specs.ClaimViews.{range_of}
use Rattle.table_check.proofs.programs.asked_among.Given as goal
use Rattle.table_check.proofs.Asking.{IsPassed}

-- the parts that were passed end at or before the address
abbrev pub invariant-loop-body : goal.invariant-loop-body
invariant-loop-body l = IsPassed l.end l.pc (map range_of l.bodies) (map range_of (drop l.body-index l.bodies)) l.is_first
