use Rattle.eh_frame.specs.Directory.{AreBefore}
use Rattle.eh_frame.proofs.starts.first_from.Given as goal

abbrev pub invariant-loop-i : goal.invariant-loop-i
invariant-loop-i l = AreBefore l.starts l.i l.address
