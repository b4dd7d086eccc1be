use Rattle.std.proofs.Common.{◌≡◌, length}
use Rattle.perf_data.specs.Layouts.{share_layout}
use Rattle.perf_data.proofs.layout.share_layout.Given as goal

abbrev pub invariant-loop-rest : goal.invariant-loop-rest
invariant-loop-rest l = share_layout l.layout l.size l.rest ≡ share_layout l.layout l.size l.attributes

abbrev pub decreases-loop-rest : goal.decreases-loop-rest
decreases-loop-rest l = length l.rest
