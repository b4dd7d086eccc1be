use Rattle.std.proofs.Common.{◌≡◌, ◌-◌, ◌++◌}
use Rattle.generated_chains.specs.Outlines.{outlines_from, outlines}
use Rattle.generated_chains.proofs.outline.outlines.Given as goal

abbrev pub invariant-loop-index : goal.invariant-loop-index
invariant-loop-index l = l.made.items ++ outlines_from l.x l.index (l.count - l.index) ≡ outlines l.fn.seed l.count
