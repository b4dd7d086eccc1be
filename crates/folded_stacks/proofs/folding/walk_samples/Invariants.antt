use Rattle.std.proofs.Common.{◌≡◌, ◌+◌, ◌≤◌, ◌++◌, drop}
use Rattle.folded_stacks.specs.Folding.{accepted, refused_of}
use Rattle.folded_stacks.proofs.folding.walk_samples.Given as goal

abbrev pub invariant-loop-sample : goal.invariant-loop-sample
invariant-loop-sample l = record {
  stacks : l.stacks ++ accepted l.space l.limit (drop l.sample-index l.samples) ≡ accepted l.space l.limit l.samples;
  refused : l.refused + refused_of l.space l.limit (drop l.sample-index l.samples) ≡ refused_of l.space l.limit l.samples;
  few : l.refused ≤ l.sample-index;
  places : l.limit ≤ l.room.limit;
}
