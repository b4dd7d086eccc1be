use Rattle.std.proofs.Common.{◌≡◌, ◌++◌, drop, true}
use Rattle.sampled_profile.specs.Ends.{returns_of}
use Rattle.sampled_profile.specs.Frames.{addresses_of}
use Rattle.sampled_profile.specs.Scripts.{frame_lines}
use Rattle.sampled_profile.proofs.lines.put_frame_lines.Given as goal

abbrev pub invariant-loop-i : goal.invariant-loop-i
invariant-loop-i l = record {
  lines : l.report ++ frame_lines l.fn.cache l.origins (addresses_of l.fn.cache l.interrupted (returns_of (drop l.i l.room.visited))) ≡ l.fn.report ++ frame_lines l.fn.cache l.origins (addresses_of l.fn.cache true (returns_of l.room.visited));
  same : l.cache ≡ l.fn.cache;
}
