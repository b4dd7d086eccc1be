use Rattle.std.proofs.Common.{◌≡◌, ◌++◌, drop, true}
use Rattle.sampled_profile.specs.Ends.{returns_of}
use Rattle.sampled_profile.specs.Frames.{places_of}
use Rattle.sampled_profile.specs.Tables.{shown_name}
use Rattle.sampled_profile.proofs.stack_table.SampledStack.set_frames.Given as goal

abbrev pub invariant-loop-i : goal.invariant-loop-i
invariant-loop-i l = record {
  places : l.self.places.items ++ places_of l.fn.cache l.interrupted (returns_of (drop l.i l.room.visited)) ≡ places_of l.fn.cache true (returns_of l.room.visited);
  same : l.cache ≡ l.fn.cache;
  name : shown_name l.self ≡ shown_name l.fn.self;
  end : l.self.end ≡ l.fn.self.end;
  popped : l.self.popped ≡ l.fn.self.popped;
}
