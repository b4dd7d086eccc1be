use Rattle.std.proofs.Common.{◌≡◌, length, map, take, drop}
use Rattle.kalzurenk_c.specs.Deliveries.{cleanup_of}
use Rattle.kalzurenk_c.proofs.delivery.put_cleanups.Given as goal

abbrev pub invariant-loop-i : goal.invariant-loop-i
invariant-loop-i l = record {
  same : length l.cleanups ≡ length l.initial.cleanups;
  front : take l.i l.cleanups ≡ map cleanup_of (take l.i l.room.trail);
  rest : drop l.i l.cleanups ≡ drop l.i l.initial.cleanups;
}
