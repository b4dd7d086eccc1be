use Rattle.std.proofs.Common.{◌≡◌, length}
use Rattle.std.specs.List.{AllByRecursion}
use Rattle.stack_steps.specs.Caching.{IsFree}
use Rattle.stack_steps.proofs.frame_cache.CachedRows.new.Given as goal

-- as many places as turns, all free
abbrev pub invariant-loop : goal.invariant-loop
invariant-loop l = record {
  free : AllByRecursion IsFree l.places.items;
  places : length l.places.items ≡ l.counter;
  searched : length l.searched.items ≡ l.counter;
}
