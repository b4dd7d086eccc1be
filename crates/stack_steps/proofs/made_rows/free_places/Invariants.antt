use Rattle.std.proofs.Common.{◌≡◌, length}
use Rattle.std.specs.List.{AllByRecursion}
use Rattle.stack_steps.specs.MadeRows.{IsFreePlace}
use Rattle.stack_steps.proofs.made_rows.free_places.Given as goal

-- as many places as turns, all free
abbrev pub invariant-loop : goal.invariant-loop
invariant-loop l = record {
  free : AllByRecursion IsFreePlace l.places.items;
  places : length l.places.items ≡ l.counter;
}
