use Rattle.std.proofs.Common.{◌≡◌, drop}
use Rattle.core_file.specs.Fronts.{places_in}
use Rattle.core_file.proofs.places.PlacesIterator.next.Given as goal

abbrev pub invariant-loop-i : goal.invariant-loop-i
invariant-loop-i l = record {
  headers : l.self.headers ≡ l.fn.self.headers;
  left : places_in (drop l.i l.fn.self.headers) ≡ places_in l.fn.self.headers;
}
