use Rattle.std.proofs.Common.{◌≡◌, drop}
use Rattle.mapped_names.specs.Places.{address_by}
use Rattle.mapped_names.proofs.places.address_by.Given as goal

abbrev pub invariant-loop-i : goal.invariant-loop-i
invariant-loop-i l = address_by l.position (drop l.i l.headers) ≡ address_by l.position l.headers
