use Rattle.std.proofs.Common.{◌≡◌, drop}
use Rattle.mapped_modules.specs.Places.{first_such, is_sought}
use Rattle.mapped_modules.proofs.places.first_header.Given as goal

abbrev pub invariant-loop-i : goal.invariant-loop-i
invariant-loop-i l = first_such (is_sought l.sought) (drop l.i l.headers) ≡ first_such (is_sought l.sought) l.headers
