-- The parts of which a function consists. No public clause cites this.
use Rattle.std.specs.Prelude.{◌≡◌, ◌≢◌, ◌+◌, [], None, IsTrue}
use Rattle.unwind_definitions.specs.Function.{Function, AreWithin, last_end}

pub record HasBodies (f : Function) : Type 0 where
  pub some : f.bodies ≢ []
  pub within : AreWithin (f.start + last_end f.prologue) f.end f.bodies

abbrev pub MayBeOutermost : Function → Type 0
MayBeOutermost f = IsTrue f.outermost → (f.prologue ≡ []) × (f.sites ≡ None)
