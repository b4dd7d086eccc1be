-- Functions that share no address, and where a prologue's slots lie.
use Rattle.std.specs.Prelude.{ℕ, ◌+◌, ◌≤◌, ◌⊎◌}
use Rattle.unwind_definitions.specs.Prologue.{Save, size_of}
use Rattle.unwind_definitions.specs.Function.{Function}

abbrev pub FunctionsApart : Function → Function → Type 0
FunctionsApart f g = (f.end ≤ g.start) ⊎ (g.end ≤ f.start)

-- a saved register's slot lies at or above a stack pointer, and below the return address, which is just below the caller's
pub record LiesBetween (low top : ℕ) (save : Save) : Type 0 where
  pub inside : low + save.distance ≤ top
  pub below_return : size_of save.register + 8 ≤ save.distance
