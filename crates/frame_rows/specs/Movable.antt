-- Programs that say the same wherever they stand, and of whatever start. No public clause cites this.
use Rattle.std.specs.Prelude.{◌≡◌, None}
use Rattle.std.specs.List.{AllByRecursion}
use Rattle.unwind_definitions.specs.Instructions.{Instruction, SetLocation, Program}

-- an instruction doesn't set the location
abbrev pub IsRelative : Instruction → Type 0
IsRelative (SetLocation a) = ⊥
IsRelative _ = Unit {0}

-- a program can be read to its end, and sets no location
pub record IsMovable (p : Program) : Type 0 where
  pub whole : p.fault ≡ None
  pub each : AllByRecursion IsRelative p.instructions
