-- Walks that met nothing that isn't mapped. Such a walk over a part of the memory is that over all of it.
use Rattle.std.specs.Prelude.{ℕ, Bool, true, false, not, List, Result, Ok, Err, IsTrue}
use Rattle.std.specs.List.{AllByRecursion}
use Rattle.unwind_arch.specs.declared.x86_64.Context.{Context}
use Rattle.stack_steps.specs.Modules.{SpaceValue}
use Rattle.stack_steps.specs.declared.error.DeliverError.{DeliverError}
use Rattle.stack_steps.specs.declared.error.DeliverError.TheVariants.{Unmapped}
use Rattle.stack_walks.specs.Lines.{line_of}

-- something that is read isn't mapped
abbrev pub is_unmapped : DeliverError → Bool
is_unmapped (Unmapped a) = true
is_unmapped _ = false

abbrev pub is_mapped : {A : Type 0} → Result A DeliverError → Bool
is_mapped (Ok x) = true
is_mapped (Err e) = not (is_unmapped e)

-- no walk of these threads met something that isn't mapped
abbrev pub AreMapped : SpaceValue → ℕ → List Context → Type 0
AreMapped space limit cs = AllByRecursion (λ (c : Context). IsTrue (is_mapped (line_of space limit c true))) cs
