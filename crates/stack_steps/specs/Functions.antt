-- The functions that the frame tables of a space's ELF modules describe. The description is that by which a step finds the caller of a
-- frame (`Elf`), whether its row can be read or not. LSB, section on .eh_frame.
use Rattle.std.specs.Prelude.{ℕ, Option, Some, None, List}
use Rattle.std.specs.Option.{option_map}
use Rattle.memory_image.specs.Image.{Span}
use Rattle.fde_finders.specs.Finding.{FoundFde}
use Rattle.fde_finders.specs.Named.{found_by}
use Rattle.stack_steps.specs.declared.functions.DescribedFunction.{DescribedFunction}
use Rattle.stack_steps.specs.declared.space.Module.{Module}
use Rattle.stack_steps.specs.declared.space.ModuleTables.{ModuleTables}
use Rattle.stack_steps.specs.declared.space.ModuleTables.TheVariants.{Elf, Macho, Pe}
use Rattle.stack_steps.specs.Modules.{SpaceValue, module_at}

-- where the function of a description begins, and whether its frame is a signal's
abbrev pub function_of : FoundFde → DescribedFunction
function_of found = record { start = found.fde.start; signal = found.fde.cie.letters.signal }

-- by the tables of a module that holds an address
abbrev pub described_in : List Span → ℕ → ModuleTables → Option DescribedFunction
described_in image a (Elf tables) = option_map function_of (found_by tables image a)
described_in image a (Macho tables) = None
described_in image a (Pe tables) = None

abbrev pub described_at : List Span → ℕ → Option Module → Option DescribedFunction
described_at image a None = None
described_at image a (Some m) = described_in image a m.tables

-- The function that is described at an address of a space, None where none is.
unfoldable pub described_function : SpaceValue → ℕ → Option DescribedFunction
described_function space a = described_at space.image a (module_at space.modules a)
