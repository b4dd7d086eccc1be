-- That program as a space, and the registers of its innermost frame.
use Rattle.std.specs.Prelude.{[], ◌∷◌, None}
use Rattle.unwind_arch.specs.declared.x86_64.Context.{Context}
use Rattle.fde_finders.specs.declared.custom.FrameInfoKind.TheVariants.{EhFrame}
use Rattle.stack_steps.specs.declared.space.Module.{Module}
use Rattle.stack_steps.specs.declared.space.ModuleTables.TheVariants.{Elf}
use Rattle.stack_steps.specs.Modules.{SpaceValue, without_index}
use Rattle.delivery_laws.specs.StateRegisters.{registers_of}
use Rattle.fact_deliveries.specs.LandingProgram as sample

abbrev pub sample_module : Module
sample_module = record { start = 0x401000; end = 0x40118f; tables = Elf (record { text_base = None; kind = EhFrame 0x402000 }) }

abbrev pub space : SpaceValue
space = record { image = sample.image; modules = sample_module ∷ []; added = without_index sample_module ∷ [] }

abbrev pub start : Context
start = registers_of sample.in_raises
