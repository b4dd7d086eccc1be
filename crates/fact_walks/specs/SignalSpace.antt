-- A small program over one of whose functions a signal's handler ran, as a space, and the registers with which it was stopped there.
use Rattle.std.specs.Prelude.{[], ◌∷◌, None}
use Rattle.unwind_arch.specs.declared.x86_64.Context.{Context}
use Rattle.fde_finders.specs.declared.custom.FrameInfoKind.TheVariants.{EhFrame}
use Rattle.stack_steps.specs.declared.space.Module.{Module}
use Rattle.stack_steps.specs.declared.space.ModuleTables.TheVariants.{Elf}
use Rattle.stack_steps.specs.Modules.{SpaceValue, without_index}
use Rattle.frame_facts_laws.specs.SignalProgram as sample
use Rattle.fact_walks.specs.SampleSpace.{context}

abbrev pub signal_module : Module
signal_module = record { start = 0x401000; end = 0x401320; tables = Elf (record { text_base = None; kind = EhFrame 0x402008 }) }

abbrev pub space : SpaceValue
space = record { image = sample.image; modules = signal_module ∷ []; added = without_index signal_module ∷ [] }

-- in a function that the handler called, at its first instruction
abbrev pub in_work : Context
in_work = context 0x401070 0x7fffffffdf68 0x4 0x8
