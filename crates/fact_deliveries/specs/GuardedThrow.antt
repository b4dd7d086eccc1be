-- A throw in that program by the rules of its languages: its personality is C++'s, and the exception is of the second type.
use Rattle.std.specs.Prelude.{ℕ, List, [], ◌∷◌, None, Some}
use Rattle.unwind_definitions.specs.Delivery.{Delivery, Installed}
use Rattle.unwind_arch.specs.declared.x86_64.Context.{Context}
use Rattle.fde_finders.specs.declared.custom.FrameInfoKind.TheVariants.{EhFrame}
use Rattle.stack_steps.specs.declared.space.Module.{Module}
use Rattle.stack_steps.specs.declared.space.ModuleTables.TheVariants.{Elf}
use Rattle.unwinding_frames.specs.declared.cxx.runtime.CxxRuntime.TheVariants.{Libstdcxx}
use Rattle.unwinding_frames.specs.declared.cxx.runtime.ExceptionKind.TheVariants.{Native}
use Rattle.stack_steps.specs.declared.asking.FrameAction.TheVariants.{Nothing, Cleanup, Handler}
use Rattle.stack_steps.specs.Languages.{Languages}
use Rattle.stack_steps.specs.Modules.{SpaceValue, without_index}
use Rattle.stack_deliver.specs.KnownThrows.{AskingFrame}
use Rattle.delivery_laws.specs.StateRegisters.{registers_of}
use Rattle.fact_deliveries.specs.GuardedProgram as sample

abbrev pub sample_module : Module
sample_module = record { start = 0x401000; end = 0x40113f; tables = Elf (record { text_base = None; kind = EhFrame 0x402010 }) }

abbrev pub space : SpaceValue
space = record { image = sample.image; modules = sample_module ∷ []; added = without_index sample_module ∷ [] }

abbrev pub start : Context
start = registers_of sample.in_raises

-- the routine's address, which is libstdc++'s, and an exception of C++ itself that the second type's handler catches, and the first
-- one's doesn't
abbrev pub languages : Languages
languages = record { cxx_routines = 0x401060 ∷ []; exception = record { types = 0x403ff0 ∷ []; kind = Native; runtime = Libstdcxx } }

-- the frames, each with what it asks; the chain of the third frame's call has a cleanup before the handler
abbrev pub asking : List AskingFrame
asking =
    record { state = sample.in_raises; action = Nothing; arguments = 0 } ∷
    record { state = sample.in_cleans; action = Cleanup 0x4010a4; arguments = 0 } ∷
    record { state = sample.in_catches; action = Handler 0x4010ec 2; arguments = 0 } ∷
    record { state = sample.in_start; action = Nothing; arguments = 0 } ∷
    []

abbrev pub exception : ℕ
exception = 0x900000

-- the cleanup at this pad goes on after the call that ends it
abbrev pub resumes : List (ℕ × ℕ)
resumes = (0x4010a4, 0x4010b7) ∷ []

-- the cleanup of the frame between runs, and RDX holds the number of the record that matched
abbrev pub delivery : Delivery
delivery = record {
  visited = sample.in_raises ∷ sample.in_cleans ∷ sample.in_catches ∷ [];
  trail = (0x4010a4, 0x7fffffffed78) ∷ [];
  landing = Some (record { state = sample.state 0x4010ec 0x7fffffffed98 0x9 0x0; rax = exception; rdx = 2 });
  outcome = Installed;
}
