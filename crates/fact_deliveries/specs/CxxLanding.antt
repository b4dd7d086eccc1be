-- A throw in that program by the rules of its languages: its personality is C++'s. The chain of the second frame's call site has no
-- record, so that its landing pad is a cleanup's; that of the third has one, whose handler is of no type and takes every exception.
use Rattle.std.specs.Prelude.{List, [], ◌∷◌, Some}
use Rattle.unwind_definitions.specs.Delivery.{Delivery}
use Rattle.unwinding_frames.specs.declared.cxx.runtime.CxxRuntime.TheVariants.{Libstdcxx}
use Rattle.unwinding_frames.specs.declared.cxx.runtime.ExceptionKind.TheVariants.{Native}
use Rattle.stack_steps.specs.declared.asking.FrameAction.TheVariants.{Nothing, Cleanup, Handler}
use Rattle.stack_steps.specs.Languages.{Languages}
use Rattle.stack_deliver.specs.KnownThrows.{AskingFrame}
use Rattle.fact_deliveries.specs.LandingProgram as sample

-- the routine's address, which is libstdc++'s, and an exception of C++ itself that no type of this program catches
abbrev pub languages : Languages
languages = record { cxx_routines = 0x401090 ∷ []; exception = record { types = 0x500000 ∷ []; kind = Native; runtime = Libstdcxx } }

-- the frames, each with what it asks and the size of its arguments
abbrev pub asking : List AskingFrame
asking =
    record { state = sample.in_raises; action = Nothing; arguments = 0 } ∷
    record { state = sample.in_cleans; action = Cleanup 0x401111; arguments = 16 } ∷
    record { state = sample.in_catches; action = Handler 0x40115a 1; arguments = 16 } ∷
    record { state = sample.in_start; action = Nothing; arguments = 0 } ∷
    []

-- RDX holds the number of the handler's type
abbrev pub delivery : Delivery
delivery = record sample.delivery { landing = Some (record { state = sample.state 0x40115a 0x7fffffffeda8 0x9 0x7fffffffedb8; rax = sample.exception; rdx = 1 }) }
