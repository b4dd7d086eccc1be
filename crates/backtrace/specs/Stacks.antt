-- The backtrace of a stack: the lines of its trace and, where frame pointers are asked for, of the walks that go on by them.
use Rattle.std.specs.Prelude.{◌≡◌, ℕ, Bool, List, length}
use Rattle.unwind_arch.specs.declared.x86_64.Context.{Context}
use Rattle.stack_steps.specs.Modules.{SpaceValue}
use Rattle.backtrace.specs.Code.{PlacesValue}
use Rattle.backtrace.specs.declared.options.Options.{Options}
use Rattle.backtrace.specs.Tracing.{TraceValue, IsTrace}
use Rattle.backtrace.specs.FramePointers.{AreGuesses}
use Rattle.backtrace.specs.Lines.{contexts_of, traces_text}

-- a text is the backtrace of the stack that begins with these registers
abbrev pub IsStackText : Options → SpaceValue → ℕ → PlacesValue → Context → Bool → List ℕ → Type 0
IsStackText o space limit places c interrupted text =
    (t : TraceValue) × (ts : List TraceValue) × IsTrace space places.code c interrupted limit t
    × AreGuesses o.frame_pointers space places.code limit (length (contexts_of t)) t ts × (text ≡ traces_text o.registers interrupted places t ts)
