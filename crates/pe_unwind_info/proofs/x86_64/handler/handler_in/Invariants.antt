use Rattle.std.proofs.Common.{◌-◌, Option, Result}
use Rattle.std.specs.Option.{option_map}
use Rattle.pe_unwind_info.specs.declared.x86_64.fault.FrameFault.{FrameFault}
use Rattle.pe_unwind_info.specs.declared.x86_64.handler.Handler.{Handler}
use Rattle.pe_unwind_info.specs.Frame.{Gives}
use Rattle.pe_unwind_info.specs.Handlers.{IsNamed}
use Rattle.pe_unwind_info.proofs.x86_64.handler.handler_in.Given as goal

abbrev pub invariant-loop-turn : goal.invariant-loop-turn
invariant-loop-turn g l =
    (answer : Result (Option Handler) FrameFault) →
    IsNamed (Gives (goal.M-post g l.fn.memory_at_rva) (option_map (λ bytes. bytes.now))) (33 - l._turn) l.next answer
    → IsNamed (Gives (goal.M-post g l.fn.memory_at_rva) (option_map (λ bytes. bytes.now))) 33 l.fn.first answer
