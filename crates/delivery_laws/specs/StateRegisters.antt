-- Registers that show a state.
use Rattle.std.specs.Prelude.{[], ◌∷◌}
use Rattle.unwind_definitions.specs.State.{State}
use Rattle.unwind_arch.specs.declared.x86_64.Context.{Context}

-- the registers of a state, and 0 in the others
abbrev pub registers_of : State → Context
registers_of s = record { registers = 0 ∷ 0 ∷ 0 ∷ s.rbx ∷ 0 ∷ 0 ∷ s.rbp ∷ s.sp ∷ 0 ∷ 0 ∷ 0 ∷ 0 ∷ s.r12 ∷ s.r13 ∷ s.r14 ∷ s.r15 ∷ []; ra = s.ra; mcxsr = 0; fcw = 0 }
