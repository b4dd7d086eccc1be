-- What is claimed of a small program's code (examples/frame_layouts.c), as the code has it.
use Rattle.std.specs.Prelude.{ℕ, false, true, List, [], ◌∷◌, Some, None}
use Rattle.fde_finders.specs.declared.custom.FrameInfo.{FrameInfo}
use Rattle.fde_finders.specs.declared.custom.FrameInfoKind.TheVariants.{EhFrame}
use Rattle.fact_checks.specs.declared.rows.Mismatch.{Mismatch}
use Rattle.fact_checks.specs.declared.rows.Mismatch.TheVariants.{Cfa}
use Rattle.fact_checks.specs.declared.said.SaidCfa.TheVariants.{Above}
use Rattle.fact_checks.specs.declared.stretches.Difference.{Difference}
use Rattle.fact_checks.specs.declared.facts.ClaimedFacts.{ClaimedFacts}
use Rattle.fact_checks.specs.declared.facts.KnownRegister.{KnownRegister}
use Rattle.fact_checks.specs.declared.facts.KnownRegisters.{KnownRegisters}

abbrev pub frame : FrameInfo
frame = record { text_base = None; kind = EhFrame 0x402008 }

abbrev pub kept : KnownRegister
kept = record { slot = None; is_kept = true }

abbrev pub saved_at : ℕ → KnownRegister
saved_at d = record { slot = Some d; is_kept = false }

abbrev pub popped_from : ℕ → KnownRegister
popped_from d = record { slot = Some d; is_kept = true }

abbrev pub registers : KnownRegister → KnownRegister → KnownRegisters
registers rbx rbp = record { rbx = rbx; rbp = rbp; r12 = kept; r13 = kept; r14 = kept; r15 = kept }

abbrev pub claimed : (from to rsp : ℕ) → KnownRegisters → ClaimedFacts
claimed from to rsp known = record { from = from; to = to; rsp = Some rsp; rbp = None; registers = known; is_outermost = false }

-- the whole of a part, the body of a function, its return after two pops, and a call for which arguments were pushed
abbrev pub claims : List ClaimedFacts
claims =
    claimed 0x401001 0x401019 32 (registers (saved_at 24) (saved_at 16)) ∷
    claimed 0x40108c 0x40109e 32 (registers (saved_at 24) (saved_at 16)) ∷
    claimed 0x4010a3 0x4010a4 8 (registers (popped_from 24) (popped_from 16)) ∷
    claimed 0x401120 0x401126 32 (registers (saved_at 16) kept) ∷
    []

-- the body as if it went on for the instruction that raises the stack pointer, and one more
abbrev pub longer : ClaimedFacts
longer = claimed 0x40108c 0x40109f 32 (registers (saved_at 24) (saved_at 16))

-- the row there says that the CFA is 24 above RSP
abbrev pub mismatch : Mismatch
mismatch = Cfa (Above (record { 0 = 7 }) 24)

-- where it differs, as the first of claims
abbrev pub difference : Difference
difference = record { claim = 0; address = 0x40109e; mismatch = mismatch }
