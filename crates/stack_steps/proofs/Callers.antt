-- The callers that the code computes in Mach-O and PE modules are those of the definitions.
use Rattle.std.proofs.Common.{◌≡◌, ℕ, false, Option, Some, None, Result, Ok, Err, refl}
use Rattle.unwind_definitions.specs.Caller.{Columns, StepFault}
use Rattle.unwind_definitions.specs.Caller as calls
use Rattle.unwind_arch.specs.declared.x86_64.Context.{Context}
use Rattle.unwind_arch.specs.ContextViews.{columns_of, context_of}
use Rattle.format_definitions.specs.CompactStep as compact
use Rattle.format_definitions.specs.CompactStep.{answered_by}
use Rattle.format_definitions.specs.PeImage.{PeModule}
use Rattle.format_definitions.specs.PeStep.{PeFault}
use Rattle.format_frames.specs.declared.error.FrameError.{FrameError}
use Rattle.format_frames.specs.declared.error.FrameError.TheVariants as frame
use Rattle.format_frames.specs.declared.machine.Stepped.{Stepped as CodeStepped}
use Rattle.format_frames.specs.Callers.{stepped_of}
use Rattle.format_frames.specs.Refusals.{macho_due, pe_due}
use Rattle.stack_steps.specs.Views.{format_error}
use Rattle.stack_steps.specs.Frames.{next_with}
use Rattle.stack_steps.specs.Macho.{opcode_caller}
use Rattle.stack_steps.specs.Pe.{refusal as pe_refusal}
use Rattle.std.specs.Result.{result_map_both}
use Rattle.stack_steps.proofs.ContextLemmas.{IsWhole, context_of-columns}

-- the state that its columns tell
next_held : (next : Context) → IsWhole next → context_of (columns_of next) ≡ next
next_held next whole = context_of-columns next (columns_of next) whole (λ k. refl)

pub opcode_faults : (o : Option (Result compact.Stepped StepFault)) (e : FrameError) → Err e ≡ macho_due (answered_by o) → Err (format_error e) ≡ opcode_caller o
opcode_faults None e is = let same : e ≡ frame.CompactForm = cc in rw same refl
opcode_faults (Some (Ok s)) e is = absurd cc
opcode_faults (Some (Err (calls.Table x))) e is = let same : e ≡ frame.Table x = cc in rw same refl
opcode_faults (Some (Err (calls.Unmapped a))) e is = let same : e ≡ frame.Unmapped a = cc in rw same refl

pub opcode_gives : (o : Option (Result compact.Stepped StepFault)) (s : CodeStepped) → IsWhole s.context → Ok (Some (stepped_of s)) ≡ macho_due (answered_by o) → Ok (record { context = s.context; signal = s.signal }) ≡ opcode_caller o
opcode_gives None s whole is = absurd cc
opcode_gives (Some (Err (calls.Table e))) s whole is = absurd cc
opcode_gives (Some (Err (calls.Unmapped a))) s whole is = absurd cc
opcode_gives (Some (Ok x)) s whole is =
    let same : stepped_of s ≡ x = cc in
    rw (← same, next_held s.context whole) refl

pub records_give : (m : PeModule) (rva : ℕ) (r : Result Columns PeFault) (next : Context) → IsWhole next → Ok (columns_of next) ≡ pe_due m rva r → Ok (record { context = next; signal = false }) ≡ result_map_both (next_with false) pe_refusal r
records_give m rva (Err e) next whole is = absurd cc
records_give m rva (Ok columns) next whole is =
    let same : columns_of next ≡ columns = cc in
    rw (← same, next_held next whole) refl
