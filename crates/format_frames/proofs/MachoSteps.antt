-- The step in a Mach-O module by its parts: what a look-up answers, and what an opcode gives.
use Rattle.std.proofs.Common.{◌≡◌, ℕ, ◌+◌, ◌%◌, ◌^◌, false, List, Option, Some, None, Result, Ok, Err, refl, sym, ap, ◌∙◌, arith}
use Rattle.memory_image.specs.Image.{Span, table_at}
use Rattle.memory_image.specs.Results.{◌>>=◌}
use Rattle.unwind_definitions.specs.Caller.{◌+w◌, Columns, StepFault, column_or_fault}
use Rattle.unwinding_frames.specs.declared.frame.StepError.{StepError}
use Rattle.macho_unwind_info.specs.declared.error.Error.{Error}
use Rattle.macho_unwind_info.specs.declared.function.Function.{Function as Listed}
use Rattle.macho_unwind_info.specs.declared.opcodes.x86_64.OpcodeX86_64.{OpcodeX86_64}
use Rattle.macho_unwind_info.specs.declared.opcodes.x86_64.OpcodeX86_64.TheVariants.{Null, FrameBased, FramelessImmediate, FramelessIndirect, Dwarf, InvalidFrameless, UnrecognizedKind}
use Rattle.macho_unwind_info.specs.Listing.{Section, section_of}
use Rattle.macho_unwind_info.specs.Lookup.{lookup_of}
use Rattle.macho_unwind_info.specs.X86_64.{opcode_of}
use Rattle.format_definitions.specs.CompactStep.{registers_back, half_or_fault, by_cfa, Stepped, stepped_with, MachoModule, answered_by, stepped_by, found_in, opcode_step, compact_step, macho_step}
use Rattle.format_frames.specs.declared.error.FrameError.{FrameError}
use Rattle.format_frames.specs.declared.error.FrameError.TheVariants.{MachO}
use Rattle.format_frames.specs.declared.machine.Stepped.{Stepped as CodeStepped}
use Rattle.format_frames.specs.Callers.{opcode_given}
use Rattle.format_frames.specs.Refusals.{function_at, looked_up, caller_due, caller_due_at, macho_due}

-- ---- the opcode

-- a function's start counts by its word alone
alone_wraps : (image : List Span) (start : ℕ) (columns : Columns) (opcode : OpcodeX86_64) → opcode_step image (start % 2 ^ 64) columns opcode ≡ opcode_step image start columns opcode
alone_wraps image start columns Null = refl
alone_wraps image start columns (FrameBased offset fields) = refl
alone_wraps image start columns (FramelessImmediate size registers) = refl
alone_wraps image start columns (FramelessIndirect at adjust registers) =
    let same : ((start % 2 ^ 64) +w at) ≡ (start +w at) = omega arith in
    ap (λ (place : ℕ). Some (stepped_with false (half_or_fault image place >>= (λ size. column_or_fault (columns 7) >>= (λ sp. by_cfa image (registers_back registers) columns (sp +w (adjust + size))))))) same
alone_wraps image start columns (Dwarf offset) = refl
alone_wraps image start columns InvalidFrameless = refl
alone_wraps image start columns (UnrecognizedKind k) = refl

start_wraps : (image : List Span) (frames : Option ℕ) (start a : ℕ) (columns : Columns) (opcode : OpcodeX86_64) → compact_step image frames (start % 2 ^ 64) a columns opcode ≡ compact_step image frames start a columns opcode
start_wraps image frames start a columns Null = refl
start_wraps image frames start a columns (FrameBased offset fields) = refl
start_wraps image frames start a columns (FramelessImmediate size registers) = refl
start_wraps image frames start a columns (FramelessIndirect at adjust registers) = alone_wraps image start columns (FramelessIndirect at adjust registers)
start_wraps image frames start a columns (Dwarf offset) = refl
start_wraps image frames start a columns InvalidFrameless = refl
start_wraps image frames start a columns (UnrecognizedKind k) = refl

pub opcode_alone_due : (image : List Span) (m : MachoModule) (start : ℕ) (columns : Columns) (listed : Listed) (r : Result (Option CodeStepped) StepError) →
    start ≡ (m.base + listed.start_address) % 2 ^ 64 → opcode_given r ≡ opcode_step image start columns (opcode_of listed.opcode) →
    macho_due (answered_by (opcode_given r)) ≡ caller_due image m columns listed
opcode_alone_due image m start columns listed r at given =
    ap (λ (o : Option (Result Stepped StepFault)). macho_due (answered_by o))
    (given ∙ ap (λ (s : ℕ). opcode_step image s columns (opcode_of listed.opcode)) at ∙ alone_wraps image (m.base + listed.start_address) columns (opcode_of listed.opcode))

pub opcode_due : (image : List Span) (m : MachoModule) (a start : ℕ) (columns : Columns) (listed : Listed) (r : Result (Option CodeStepped) StepError) →
    start ≡ (m.base + listed.start_address) % 2 ^ 64 → opcode_given r ≡ compact_step image m.frames start a columns (opcode_of listed.opcode) →
    macho_due (answered_by (opcode_given r)) ≡ caller_due_at image m a columns listed
opcode_due image m a start columns listed r at given =
    ap (λ (o : Option (Result Stepped StepFault)). macho_due (answered_by o))
    (given ∙ ap (λ (s : ℕ). compact_step image m.frames s a columns (opcode_of listed.opcode)) at ∙ start_wraps image m.frames (m.base + listed.start_address) a columns (opcode_of listed.opcode))

-- ---- the module

-- what is due where a look-up has answered
pub due_by : List Span → MachoModule → ℕ → Columns → Result (Option Listed) Error → Result (Option Stepped) FrameError
due_by image m a columns (Err e) = Err (MachO e)
due_by image m a columns (Ok None) = Ok None
due_by image m a columns (Ok (Some listed)) = caller_due_at image m a columns listed

due_in : (image : List Span) (m : MachoModule) (rva : ℕ) (columns : Columns) (s : Result Section Error) → macho_due (found_in image m rva columns s) ≡ due_by image m (m.base + rva) columns (looked_up rva s)
unfolding due_by
due_in image m rva columns (Err e) = refl
due_in image m rva columns (Ok info) = go (lookup_of info rva)
  where
    go : (r : Result (Option Listed) Error) → macho_due (stepped_by image m rva columns r) ≡ due_by image m (m.base + rva) columns r
    go (Err e) = refl
    go (Ok None) = refl
    go (Ok (Some listed)) = refl

pub step_due : (image : List Span) (m : MachoModule) (rva a : ℕ) (columns : Columns) → m.base + rva ≡ a → due_by image m a columns (function_at image m rva) ≡ macho_due (macho_step image m rva columns)
step_due image m rva a columns at = ap (λ (b : ℕ). due_by image m b columns (function_at image m rva)) (sym at) ∙ sym (due_in image m rva columns (section_of (table_at image m.unwind_info)))

pub due_fault : (image : List Span) (m : MachoModule) (a : ℕ) (columns : Columns) (e : Error) → due_by image m a columns (Err e) ≡ Err (MachO e)
unfolding due_by
due_fault image m a columns e = refl

pub due_none : (image : List Span) (m : MachoModule) (a : ℕ) (columns : Columns) → due_by image m a columns (Ok None) ≡ Ok None
unfolding due_by
due_none image m a columns = refl

pub due_some : (image : List Span) (m : MachoModule) (a : ℕ) (columns : Columns) (listed : Listed) → due_by image m a columns (Ok (Some listed)) ≡ caller_due_at image m a columns listed
unfolding due_by
due_some image m a columns listed = refl
