-- What a step in a Mach-O module answers. `ElfAnswers` and `PeAnswers` have the same of theirs.
use Rattle.std.proofs.Common.{◌≡◌, ℕ, ◌+◌, ◌-◌, ◌≤◌, Option, Some, None, Result, Ok, Err, List, refl, sym, ap, subst, ◌∙◌, arith}
use Rattle.std.specs.Option.{option_map}
use Rattle.std.specs.Result.{result_map_both}
use Rattle.memory_image.specs.Image.{Span, table_at, word_at}
use Rattle.memory_image.specs.Results.{result_map}
use Rattle.unwind_definitions.specs.declared.error.Error.{Error as Fault}
use Rattle.unwind_definitions.specs.Row.{RowInstructions, row_at}
use Rattle.unwind_definitions.specs.Entries.{Fde}
use Rattle.unwind_definitions.specs.HeaderSearch.{fde_at}
use Rattle.unwind_definitions.specs.LanguageTable.{input_at}
use Rattle.unwind_definitions.specs.Caller as calls
use Rattle.unwind_definitions.specs.Expressions.{evaluation}
use Rattle.unwind_arch.specs.declared.x86_64.Context.{Context}
use Rattle.unwind_arch.specs.ContextViews.{columns_of}
use Rattle.fde_finders.specs.Finding.{FoundFde}
use Rattle.macho_unwind_info.specs.declared.error.Error.{Error}
use Rattle.macho_unwind_info.specs.declared.function.Function.{Function as Listed}
use Rattle.macho_unwind_info.specs.Listing.{Section, section_of}
use Rattle.macho_unwind_info.specs.Lookup.{lookup_of as lookup_of_section}
use Rattle.macho_unwind_info.specs.X86_64.{opcode_of}
use Rattle.macho_unwind_info.specs.declared.opcodes.x86_64.OpcodeX86_64.{OpcodeX86_64}
use Rattle.macho_unwind_info.specs.declared.opcodes.x86_64.OpcodeX86_64.TheVariants.{Null, FrameBased, FramelessImmediate, FramelessIndirect, Dwarf, InvalidFrameless, UnrecognizedKind}
use Rattle.format_definitions.specs.CompactStep.{MachoModule, MachoFault, InSection, NoForm, InStep, answered_by, opcode_step, compact_step}
use Rattle.format_definitions.specs.CompactStep as compact
use Rattle.format_frames.specs.FrameData.{found_in as found_in_data, some_found, description_by, description_of}
use Rattle.format_frames.specs.Refusals.{function_at, looked_up}
use Rattle.format_frames.specs.declared.machine.Stepped.{Stepped}
use Rattle.stack_steps.specs.declared.error.DeliverError.{DeliverError}
use Rattle.stack_steps.specs.declared.error.DeliverError.TheVariants.{Unmapped, Table, MachO, CompactForm}
use Rattle.stack_steps.specs.declared.space.MachoTables.{MachoTables}
use Rattle.stack_steps.specs.declared.space.Module.{Module}
use Rattle.stack_steps.specs.Frames.{next_with, refusal_of}
use Rattle.stack_steps.specs.Elf.{frame_with, frame_by}
use Rattle.stack_steps.specs.Macho.{module_of, refusal, opcode_frame, compact_frame, frame, compact_next, opcode_caller, caller, stepped, Ends, Faults, Reads, Unread, WithoutForm, Gives}
use Rattle.stack_steps.proofs.ElfAnswers.{none_found}
use Rattle.stack_steps.proofs.StepParts.{some_next, stepped_by}
use Rattle.stack_steps.proofs.Words.{macho_word}

-- ---- the end of the stack

-- a listed function has a frame
always_listed : (m : MachoModule) (a : ℕ) (listed : Listed) (r : Result (Option FoundFde) Fault) → opcode_frame m a listed r ≡ Ok None → ⊥
always_listed m a listed (Ok None) e = absurd cc
always_listed m a listed (Ok (Some found)) e = let none : Some found ≡ None = none_found a (Some found) e in absurd cc
always_listed m a listed (Err x) e = absurd cc

none_listed : (image : List Span) (m : MachoModule) (a : ℕ) (r : Result (Option Listed) Error) → compact_frame image m a r ≡ Ok None → r ≡ Ok None
none_listed image m a (Ok None) e = refl
none_listed image m a (Ok (Some listed)) e = absurd (always_listed m a listed (description_of image m listed) e)
none_listed image m a (Err x) e = absurd cc

pub ends : (image : List Span) (m : Module) (tables : MachoTables) (a : ℕ) → frame image a m tables ≡ Ok None → Ends image m tables a
ends image m tables a e = none_listed image (module_of m tables) a (function_at image (module_of m tables) (a - m.start)) e

pub of_ends : (image : List Span) (m : Module) (tables : MachoTables) (a : ℕ) → Ends image m tables a → frame image a m tables ≡ Ok None
of_ends image m tables a free = ap (compact_frame image (module_of m tables) a) free

-- ---- the step

abbrev pub answer : Result (Option compact.Stepped) MachoFault → Result (Option Stepped) DeliverError
answer r = result_map_both (option_map compact_next) refusal r

opcode_is : (o : Option (Result compact.Stepped calls.StepFault)) → some_next (opcode_caller o) ≡ answer (answered_by o)
opcode_is None = refl
opcode_is (Some (Ok caller)) = refl
opcode_is (Some (Err e)) = refl

-- the caller of a listed function's frame, by the description to which its opcode points, or by the opcode
abbrev caller_of_listed : List Span → Context → ℕ → Result Stepped DeliverError → Result (Option FoundFde) Fault → Result (Option Stepped) DeliverError
caller_of_listed image c a next (Ok None) = some_next next
caller_of_listed image c a next (Ok (Some found)) = stepped_by image c (frame_by a (Some found))
caller_of_listed image c a next (Err e) = Err (Table e)

framed_is : (image : List Span) (c : Context) (a : ℕ) (m : MachoModule) (listed : Listed) (r : Result (Option FoundFde) Fault) → stepped_by image c (opcode_frame m a listed r) ≡ caller_of_listed image c a (caller image c m listed) r
framed_is image c a m listed (Ok None) = refl
framed_is image c a m listed (Ok (Some found)) = refl
framed_is image c a m listed (Err e) = refl

module _ (image : List Span) (c : Context) (a start : ℕ) where
  by_data : (table : ℕ) (r : Result Fde Fault) → caller_of_listed image c a (Err CompactForm) (some_found (result_map (found_in_data image table) r)) ≡ answer (answered_by (Some (compact.by_description image table a (columns_of c) r)))
  by_data table (Err e) = refl
  by_data table (Ok fde) = by_row_of (row_at (compact.frame_bases table) fde a)
    where
      left : (run : RowInstructions) (r : Result calls.Columns calls.StepFault) → some_next (result_map_both (next_with fde.cie.letters.signal) refusal_of r) ≡ answer (answered_by (Some (compact.stepped_with fde.cie.letters.signal r)))
      left run (Ok columns) = refl
      left run (Err e) = refl

      by_row_of : (r : Result RowInstructions Fault) → stepped_by image c (result_map_both (frame_with (found_in_data image table fde)) Table r) ≡ answer (answered_by (Some (compact.by_row image fde.cie.letters.signal (columns_of c) r)))
      by_row_of (Err e) = refl
      by_row_of (Ok run) = left run (calls.caller_of calls.x86_64 (evaluation image) image (columns_of c) run)

  by_opcode : (frames : Option ℕ) (o : OpcodeX86_64) → caller_of_listed image c a (opcode_caller (opcode_step image start (columns_of c) o)) (description_by image frames o) ≡ answer (answered_by (compact_step image frames start a (columns_of c) o))
  by_opcode frames Null = refl
  by_opcode frames (FrameBased offset fields) = opcode_is (opcode_step image start (columns_of c) (FrameBased offset fields))
  by_opcode frames (FramelessImmediate size registers) = opcode_is (opcode_step image start (columns_of c) (FramelessImmediate size registers))
  by_opcode frames (FramelessIndirect at adjust registers) = opcode_is (opcode_step image start (columns_of c) (FramelessIndirect at adjust registers))
  by_opcode None (Dwarf offset) = refl
  by_opcode (Some table) (Dwarf offset) = by_data table (fde_at (compact.frame_bases table) (input_at image table) offset)
  by_opcode frames InvalidFrameless = refl
  by_opcode frames (UnrecognizedKind k) = refl

-- it is the step that is defined for the format
pub is_defined : (image : List Span) (c : Context) (m : Module) (tables : MachoTables) (a : ℕ) → m.start ≤ a → stepped_by image c (frame image a m tables) ≡ answer (stepped image c m tables a)
is_defined image c m tables a from = by_section (section_of (table_at image tables.unwind_info))
  where
    rva : ℕ
    rva = a - m.start

    at : m.start + (a - m.start) ≡ a
    at = omega arith

    opcode_at : Listed → ℕ → Option (Result compact.Stepped calls.StepFault)
    opcode_at listed b = compact_step image tables.frames (m.start + listed.start_address) b (columns_of c) (opcode_of listed.opcode)

    by_listed : (r : Result (Option Listed) Error) → stepped_by image c (compact_frame image (module_of m tables) a r) ≡ answer (compact.stepped_by image (module_of m tables) (a - m.start) (columns_of c) r)
    by_listed (Err e) = refl
    by_listed (Ok None) = refl
    by_listed (Ok (Some listed)) =
        framed_is image c a (module_of m tables) listed (description_of image (module_of m tables) listed) ∙
        by_opcode image c a (m.start + listed.start_address) tables.frames (opcode_of listed.opcode) ∙
        ap (λ (b : ℕ). answer (answered_by (opcode_at listed b))) (sym at)

    by_section : (r : Result Section Error) → stepped_by image c (compact_frame image (module_of m tables) a (looked_up (a - m.start) r)) ≡ answer (compact.found_in image (module_of m tables) (a - m.start) (columns_of c) r)
    by_section (Err e) = refl
    by_section (Ok info) = by_listed (lookup_of_section info (a - m.start))

-- ---- what it answers

fails : (r : Result (Option compact.Stepped) MachoFault) (e : DeliverError) → answer r ≡ Err e → (f : MachoFault) × (r ≡ Err f) × (refusal f ≡ e)
fails (Ok o) e h = absurd cc
fails (Err f) e h = (f, refl, cc)

abbrev failed : MachoFault → Result (Option compact.Stepped) MachoFault
failed f = Err f

table : (f : MachoFault) (e : Fault) → refusal f ≡ Table e → f ≡ InStep (calls.Table e)
table (InSection x) e h = absurd cc
table NoForm e h = absurd cc
table (InStep (calls.Table x)) e h = cc
table (InStep (calls.Unmapped b)) e h = absurd cc

unmapped : (f : MachoFault) (b : ℕ) → refusal f ≡ Unmapped b → f ≡ InStep (calls.Unmapped b)
unmapped (InSection x) b h = absurd cc
unmapped NoForm b h = absurd cc
unmapped (InStep (calls.Table x)) b h = absurd cc
unmapped (InStep (calls.Unmapped a)) b h = cc

section : (f : MachoFault) (e : Error) → refusal f ≡ MachO e → f ≡ InSection e
section (InSection x) e h = cc
section NoForm e h = absurd cc
section (InStep (calls.Table x)) e h = absurd cc
section (InStep (calls.Unmapped b)) e h = absurd cc

form : (f : MachoFault) → refusal f ≡ CompactForm → f ≡ NoForm
form (InSection x) h = absurd cc
form NoForm h = refl
form (InStep (calls.Table x)) h = absurd cc
form (InStep (calls.Unmapped b)) h = absurd cc

goes : (r : Result (Option compact.Stepped) MachoFault) (next : Stepped) → answer r ≡ Ok (Some next) → (s : compact.Stepped) × (r ≡ Ok (Some s)) × (next ≡ compact_next s)
goes (Ok None) next h = absurd cc
goes (Ok (Some s)) next h = (s, refl, cc)
goes (Err f) next h = absurd cc

-- no other error is one of a Mach-O module
abbrev pub IsOf : DeliverError → Type 0
IsOf (Table e) = Unit {0}
IsOf (Unmapped b) = Unit {0}
IsOf (MachO e) = Unit {0}
IsOf CompactForm = Unit {0}
IsOf _ = ⊥

of_refusal : (f : MachoFault) (e : DeliverError) → refusal f ≡ e → IsOf e
of_refusal (InSection x) e h = subst IsOf h tt
of_refusal NoForm e h = subst IsOf h tt
of_refusal (InStep (calls.Table x)) e h = subst IsOf h tt
of_refusal (InStep (calls.Unmapped b)) e h = subst IsOf h tt

module _ (image : List Span) (c : Context) (m : Module) (tables : MachoTables) (a : ℕ) (from : m.start ≤ a) where
  abbrev pub step : Result (Option Stepped) DeliverError
  step = stepped_by image c (frame image a m tables)

  error : (e : DeliverError) → step ≡ Err e → (f : MachoFault) × (stepped image c m tables a ≡ Err f) × (refusal f ≡ e)
  error e is = fails (stepped image c m tables a) e (sym (is_defined image c m tables a from) ∙ is)

  of_error : (f : MachoFault) → stepped image c m tables a ≡ Err f → step ≡ Err (refusal f)
  of_error f is = is_defined image c m tables a from ∙ ap answer is

  pub reads : (b : ℕ) → step ≡ Err (Unmapped b) → Reads image c m tables a b
  reads b is = let f = error (Unmapped b) is in f.1 ∙ ap failed (unmapped f.0 b f.2)

  pub of_reads : (b : ℕ) → Reads image c m tables a b → step ≡ Err (Unmapped b)
  of_reads b at = of_error (InStep (calls.Unmapped b)) at

  pub faults : (e : Fault) → step ≡ Err (Table e) → Faults image c m tables a e
  faults e is = let f = error (Table e) is in f.1 ∙ ap failed (table f.0 e f.2)

  pub of_faults : (e : Fault) → Faults image c m tables a e → step ≡ Err (Table e)
  of_faults e at = of_error (InStep (calls.Table e)) at

  pub unread : (e : Error) → step ≡ Err (MachO e) → Unread image c m tables a e
  unread e is = let f = error (MachO e) is in f.1 ∙ ap failed (section f.0 e f.2)

  pub of_unread : (e : Error) → Unread image c m tables a e → step ≡ Err (MachO e)
  of_unread e at = of_error (InSection e) at

  pub without_form : step ≡ Err CompactForm → WithoutForm image c m tables a
  without_form is = let f = error CompactForm is in f.1 ∙ ap failed (form f.0 f.2)

  pub of_without_form : WithoutForm image c m tables a → step ≡ Err CompactForm
  of_without_form at = of_error NoForm at

  pub gives : (next : Stepped) → step ≡ Ok (Some next) → Gives image c m tables a next
  gives next is =
      let g = goes (stepped image c m tables a) next (sym (is_defined image c m tables a from) ∙ is) in
      record { caller = g.0; steps = g.1; is = g.2 }

  pub of_gives : (next : Stepped) → Gives image c m tables a next → step ≡ Ok (Some next)
  of_gives next at = is_defined image c m tables a from ∙ ap answer at.steps ∙ rw at.is refl

  pub only : (e : DeliverError) → step ≡ Err e → IsOf e
  only e is = let f = error e is in of_refusal f.0 e f.2

  -- what isn't mapped
  pub word : (b : ℕ) → Reads image c m tables a b → word_at image b ≡ None
  word b at = macho_word image (module_of m tables) (a - m.start) (columns_of c) b at
