-- What the steps of Mach-O and PE modules can't read isn't mapped.
use Rattle.std.proofs.Common.{◌≡◌, ℕ, zero, suc, ◌+◌, ◌*◌, ◌-◌, ◌/◌, ◌≤◌, Bool, true, false, cond, ltb, length, take, List, [], ◌∷◌, Option, Some, None, Result, Ok, Err, refl, ap, subst, arith}
use Rattle.std.specs.Option.{option_and_then, option_map, option_map_or}
use Rattle.memory_image.specs.Image.{Span, byte_at, number_at, half_at, word_at, table_at}
use Rattle.memory_image.specs.Results.{◌>>=◌}
use Rattle.unwind_definitions.specs.declared.error.Error.{Error as Fault}
use Rattle.unwind_definitions.specs.Entries.{Fde}
use Rattle.unwind_definitions.specs.Row.{RowInstructions, row_at}
use Rattle.unwind_definitions.specs.Expressions.{evaluation}
use Rattle.unwind_definitions.specs.HeaderSearch.{fde_at}
use Rattle.unwind_definitions.specs.LanguageTable.{input_at}
use Rattle.unwind_definitions.specs.State.{CalleeSaved, column_of}
use Rattle.unwind_definitions.specs.DescribedRows.{negative}
use Rattle.unwind_definitions.specs.Caller.{◌+w◌}
use Rattle.unwind_definitions.specs.Caller as calls
use Rattle.macho_unwind_info.specs.declared.error.Error as macho
use Rattle.macho_unwind_info.specs.declared.function.Function.{Function as Listed}
use Rattle.macho_unwind_info.specs.declared.opcodes.x86_64.OpcodeX86_64.{OpcodeX86_64}
use Rattle.macho_unwind_info.specs.declared.opcodes.x86_64.OpcodeX86_64.TheVariants.{Null, FrameBased, FramelessImmediate, FramelessIndirect, Dwarf, InvalidFrameless, UnrecognizedKind}
use Rattle.macho_unwind_info.specs.Listing.{Section, section_of}
use Rattle.macho_unwind_info.specs.Lookup.{lookup_of}
use Rattle.macho_unwind_info.specs.X86_64.{opcode_of}
use Rattle.pe_unwind_info.specs.declared.x86_64.fault.FrameFault.{FrameFault}
use Rattle.pe_unwind_info.specs.declared.x86_64.fault.FrameFault.TheVariants as pe
use Rattle.pe_unwind_info.specs.declared.x86_64.function_table.RuntimeFunction.{RuntimeFunction}
use Rattle.pe_unwind_info.specs.declared.x86_64.registers.Register.{Register}
use Rattle.pe_unwind_info.specs.declared.x86_64.operations.UnwindOperation.{UnwindOperation}
use Rattle.pe_unwind_info.specs.declared.x86_64.operations.UnwindOperation.TheVariants.{EpilogInformation, PopNonVolatile, UnStackAlloc, RestoreSPFromFP, ReadNonVolatile, ReadXMM, PopMachineFrame}
use Rattle.pe_unwind_info.specs.declared.x86_64.epilog.FunctionEpilogInstruction.{FunctionEpilogInstruction}
use Rattle.pe_unwind_info.specs.declared.x86_64.epilog.FunctionEpilogInstruction.TheVariants.{AddSP, AddSPFromFP, Pop}
use Rattle.pe_unwind_info.specs.declared.x86_64.unwind_info.UnwindInfoHeader.{UnwindInfoHeader}
use Rattle.pe_unwind_info.specs.Machine.{Registers, Stack, FrameEnd, Returned, Faulted, After, Goes, Ends, word_or, word_or_fault, with_word, returned_or, pop_return, then_goes, then_ends, stack_pointer}
use Rattle.pe_unwind_info.specs.Operations.{Placed}
use Rattle.pe_unwind_info.specs.Steps.{act, run, epilog_act, epilog_run}
use Rattle.pe_unwind_info.specs.Info.{Info, parsed_info}
use Rattle.pe_unwind_info.specs.InfoOperations.{operations_in}
use Rattle.pe_unwind_info.specs.Header.{frame_register_of}
use Rattle.pe_unwind_info.specs.EpilogList.{leading_epilogs, after_epilogs, is_due}
use Rattle.pe_unwind_info.specs.Epilog.{sequence_of}
use Rattle.pe_unwind_info.specs.Frame.{epilog_or_none, info_in, info_or, chained_of, operations_alone, from_place, follow, link_of, at_limit, epilog_in}
use Rattle.pe_unwind_info.specs.FrameOf.{Image, then_follows, end_of_chain, left_by, epilog_if_tested, by_test, in_record, frame_end_of}
use Rattle.pe_unwind_info.specs.FunctionTable.{functions_of, lookup_of as record_at}
use Rattle.format_definitions.specs.CompactStep.{half_or_fault, read_up, read_down, by_frame, by_cfa, frame_bases, with_column, fields_up, registers_back, MachoModule, MachoFault, InSection, NoForm, InStep, answered_by, stepped_with, by_row, by_description, compact_step, stepped_by, found_in, macho_step}
use Rattle.format_definitions.specs.CompactStep as compact
use Rattle.format_definitions.specs.PeImage.{PeModule, memory_of, table_of}
use Rattle.format_definitions.specs.PeRegisters.{registers_in}
use Rattle.format_definitions.specs.PeStep.{PeFault, NoTable, InFrame, columns_at, pe_step}
use Rattle.format_definitions.specs.PeStep as pe_steps
use Rattle.stack_steps.proofs.RowReads.{unmapped_caller, reads_no_word}

-- ---- fewer bytes than a word has

none_mapped : (f : ℕ → ℕ) (o : Option ℕ) → option_map f o ≡ None → o ≡ None
none_mapped f None e = refl
none_mapped f (Some v) e = absurd cc

fewer_bytes : (image : List Span) (few many a : ℕ) → few ≤ many → number_at image a few ≡ None → number_at image a many ≡ None
fewer_bytes image zero many a less none = absurd cc
fewer_bytes image (suc few) zero a less none = absurd (omega arith)
fewer_bytes image (suc few) (suc many) a less none = go (byte_at image a) (λ later. fewer_bytes image few many (a + 1) (omega arith) later) none
  where
    go : (o : Option ℕ) → (number_at image (a + 1) few ≡ None → number_at image (a + 1) many ≡ None) → option_and_then (λ b. option_map (λ v. b + 256 * v) (number_at image (a + 1) few)) o ≡ None →
        option_and_then (λ b. option_map (λ v. b + 256 * v) (number_at image (a + 1) many)) o ≡ None
    go None later e = refl
    go (Some b) later e = ap (option_map (λ v. b + 256 * v)) (later (none_mapped (λ v. b + 256 * v) (number_at image (a + 1) few) e))

half_word : (image : List Span) (a : ℕ) → half_at image a ≡ None → word_at image a ≡ None
unfolding half_at word_at
half_word image a none = fewer_bytes image 4 8 a (omega arith) none

-- ---- Mach-O

abbrev OnFault : {A : Type 0} → List Span → Result A calls.StepFault → Type 0
OnFault image (Ok x) = Unit {0}
OnFault image (Err (calls.Table e)) = Unit {0}
OnFault image (Err (calls.Unmapped a)) = word_at image a ≡ None

bind_fault : {A B : Type 0} (image : List Span) (r : Result A calls.StepFault) (next : A → Result B calls.StepFault) → OnFault image r → ((x : A) → OnFault image (next x)) → OnFault image (r >>= next)
bind_fault image (Ok x) next on each = each x
bind_fault image (Err (calls.Table e)) next on each = tt
bind_fault image (Err (calls.Unmapped a)) next on each = on

word_fault : (image : List Span) (a : ℕ) → OnFault image (calls.word_or_fault image a)
word_fault image a = go (word_at image a) refl
  where
    go : (o : Option ℕ) → word_at image a ≡ o → OnFault image (option_map_or Ok o (Err (calls.Unmapped a)))
    go None none = none
    go (Some v) some = tt

half_fault : (image : List Span) (a : ℕ) → OnFault image (half_or_fault image a)
half_fault image a = go (half_at image a) refl
  where
    go : (o : Option ℕ) → half_at image a ≡ o → OnFault image (option_map_or Ok o (Err (calls.Unmapped a)))
    go None none = half_word image a none
    go (Some v) some = tt

column_fault : (image : List Span) (o : Option ℕ) → OnFault image (calls.column_or_fault o)
column_fault image None = tt
column_fault image (Some v) = tt

up_fault : (image : List Span) (a : ℕ) (fields : List (Option CalleeSaved)) (columns : calls.Columns) → OnFault image (read_up image a fields columns)
up_fault image a [] columns = tt
up_fault image a (None ∷ fields) columns = up_fault image (a +w 8) fields columns
up_fault image a (Some r ∷ fields) columns =
    bind_fault image (calls.word_or_fault image a) (λ v. read_up image (a +w 8) fields (with_column columns (column_of r) v)) (word_fault image a) (λ v. up_fault image (a +w 8) fields (with_column columns (column_of r) v))

down_fault : (image : List Span) (a : ℕ) (rs : List CalleeSaved) (columns : calls.Columns) → OnFault image (read_down image a rs columns)
down_fault image a [] columns = tt
down_fault image a (r ∷ rs) columns =
    bind_fault image (calls.word_or_fault image a) (λ v. read_down image (a +w negative 8) rs (with_column columns (column_of r) v)) (word_fault image a) (λ v. down_fault image (a +w negative 8) rs (with_column columns (column_of r) v))

ok_columns : calls.Columns → Result calls.Columns calls.StepFault
ok_columns columns = Ok columns

frame_fault : (image : List Span) (offset : ℕ) (fields : List (Option CalleeSaved)) (columns : calls.Columns) (rbp : ℕ) → OnFault image (by_frame image offset fields columns rbp)
frame_fault image offset fields columns rbp =
    let found : List (Option CalleeSaved) = take (offset / 8) fields in
    let at_end : calls.Columns → ℕ → ℕ → Result calls.Columns calls.StepFault = λ read saved ret. Ok (with_column (with_column (with_column read 6 saved) 7 (rbp +w 16)) 16 ret) in
    let at_return : calls.Columns → ℕ → Result calls.Columns calls.StepFault = λ read saved. calls.word_or_fault image (rbp +w 8) >>= at_end read saved in
    let at_saved : calls.Columns → Result calls.Columns calls.StepFault = λ read. calls.word_or_fault image rbp >>= at_return read in
    bind_fault image (read_up image (rbp +w negative offset) found columns) at_saved (up_fault image (rbp +w negative offset) found columns) (λ read.
    bind_fault image (calls.word_or_fault image rbp) (at_return read) (word_fault image rbp) (λ saved.
    bind_fault image (calls.word_or_fault image (rbp +w 8)) (at_end read saved) (word_fault image (rbp +w 8)) (λ ret. tt)))

cfa_fault : (image : List Span) (rs : List CalleeSaved) (columns : calls.Columns) (cfa : ℕ) → OnFault image (by_cfa image rs columns cfa)
cfa_fault image rs columns cfa =
    bind_fault image (calls.word_or_fault image (cfa +w negative 8)) _ (word_fault image (cfa +w negative 8)) (λ ret. down_fault image (cfa +w negative 16) rs _)

with_fault : (image : List Span) (signal : Bool) (r : Result calls.Columns calls.StepFault) → OnFault image r → OnFault image (stepped_with signal r)
with_fault image signal (Ok columns) on = tt
with_fault image signal (Err (calls.Table e)) on = tt
with_fault image signal (Err (calls.Unmapped a)) on = on

caller_fault : (image : List Span) (columns : calls.Columns) (run : RowInstructions) → OnFault image (calls.caller_of calls.x86_64 (evaluation image) image columns run)
caller_fault image columns run = go (calls.caller_of calls.x86_64 (evaluation image) image columns run) refl
  where
    go : (r : Result calls.Columns calls.StepFault) → calls.caller_of calls.x86_64 (evaluation image) image columns run ≡ r → OnFault image r
    go (Ok caller) is = tt
    go (Err (calls.Table e)) is = tt
    go (Err (calls.Unmapped a)) is = reads_no_word image columns run a (unmapped_caller image columns run a is)

row_fault : (image : List Span) (signal : Bool) (columns : calls.Columns) (r : Result RowInstructions Fault) → OnFault image (by_row image signal columns r)
row_fault image signal columns (Ok run) = with_fault image signal (calls.caller_of calls.x86_64 (evaluation image) image columns run) (caller_fault image columns run)
row_fault image signal columns (Err e) = tt

description_fault : (image : List Span) (frames a : ℕ) (columns : calls.Columns) (r : Result Fde Fault) → OnFault image (by_description image frames a columns r)
description_fault image frames a columns (Ok fde) = row_fault image fde.cie.letters.signal columns (row_at (frame_bases frames) fde a)
description_fault image frames a columns (Err e) = tt

abbrev OnOpcode : List Span → Option (Result compact.Stepped calls.StepFault) → Type 0
OnOpcode image None = Unit {0}
OnOpcode image (Some r) = OnFault image r

opcode_fault : (image : List Span) (frames : Option ℕ) (start a : ℕ) (columns : calls.Columns) (opcode : OpcodeX86_64) → OnOpcode image (compact_step image frames start a columns opcode)
opcode_fault image frames start a columns Null = tt
opcode_fault image frames start a columns (FrameBased offset fields) =
    let next : ℕ → Result calls.Columns calls.StepFault = by_frame image offset (fields_up fields) columns in
    with_fault image false (calls.column_or_fault (columns 6) >>= next) (bind_fault image (calls.column_or_fault (columns 6)) next (column_fault image (columns 6)) (λ rbp. frame_fault image offset (fields_up fields) columns rbp))
opcode_fault image frames start a columns (FramelessImmediate size registers) =
    let next : ℕ → Result calls.Columns calls.StepFault = λ sp. by_cfa image (registers_back registers) columns (sp +w size) in
    with_fault image false (calls.column_or_fault (columns 7) >>= next) (bind_fault image (calls.column_or_fault (columns 7)) next (column_fault image (columns 7)) (λ sp. cfa_fault image (registers_back registers) columns (sp +w size)))
opcode_fault image frames start a columns (FramelessIndirect at adjust registers) =
    let next : ℕ → ℕ → Result calls.Columns calls.StepFault = λ size sp. by_cfa image (registers_back registers) columns (sp +w (adjust + size)) in
    let sized : ℕ → Result calls.Columns calls.StepFault = λ size. calls.column_or_fault (columns 7) >>= next size in
    with_fault image false (half_or_fault image (start +w at) >>= sized) (bind_fault image (half_or_fault image (start +w at)) sized (half_fault image (start +w at)) (λ size.
    bind_fault image (calls.column_or_fault (columns 7)) (next size) (column_fault image (columns 7)) (λ sp. cfa_fault image (registers_back registers) columns (sp +w (adjust + size)))))
opcode_fault image None start a columns (Dwarf offset) = tt
opcode_fault image (Some table) start a columns (Dwarf offset) = description_fault image table a columns (fde_at (frame_bases table) (input_at image table) offset)
opcode_fault image frames start a columns InvalidFrameless = tt
opcode_fault image frames start a columns (UnrecognizedKind k) = tt

abbrev OnMacho : List Span → Result (Option compact.Stepped) MachoFault → Type 0
OnMacho image (Ok o) = Unit {0}
OnMacho image (Err (InSection e)) = Unit {0}
OnMacho image (Err NoForm) = Unit {0}
OnMacho image (Err (InStep (calls.Table e))) = Unit {0}
OnMacho image (Err (InStep (calls.Unmapped a))) = word_at image a ≡ None

answer_fault : (image : List Span) (o : Option (Result compact.Stepped calls.StepFault)) → OnOpcode image o → OnMacho image (answered_by o)
answer_fault image None on = tt
answer_fault image (Some (Ok caller)) on = tt
answer_fault image (Some (Err (calls.Table e))) on = tt
answer_fault image (Some (Err (calls.Unmapped a))) on = on

macho_fault : (image : List Span) (m : MachoModule) (rva : ℕ) (columns : calls.Columns) → OnMacho image (macho_step image m rva columns)
macho_fault image m rva columns = by_section (section_of (table_at image m.unwind_info))
  where
    by_listed : (r : Result (Option Listed) macho.Error) → OnMacho image (stepped_by image m rva columns r)
    by_listed (Err e) = tt
    by_listed (Ok None) = tt
    by_listed (Ok (Some listed)) = answer_fault image (compact_step image m.frames (m.base + listed.start_address) (m.base + rva) columns (opcode_of listed.opcode)) (opcode_fault image m.frames (m.base + listed.start_address) (m.base + rva) columns (opcode_of listed.opcode))

    by_section : (r : Result Section macho.Error) → OnMacho image (found_in image m rva columns r)
    by_section (Err e) = tt
    by_section (Ok info) = by_listed (lookup_of info rva)

pub macho_word : (image : List Span) (m : MachoModule) (rva : ℕ) (columns : calls.Columns) (a : ℕ) → macho_step image m rva columns ≡ Err (InStep (calls.Unmapped a)) → word_at image a ≡ None
macho_word image m rva columns a is = subst (OnMacho image) is (macho_fault image m rva columns)

-- ---- PE

abbrev OnEnd : Stack → FrameEnd → Type 0
OnEnd stack (Returned ret regs) = Unit {0}
OnEnd stack (Faulted (pe.Memory rva) regs) = Unit {0}
OnEnd stack (Faulted (pe.Info rva) regs) = Unit {0}
OnEnd stack (Faulted pe.EpilogBytes regs) = Unit {0}
OnEnd stack (Faulted (pe.Stack a) regs) = stack a ≡ None
OnEnd stack (Faulted pe.ChainLimit regs) = Unit {0}

abbrev OnAfter : Stack → After → Type 0
OnAfter stack (Goes regs) = Unit {0}
OnAfter stack (Ends end) = OnEnd stack end

word_on : (stack : Stack) (a : ℕ) (regs : Registers) (later : ℕ → After) → ((v : ℕ) → OnAfter stack (later v)) → OnAfter stack (with_word (word_or_fault stack a) regs later)
word_on stack a regs later each = go (stack a) refl
  where
    go : (o : Option ℕ) → stack a ≡ o → OnAfter stack (with_word (word_or a o) regs later)
    go None none = none
    go (Some v) some = each v

return_on : (stack : Stack) (regs : Registers) → OnEnd stack (pop_return stack regs)
return_on stack regs = go (stack (stack_pointer regs)) refl
  where
    go : (o : Option ℕ) → stack (stack_pointer regs) ≡ o → OnEnd stack (returned_or regs (word_or (stack_pointer regs) o))
    go None none = none
    go (Some v) some = tt

act_on : (header : UnwindInfoHeader) (stack : Stack) (operation : UnwindOperation) (regs : Registers) → OnAfter stack (act header stack operation regs)
act_on header stack (EpilogInformation e) regs = tt
act_on header stack (PopNonVolatile r) regs = word_on stack _ regs _ (λ v. tt)
act_on header stack (UnStackAlloc n) regs = tt
act_on header stack RestoreSPFromFP regs = tt
act_on header stack (ReadNonVolatile r k) regs = word_on stack _ regs _ (λ v. tt)
act_on header stack (ReadXMM r k) regs = word_on stack _ regs _ (λ low. word_on stack _ regs _ (λ high. tt))
act_on header stack (PopMachineFrame error_code) regs = word_on stack _ regs _ (λ address. word_on stack _ regs _ (λ sp. tt))

then_goes_on : (stack : Stack) (after : After) (later : Registers → After) → OnAfter stack after → ((regs : Registers) → OnAfter stack (later regs)) → OnAfter stack (then_goes after later)
then_goes_on stack (Goes regs) later on each = each regs
then_goes_on stack (Ends end) later on each = on

then_ends_on : (stack : Stack) (after : After) (later : Registers → FrameEnd) → OnAfter stack after → ((regs : Registers) → OnEnd stack (later regs)) → OnEnd stack (then_ends after later)
then_ends_on stack (Goes regs) later on each = each regs
then_ends_on stack (Ends end) later on each = on

run_on : (header : UnwindInfoHeader) (stack : Stack) (operations : List UnwindOperation) (regs : Registers) → OnAfter stack (run header stack operations regs)
unfolding run
run_on header stack [] regs = tt
run_on header stack (operation ∷ later) regs = then_goes_on stack (act header stack operation regs) (run header stack later) (act_on header stack operation regs) (λ next. run_on header stack later next)

epilog_act_on : (frame : Option Register) (stack : Stack) (instruction : FunctionEpilogInstruction) (regs : Registers) → OnAfter stack (epilog_act frame stack instruction regs)
epilog_act_on frame stack (AddSP n) regs = tt
epilog_act_on None stack (AddSPFromFP n) regs = tt
epilog_act_on (Some register) stack (AddSPFromFP n) regs = tt
epilog_act_on frame stack (Pop r) regs = word_on stack _ regs _ (λ v. tt)

epilog_run_on : (frame : Option Register) (stack : Stack) (instructions : List FunctionEpilogInstruction) (regs : Registers) → OnAfter stack (epilog_run frame stack instructions regs)
unfolding epilog_run
epilog_run_on frame stack [] regs = tt
epilog_run_on frame stack (instruction ∷ later) regs = then_goes_on stack (epilog_act frame stack instruction regs) (epilog_run frame stack later) (epilog_act_on frame stack instruction regs) (λ next. epilog_run_on frame stack later next)

limit_on : (stack : Stack) (next : Option RuntimeFunction) (regs : Registers) → OnEnd stack (at_limit stack next regs)
limit_on stack None regs = return_on stack regs
limit_on stack (Some function) regs = tt

info_on : (stack : Stack) (rva : ℕ) (memory : Option (List ℕ)) (regs : Registers) (fault : FrameFault) → info_in rva memory ≡ Err fault → OnEnd stack (Faulted fault regs)
info_on stack rva None regs fault is = let same : pe.Memory rva ≡ fault = cc in subst (λ (f : FrameFault). OnEnd stack (Faulted f regs)) same tt
info_on stack rva (Some bytes) regs fault is = go (parsed_info bytes) is
  where
    go : (o : Option Info) → info_or rva o ≡ Err fault → OnEnd stack (Faulted fault regs)
    go None h = let same : pe.Info rva ≡ fault = cc in subst (λ (f : FrameFault). OnEnd stack (Faulted f regs)) same tt
    go (Some info) h = absurd cc

linked_on : (memory : Image) (stack : Stack) (n : ℕ) (next : Option RuntimeFunction) (regs : Registers) → OnEnd stack (end_of_chain memory stack n next regs)
unfolding end_of_chain
linked_on memory stack zero next regs = limit_on stack next regs
linked_on memory stack (suc n) None regs = return_on stack regs
linked_on memory stack (suc n) (Some function) regs = by_info (info_in function.unwind_info_address (memory function.unwind_info_address)) refl (λ next left. linked_on memory stack n next left)
  where
    by_run : (info : Info) (after : After) → OnAfter stack after → ((next : Option RuntimeFunction) (left : Registers) → OnEnd stack (end_of_chain memory stack n next left)) → OnEnd stack (then_follows (follow (chained_of info) after) (end_of_chain memory stack n))
    by_run info (Goes left) on later = later (chained_of info) left
    by_run info (Ends end) on later = on

    by_info : (r : Result Info FrameFault) → info_in function.unwind_info_address (memory function.unwind_info_address) ≡ r → ((next : Option RuntimeFunction) (left : Registers) → OnEnd stack (end_of_chain memory stack n next left)) →
        OnEnd stack (then_follows (link_of r stack regs) (end_of_chain memory stack n))
    by_info (Err fault) is later = info_on stack function.unwind_info_address (memory function.unwind_info_address) regs fault is
    by_info (Ok info) is later = by_run info (run info.header stack (operations_alone (operations_in info)) regs) (run_on info.header stack (operations_alone (operations_in info)) regs) later

epilog_on : (frame : Option Register) (stack : Stack) (end address : ℕ) (memory : Option (List ℕ)) (regs : Registers) (fault : FrameFault) → epilog_in frame end address memory ≡ Err fault → OnEnd stack (Faulted fault regs)
epilog_on frame stack end address None regs fault is = let same : pe.EpilogBytes ≡ fault = cc in subst (λ (f : FrameFault). OnEnd stack (Faulted f regs)) same tt
epilog_on frame stack end address (Some bytes) regs fault is = go (ltb end address) (ltb (length bytes) (end - address)) is
  where
    go : (a b : Bool) → cond a (Err pe.EpilogBytes) (cond b (Err pe.EpilogBytes) (Ok (epilog_or_none (sequence_of frame (take (end - address) bytes))))) ≡ Err fault → OnEnd stack (Faulted fault regs)
    go true b h = let same : pe.EpilogBytes ≡ fault = cc in subst (λ (f : FrameFault). OnEnd stack (Faulted f regs)) same tt
    go false true h = let same : pe.EpilogBytes ≡ fault = cc in subst (λ (f : FrameFault). OnEnd stack (Faulted f regs)) same tt
    go false false h = absurd cc

framed_on : (memory : Image) (stack : Stack) (address : ℕ) (function : Option RuntimeFunction) (regs : Registers) → OnEnd stack (frame_end_of memory stack address function regs)
framed_on memory stack address None regs = return_on stack regs
framed_on memory stack address (Some function) regs = by_info (info_in function.unwind_info_address (memory function.unwind_info_address)) refl
  where
    by_epilog : (info : Info) (operations : List Placed) (epilog : Option (List FunctionEpilogInstruction)) → OnEnd stack (left_by memory stack info operations epilog regs)
    by_epilog info operations (Some instructions) = then_ends_on stack (epilog_run (frame_register_of info.header) stack instructions regs) (pop_return stack) (epilog_run_on (frame_register_of info.header) stack instructions regs) (λ left. return_on stack left)
    by_epilog info operations None =
        then_ends_on stack (run info.header stack (operations_alone operations) regs) (end_of_chain memory stack 32 (chained_of info)) (run_on info.header stack (operations_alone operations) regs) (λ left. linked_on memory stack 32 (chained_of info) left)

    by_tested : (info : Info) (due : Bool) (r : Result (Option (List FunctionEpilogInstruction)) FrameFault) → epilog_if_tested due memory (frame_register_of info.header) function.end_address address ≡ r → OnEnd stack (by_test memory stack address function info r regs)
    by_tested info false (Err fault) is = absurd cc
    by_tested info true (Err fault) is = epilog_on (frame_register_of info.header) stack function.end_address address (memory address) regs fault is
    by_tested info due (Ok epilog) is = by_epilog info (from_place (address - function.begin_address) (after_epilogs (operations_in info))) epilog

    by_info : (r : Result Info FrameFault) → info_in function.unwind_info_address (memory function.unwind_info_address) ≡ r → OnEnd stack (in_record memory stack address function r regs)
    by_info (Err fault) is = info_on stack function.unwind_info_address (memory function.unwind_info_address) regs fault is
    by_info (Ok info) is =
        let due = is_due function.end_address address (leading_epilogs (operations_in info)) in
        by_tested info due (epilog_if_tested due memory (frame_register_of info.header) function.end_address address) refl

abbrev OnPe : List Span → Result calls.Columns PeFault → Type 0
OnPe image (Ok columns) = Unit {0}
OnPe image (Err NoTable) = Unit {0}
OnPe image (Err (InFrame (pe.Memory rva))) = Unit {0}
OnPe image (Err (InFrame (pe.Info rva))) = Unit {0}
OnPe image (Err (InFrame pe.EpilogBytes)) = Unit {0}
OnPe image (Err (InFrame (pe.Stack a))) = word_at image a ≡ None
OnPe image (Err (InFrame pe.ChainLimit)) = Unit {0}

columns_on : (image : List Span) (old : calls.Columns) (end : FrameEnd) → OnEnd (word_at image) end → OnPe image (columns_at old end)
columns_on image old (Returned ret regs) on = tt
columns_on image old (Faulted (pe.Memory rva) regs) on = tt
columns_on image old (Faulted (pe.Info rva) regs) on = tt
columns_on image old (Faulted pe.EpilogBytes regs) on = tt
columns_on image old (Faulted (pe.Stack a) regs) on = on
columns_on image old (Faulted pe.ChainLimit regs) on = tt

pub pe_word : (image : List Span) (m : PeModule) (rva : ℕ) (columns : calls.Columns) (a : ℕ) → pe_step image m rva columns ≡ Err (InFrame (pe.Stack a)) → word_at image a ≡ None
pe_word image m rva columns a is = subst (OnPe image) is (by_table (table_of image m))
  where
    by_table : (o : Option (List ℕ)) → OnPe image (pe_steps.stepped_by image m rva columns o)
    by_table None = tt
    by_table (Some table) =
        let function = record_at (functions_of table) rva in
        columns_on image columns (frame_end_of (memory_of image m.base) (word_at image) rva function (registers_in columns)) (framed_on (memory_of image m.base) (word_at image) rva function (registers_in columns))
