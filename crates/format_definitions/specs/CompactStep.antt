-- From a frame in a Mach-O module to its caller, by the opcode of its function. Apple's compact unwinding,
-- mach-o/compact_unwind_encoding.h, x86-64 modes.
use Rattle.std.specs.Prelude.{ℕ, ◌+◌, ◌/◌, Bool, false, List, [], ◌∷◌, map, reverse, take, Option, Some, None, Result, Ok, Err, ◌==◌, if◌then◌else◌}
use Rattle.std.specs.List.{filter_map}
use Rattle.std.specs.Option.{option_map, option_map_or}
use Rattle.memory_image.specs.Image.{Span, table_at, half_at}
use Rattle.memory_image.specs.Results.{◌>>=◌, result_map}
use Rattle.unwind_definitions.specs.Columns as column
use Rattle.unwind_definitions.specs.declared.error.Error.{Error as Fault}
use Rattle.unwind_definitions.specs.Pointers.{Bases}
use Rattle.unwind_definitions.specs.Entries.{Fde}
use Rattle.unwind_definitions.specs.HeaderSearch.{fde_at}
use Rattle.unwind_definitions.specs.Row.{RowInstructions, row_at}
use Rattle.unwind_definitions.specs.Expressions.{evaluation}
use Rattle.unwind_definitions.specs.Caller.{◌+w◌, Columns, StepFault, Table, Unmapped, x86_64, word_or_fault, column_or_fault, caller_of}
use Rattle.unwind_definitions.specs.State.{CalleeSaved, RBX, RBP, R12, R13, R14, R15, column_of}
use Rattle.unwind_definitions.specs.DescribedRows.{negative}
use Rattle.unwind_definitions.specs.LanguageTable.{input_at}
use Rattle.unwind_definitions.specs.Module.{no_bases}
use Rattle.macho_unwind_info.specs.declared.error.Error.{Error}
use Rattle.macho_unwind_info.specs.declared.function.Function.{Function as Listed}
use Rattle.macho_unwind_info.specs.declared.opcodes.x86_64.RegisterNameX86_64.{RegisterNameX86_64}
use Rattle.macho_unwind_info.specs.declared.opcodes.x86_64.RegisterNameX86_64.TheVariants as name
use Rattle.macho_unwind_info.specs.declared.opcodes.x86_64.OpcodeX86_64.{OpcodeX86_64}
use Rattle.macho_unwind_info.specs.declared.opcodes.x86_64.OpcodeX86_64.TheVariants.{Null, FrameBased, FramelessImmediate, FramelessIndirect, Dwarf, InvalidFrameless, UnrecognizedKind}
use Rattle.macho_unwind_info.specs.Listing.{Section, section_of}
use Rattle.macho_unwind_info.specs.Lookup.{lookup_of}
use Rattle.macho_unwind_info.specs.X86_64.{opcode_of}

-- ---- registers

abbrev pub saved_as : RegisterNameX86_64 → CalleeSaved
saved_as name.Rbx = RBX
saved_as name.R12 = R12
saved_as name.R13 = R13
saved_as name.R14 = R14
saved_as name.R15 = R15
saved_as name.Rbp = RBP

abbrev pub saved_in : Option RegisterNameX86_64 → Option CalleeSaved
saved_in o = option_map saved_as o

-- the fields of an opcode from the lowest up; it keeps the highest first
abbrev pub fields_up : List (Option RegisterNameX86_64) → List (Option CalleeSaved)
fields_up fields = map saved_in (reverse fields)

-- the registers that an opcode lists, from the last back
abbrev pub registers_back : List (Option RegisterNameX86_64) → List CalleeSaved
registers_back registers = filter_map saved_in (reverse registers)

-- ---- reads

-- columns with another value in one
abbrev pub with_column : Columns → ℕ → ℕ → Columns
with_column columns c v = λ k. if k == c then Some v else columns k

-- the little-endian number of the four bytes at an address, which have to be mapped
abbrev pub half_or_fault : List Span → ℕ → Result ℕ StepFault
half_or_fault image a = option_map_or Ok (half_at image a) (Err (Unmapped a))

-- registers from words upwards, the first at an address; a field without a register is passed
abbrev pub read_up : List Span → ℕ → List (Option CalleeSaved) → Columns → Result Columns StepFault
read_up image a [] columns = Ok columns
read_up image a (None ∷ fields) columns = read_up image (a +w 8) fields columns
read_up image a (Some r ∷ fields) columns = word_or_fault image a >>= (λ v. read_up image (a +w 8) fields (with_column columns (column_of r) v))

-- registers from words downwards
abbrev pub read_down : List Span → ℕ → List CalleeSaved → Columns → Result Columns StepFault
read_down image a [] columns = Ok columns
read_down image a (r ∷ rs) columns = word_or_fault image a >>= (λ v. read_down image (a +w negative 8) rs (with_column columns (column_of r) v))

-- ---- the modes

-- The fields lie so far below the word at RBP, as many as fit there. That word is the caller's RBP, and the return address
-- stands above it.
abbrev pub by_frame : List Span → ℕ → List (Option CalleeSaved) → Columns → ℕ → Result Columns StepFault
by_frame image offset fields columns rbp =
    read_up image (rbp +w negative offset) (take (offset / 8) fields) columns >>= (λ read.
    word_or_fault image rbp >>= (λ saved.
    word_or_fault image (rbp +w 8) >>= (λ ret.
    Ok (with_column (with_column (with_column read column.rbp saved) column.rsp (rbp +w 16)) column.ra ret))))

-- below the CFA the return address, and then the registers from the last back
abbrev pub by_cfa : List Span → List CalleeSaved → Columns → ℕ → Result Columns StepFault
by_cfa image rs columns cfa =
    word_or_fault image (cfa +w negative 8) >>= (λ ret.
    read_down image (cfa +w negative 16) rs (with_column (with_column columns column.rsp cfa) column.ra ret))

-- the frame data that was handed in: a table at an address, whose pointers are relative to their place or to the table
abbrev pub frame_bases : ℕ → Bases
frame_bases frames = record no_bases { frame = Some frames }

-- where a module lies, its section of compact unwinding, and its frame data
pub record MachoModule : Type 0 where
  pub base : ℕ
  pub size : ℕ
  pub unwind_info : ℕ
  pub frames : Option ℕ

-- What a step gives: the caller's columns, and whether the frame was one that a signal's delivery made, so that its caller
-- stands where it was interrupted.
pub record Stepped : Type 0 where
  pub columns : Columns
  pub signal : Bool

abbrev pub stepped_with : Bool → Result Columns StepFault → Result Stepped StepFault
stepped_with signal = result_map (λ columns. record { columns = columns; signal = signal })

module _ (image : List Span) where
  -- by the row at an address of a description in the frame data
  abbrev pub by_row : Bool → Columns → Result RowInstructions Fault → Result Stepped StepFault
  by_row signal columns (Ok run) = stepped_with signal (caller_of x86_64 (evaluation image) image columns run)
  by_row signal columns (Err e) = Err (Table e)

  abbrev pub by_description : ℕ → ℕ → Columns → Result Fde Fault → Result Stepped StepFault
  by_description frames a columns (Ok fde) = by_row fde.cie.letters.signal columns (row_at (frame_bases frames) fde a)
  by_description frames a columns (Err e) = Err (Table e)

  -- The caller from the columns of a frame whose function begins at an address, by an opcode alone. None where the opcode gives
  -- none: it points to frame data, or is null, invalid or of an unknown kind.
  abbrev pub opcode_step : ℕ → Columns → OpcodeX86_64 → Option (Result Stepped StepFault)
  opcode_step start columns (FrameBased offset fields) = Some (stepped_with false (column_or_fault (columns column.rbp) >>= by_frame image offset (fields_up fields) columns))
  opcode_step start columns (FramelessImmediate size registers) = Some (stepped_with false (column_or_fault (columns column.rsp) >>= (λ sp. by_cfa image (registers_back registers) columns (sp +w size))))
  opcode_step start columns (FramelessIndirect at adjust registers) =
      Some (stepped_with false (half_or_fault image (start +w at) >>= (λ size. column_or_fault (columns column.rsp) >>= (λ sp. by_cfa image (registers_back registers) columns (sp +w (adjust + size))))))
  opcode_step start columns (Dwarf offset) = None
  opcode_step start columns Null = None
  opcode_step start columns InvalidFrameless = None
  opcode_step start columns (UnrecognizedKind k) = None

  -- The same at an address, where frame data may have been handed in: by the description at the offset to which the opcode
  -- points.
  abbrev pub compact_step : Option ℕ → ℕ → ℕ → Columns → OpcodeX86_64 → Option (Result Stepped StepFault)
  compact_step frames start a columns (Dwarf offset) = option_map (λ table. by_description table a columns (fde_at (frame_bases table) (input_at image table) offset)) frames
  compact_step frames start a columns o = opcode_step start columns o

-- ---- the step

-- the section or a look-up in it can't be read, the opcode gives no caller, or what a caller is found from can't be read
pub data MachoFault : Type 0 where
  InSection : Error → MachoFault
  NoForm : MachoFault
  InStep : StepFault → MachoFault

abbrev pub answered_by : Option (Result Stepped StepFault) → Result (Option Stepped) MachoFault
answered_by None = Err NoForm
answered_by (Some (Ok caller)) = Ok (Some caller)
answered_by (Some (Err e)) = Err (InStep e)

module _ (image : List Span) (m : MachoModule) where
  abbrev pub stepped_by : ℕ → Columns → Result (Option Listed) Error → Result (Option Stepped) MachoFault
  stepped_by rva columns (Err e) = Err (InSection e)
  stepped_by rva columns (Ok None) = Ok None
  stepped_by rva columns (Ok (Some listed)) = answered_by (compact_step image m.frames (m.base + listed.start_address) (m.base + rva) columns (opcode_of listed.opcode))

  abbrev pub found_in : ℕ → Columns → Result Section Error → Result (Option Stepped) MachoFault
  found_in rva columns (Err e) = Err (InSection e)
  found_in rva columns (Ok info) = stepped_by rva columns (lookup_of info rva)

  -- The caller, from the columns of a frame at an address relative to the module's base; none where the section has no
  -- function there.
  abbrev pub macho_step : ℕ → Columns → Result (Option Stepped) MachoFault
  macho_step rva columns = found_in rva columns (section_of (table_at image m.unwind_info))
