-- When the compact unwinding of a Mach-O module describes functions. Apple's compact unwinding,
-- mach-o/compact_unwind_encoding.h; the frame data of DWARF that it may point to, and language tables, are of the form that
-- compilers emit.
use Rattle.std.specs.Prelude.{◌≡◌, ◌≢◌, ℕ, ◌+◌, ◌*◌, ◌≤◌, List, [], ◌∷◌, length, Option, Some, None, Ok, MatchOption, IsTrue, IsFalse, slice_get, ◌==◌, if◌then◌else◌}
use Rattle.std.specs.List.{AllByRecursion, Contains, list_any}
use Rattle.std.specs.Option.{option_map}
use Rattle.memory_image.specs.Image.{Span, table_at, half_at}
use Rattle.unwind_definitions.specs.Pointers.{Pointer, Direct}
use Rattle.unwind_definitions.specs.Entries.{Fde, AFde, entry_at}
use Rattle.unwind_definitions.specs.Caller.{◌+w◌}
use Rattle.unwind_definitions.specs.State.{CalleeSaved, RBP, is_same}
use Rattle.unwind_definitions.specs.Prologue.{Followed, Step, Push, SetFrame, steps_of, depth, frame_depth, distance}
use Rattle.unwind_definitions.specs.Function.{Function}
use Rattle.unwind_definitions.specs.FrameTable.{DescribesFunction}
use Rattle.unwind_definitions.specs.LanguageTable.{input_at, LeadsToLanguage}
use Rattle.macho_unwind_info.specs.declared.function.Function.{Function as Listed}
use Rattle.macho_unwind_info.specs.declared.opcodes.x86_64.OpcodeX86_64.{OpcodeX86_64}
use Rattle.macho_unwind_info.specs.declared.opcodes.x86_64.OpcodeX86_64.TheVariants.{Null, FrameBased, FramelessImmediate, FramelessIndirect, Dwarf, InvalidFrameless, UnrecognizedKind}
use Rattle.macho_unwind_info.specs.declared.raw.unaligned.U32.{U32}
use Rattle.macho_unwind_info.specs.Bits.{bits}
use Rattle.macho_unwind_info.specs.Described.{HasDescribedPages}
use Rattle.macho_unwind_info.specs.LanguageTables.{personalities_of, has_language_table, listed_table, HasDescribedTables}
use Rattle.macho_unwind_info.specs.Listing.{Section, section_of, listing}
use Rattle.macho_unwind_info.specs.X86_64.{opcode_of}
use Rattle.format_definitions.specs.CompactStep.{fields_up, registers_back, frame_bases, MachoModule}

-- ---- what an opcode says of a prologue

-- Field j names a register whose slot is at RBP - offset + 8j, where RBP is 16 below the caller's stack pointer.
pub record IsField (steps : List Step) (offset j : ℕ) (fields : List (Option CalleeSaved)) (r : CalleeSaved) : Type 0 where
  pub low : 8 * j + 8 ≤ offset
  pub names : slice_get fields j ≡ Some (Some r)
  pub other : r ≢ RBP
  pub at : ℕ
  pub saved : distance r steps ≡ Some at
  pub slot : at + 8 * j ≡ 16 + offset

-- RBP is pushed and set first. Each other register that is saved has its field among those that fit below RBP, and these name
-- no others.
pub record IsFrameBased (steps : List Step) (offset : ℕ) (fields : List (Option CalleeSaved)) : Type 0 where
  pub rest : List Step
  pub begins : steps ≡ Push (Followed RBP) ∷ SetFrame 0 ∷ rest
  pub each : (r : CalleeSaved) → r ≢ RBP → distance r steps ≢ None → (j : ℕ) × IsField steps offset j fields r
  pub others : (j : ℕ) (r : CalleeSaved) → 8 * j + 8 ≤ offset → slice_get fields j ≡ Some (Some r) → IsField steps offset j fields r

-- registers are saved at a distance, the next 8 farther, and so on
abbrev pub AreSaved : List Step → ℕ → List CalleeSaved → Type 0
AreSaved steps d [] = Unit {0}
AreSaved steps d (r ∷ rs) = (distance r steps ≡ Some d) × AreSaved steps (d + 8) rs

-- RBP is not set, the size is the whole depth, and just below the return address the listed registers are saved, and no others.
pub record IsFrameless (steps : List Step) (size : ℕ) (rs : List CalleeSaved) : Type 0 where
  pub no_set : frame_depth steps ≡ None
  pub is_depth : size ≡ depth steps
  pub saved : AreSaved steps 16 rs
  pub all : (r : CalleeSaved) → distance r steps ≢ None → IsTrue (list_any (is_same r) rs)

-- the size stands in the code of the function
pub record IsIndirect (image : List Span) (f : Function) (at adjust : ℕ) (rs : List CalleeSaved) : Type 0 where
  pub size : ℕ
  pub mapped : half_at image (f.start +w at) ≡ Some size
  pub frameless : IsFrameless (steps_of f.prologue) (adjust + size) rs

-- ---- where a section has the language table of a function

-- bits 28 and 29 of an opcode: the place of the function's personality in the section's list, counted from 1, 0 for none
abbrev pub personality_index : ℕ → ℕ
personality_index opcode = bits opcode 28 2

-- The function has a language table exactly where its opcode names a personality, has bit 30 set, and the section lists a table
-- for its start.
abbrev pub table_offset_of : Section → Listed → Option ℕ
table_offset_of info listed =
    if personality_index listed.opcode == 0 then None
    else (if has_language_table listed.opcode then listed_table info listed.start_address else None)

-- so far from the module's base
abbrev pub language_pointer : Section → ℕ → Listed → Option Pointer
language_pointer info base listed = option_map (λ (offset : ℕ). Direct (base +w offset)) (table_offset_of info listed)

module _ (image : List Span) where
  -- the entry at an offset of the frame data describes the function, with the language table that it names
  pub record IsDwarf (f : Function) (frames offset : ℕ) : Type 0 where
    pub fde : Fde
    pub next : ℕ
    pub reads : entry_at (frame_bases frames) (input_at image frames) offset ≡ Ok (Some (record { entry = AFde fde; next = next }))
    pub describes : DescribesFunction image (frame_bases frames) f fde

  -- an opcode says what a function's prologue has done; only frame data tells of an outermost function
  abbrev pub IsOpcodeOf : Option ℕ → Function → OpcodeX86_64 → Type 0
  IsOpcodeOf frames f (FrameBased offset fields) = IsFalse f.outermost × IsFrameBased (steps_of f.prologue) offset (fields_up fields)
  IsOpcodeOf frames f (FramelessImmediate size registers) = IsFalse f.outermost × IsFrameless (steps_of f.prologue) size (registers_back registers)
  IsOpcodeOf frames f (FramelessIndirect at adjust registers) = IsFalse f.outermost × IsIndirect image f at adjust (registers_back registers)
  IsOpcodeOf frames f (Dwarf offset) = MatchOption frames ⊥ (λ (table : ℕ). IsDwarf f table offset)
  IsOpcodeOf frames f Null = ⊥
  IsOpcodeOf frames f InvalidFrameless = ⊥
  IsOpcodeOf frames f (UnrecognizedKind k) = ⊥

  -- ---- what a section says of a function's language

  -- The opcode names no personality, or one of those that the section lists; and the language table that the section has for the
  -- function is the function's.
  pub record NamesLanguage (info : Section) (personalities : List U32) (base : ℕ) (listed : Listed) (f : Function) : Type 0 where
    pub index : personality_index listed.opcode ≤ length personalities
    pub leads : LeadsToLanguage image f (language_pointer info base listed)

  -- a description in frame data says of itself what the function's language is
  abbrev pub NamesUnlessDwarf : Section → List U32 → ℕ → Listed → Function → OpcodeX86_64 → Type 0
  NamesUnlessDwarf info personalities base listed f (Dwarf offset) = Unit {0}
  NamesUnlessDwarf info personalities base listed f _ = NamesLanguage info personalities base listed f

  -- ---- modules

  -- a function of the listing is a function, moved by the module's base
  pub record DescribesListed (info : Section) (personalities : List U32) (m : MachoModule) (listed : Listed) (f : Function) : Type 0 where
    pub start : f.start ≡ m.base + listed.start_address
    pub end : f.end ≡ m.base + listed.end_address
    pub inside : listed.end_address ≤ m.size
    pub opcode : IsOpcodeOf m.frames f (opcode_of listed.opcode)
    pub language : NamesUnlessDwarf info personalities m.base listed f (opcode_of listed.opcode)

  pub record HasListed (info : Section) (personalities : List U32) (m : MachoModule) (f : Function) : Type 0 where
    pub listed : Listed
    pub among : Contains (listing info) (Ok listed)
    pub describes : DescribesListed info personalities m listed f

  -- A Mach-O module describes functions: its section can be parsed, its personalities read, its pages and their parts of the
  -- list of language tables are as a linker writes them, and each function is one of its listing.
  pub record DescribesMacho (m : MachoModule) (functions : List Function) : Type 0 where
    pub info : Section
    pub parses : section_of (table_at image m.unwind_info) ≡ Ok info
    pub personalities : List U32
    pub named : personalities_of info ≡ Ok personalities
    pub pages : HasDescribedPages info
    pub tables : HasDescribedTables info
    pub each : AllByRecursion (HasListed info personalities m) functions
