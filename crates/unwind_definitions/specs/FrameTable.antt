-- When a frame table describes functions. Its entries have the form that compilers emit; those of other code are free.
-- LSB, section on the .eh_frame section; DWARF 5 section 6.4.
use Rattle.std.specs.Prelude.{◌≡◌, ◌≢◌, ◌⊎◌, ℕ, ◌+◌, ◌*◌, ◌-◌, ◌^◌, ◌<◌, ◌≤◌, Bool, ◌&&◌, List, [], ◌∷◌, ◌++◌, replicate, Some, None, Ok, IsFalse, MatchOption, ◌==◌}
use Rattle.std.specs.Int.{w32}
use Rattle.std.specs.List.{filter, list_any, Contains, AllByRecursion}
use Rattle.memory_image.specs.Image.{Span, word_at}
use Rattle.unwind_definitions.specs.Input.{Input, number, skip}
use Rattle.unwind_definitions.specs.Augmentation.{length_letter, language_letter, personality_letter, address_letter}
use Rattle.unwind_definitions.specs.CallFrameOpcodes.{DW_CFA_def_cfa, DW_CFA_offset}
use Rattle.unwind_definitions.specs.Columns as column
use Rattle.unwind_definitions.specs.PointerEncodings.{pcrel_sdata4, indirect_pcrel_sdata4}
use Rattle.unwind_definitions.specs.Pointers.{Bases, Pointer, Direct, Indirect}
use Rattle.unwind_definitions.specs.Entries.{Cie, Fde, Entry, ACie, AFde, AreEntries}
use Rattle.unwind_definitions.specs.Scan.{fdes_of}
use Rattle.unwind_definitions.specs.Function.{Function}
use Rattle.unwind_definitions.specs.DescribedRows.{negative, DescribesRows}
use Rattle.unwind_definitions.specs.LanguageTable.{LeadsToLanguage}

-- ---- the emitted form of a common information entry

-- zR, zPR and zPLR
abbrev pub IsEmittedAugmentation : List ℕ → Type 0
IsEmittedAugmentation text =
    (text ≡ length_letter ∷ address_letter ∷ [])
    ⊎ (text ≡ length_letter ∷ personality_letter ∷ address_letter ∷ [])
    ⊎ (text ≡ length_letter ∷ personality_letter ∷ language_letter ∷ address_letter ∷ [])

-- an indirect pointer whose cell holds a word
abbrev pub IsCell : List Span → Pointer → Type 0
IsCell image (Direct a) = ⊥
IsCell image (Indirect a) = word_at image a ≢ None

-- a personality is named by four signed bytes relative to their place, directly, or through a cell
abbrev pub IsEmittedPersonality : List Span → ℕ × Pointer → Type 0
IsEmittedPersonality image p = (p.0 ≡ pcrel_sdata4) ⊎ ((p.0 ≡ indirect_pcrel_sdata4) × IsCell image p.1)

-- At a function's start the CFA is the stack pointer plus 8, and the return address is just below it.
abbrev pub entry_rules : List ℕ
entry_rules = DW_CFA_def_cfa ∷ column.rsp ∷ 8 ∷ (64 * DW_CFA_offset + column.ra) ∷ 1 ∷ []

pub record IsEmittedCie (image : List Span) (cie : Cie) : Type 0 where
  pub version : cie.version ≡ 1
  pub code_factor : cie.code_factor ≡ 1
  pub data_factor : cie.data_factor ≡ negative 8
  pub return_column : cie.return_column ≡ column.ra
  pub augmentation : IsEmittedAugmentation cie.augmentation
  pub address : cie.letters.address ≡ Some pcrel_sdata4
  pub language : (cie.letters.language ≡ None) ⊎ (cie.letters.language ≡ Some pcrel_sdata4)
  pub personality : MatchOption cie.letters.personality (Unit {0}) (IsEmittedPersonality image)
  pub program : (nops : ℕ) × (cie.program.bytes ≡ entry_rules ++ replicate nops 0)

-- ---- the description of a function

-- a description's range is the function's
abbrev pub has_range_of : Function → Fde → Bool
has_range_of f fde = (fde.start == f.start) && (fde.start + fde.size == f.end)

-- A description of a function's code: of the emitted form, with the function's range and its rows.
pub record DescribesCode (image : List Span) (bases : Bases) (f : Function) (fde : Fde) : Type 0 where
  pub cie : IsEmittedCie image fde.cie
  pub earlier : fde.cie.offset < fde.offset
  pub start : fde.start ≡ f.start
  pub end : fde.start + fde.size ≡ f.end
  pub rows : DescribesRows bases f fde

-- A description of a function: of its code, and of what its language asks.
pub record DescribesFunction (image : List Span) (bases : Bases) (f : Function) (fde : Fde) : Type 0 where
  pub code : DescribesCode image bases f fde
  pub language : LeadsToLanguage image f fde.language

-- the one description in a list that has a function's range, and describes it
pub record HasDescription (image : List Span) (bases : Bases) (fdes : List Fde) (f : Function) : Type 0 where
  pub fde : Fde
  pub one : filter (has_range_of f) fdes ≡ fde ∷ []
  pub describes : DescribesFunction image bases f fde

-- a description's range stands before a function or after it
abbrev pub MeetsNot : Fde → Function → Type 0
MeetsNot fde f = (fde.start + fde.size ≤ f.start) ⊎ (f.end ≤ fde.start)

-- ---- the table

abbrev pub offset_of : Entry → ℕ
offset_of (ACie cie) = cie.offset
offset_of (AFde fde) = fde.offset

-- an entry's length is spelled by its first four bytes, and not by eight after them
abbrev pub HasShortLength : Input → Entry → Type 0
HasShortLength table e = (n : ℕ) × (rest : Input) × (number w32 (skip (offset_of e) table) ≡ Ok (n, rest)) × (n < 2 ^ 32 - 1)

-- A frame table describes functions: it is these entries, each function has one description there, and the other
-- descriptions, which are free in all else, meet none of the functions.
pub record DescribesFrames (image : List Span) (bases : Bases) (table : Input) (entries : List Entry) (functions : List Function) : Type 0 where
  pub reads : AreEntries bases table 0 entries
  pub lengths : AllByRecursion (HasShortLength table) entries
  pub each : AllByRecursion (HasDescription image bases (fdes_of entries)) functions
  pub foreign : (fde : Fde) → Contains (fdes_of entries) fde → IsFalse (list_any (λ f. has_range_of f fde) functions) → AllByRecursion (MeetsNot fde) functions
