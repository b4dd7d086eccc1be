-- The entries of a frame table: common information entries (CIE), and frame description entries (FDE) that name one.
-- LSB, section on the .eh_frame section; DWARF 5 section 6.4.1.
use Rattle.std.specs.Prelude.{◌≡◌, ℕ, ◌+◌, ◌-◌, ◌^◌, Bool, true, false, not, List, [], ◌∷◌, length, Option, Some, None, Result, Ok, Err, nat_lt, nat_le, ◌==◌, if◌then◌else◌}
use Rattle.std.specs.Option.{unwrap_or}
use Rattle.std.specs.Int.{w8, w32, w64}
use Rattle.unwind_definitions.specs.Faults.{Fault, UnsupportedAddressSize, UnknownVersion, UnknownAugmentation, NotCie, AddressOverflow, ◌>>=◌, unless}
use Rattle.unwind_definitions.specs.Input.{Input, Reads, skip, split, number, uleb, sleb, text}
use Rattle.unwind_definitions.specs.Augmentation.{is_version, is_augmentation, language_letter, personality_letter, address_letter, signal_letter}
use Rattle.unwind_definitions.specs.PointerEncodings.{DW_EH_PE_absptr, DW_EH_PE_omit}
use Rattle.unwind_definitions.specs.Pointers.{Bases, Pointer, encoding, pointer, value, direct, format_of}
use Rattle.unwind_definitions.specs.Instructions.{Coding, column}

-- what the letters of an augmentation say: the encoding of language table pointers, the personality with its encoding,
-- the encoding of addresses, and whether it is a signal's frame
pub record Letters : Type 0 where
  pub language : Option ℕ
  pub personality : Option (ℕ × Pointer)
  pub address : Option ℕ
  pub signal : Bool

pub record Cie : Type 0 where
  pub offset : ℕ
  pub version : ℕ
  pub code_factor : ℕ
  pub data_factor : ℕ
  pub return_column : ℕ
  pub augmentation : List ℕ
  pub letters : Letters
  pub program : Input

pub record Fde : Type 0 where
  pub offset : ℕ
  pub cie : Cie
  pub start : ℕ
  pub size : ℕ
  pub language : Option Pointer
  pub program : Input

-- the encoding of addresses; where it isn't named they are whole words
abbrev pub address_encoding : Cie → ℕ
address_encoding cie = unwrap_or cie.letters.address DW_EH_PE_absptr

abbrev pub coding_of : Bases → Cie → Coding
coding_of bases cie = record { code_factor = cie.code_factor; data_factor = cie.data_factor; address = address_encoding cie; bases = bases }

-- ---- common information entries

-- one letter, with what it takes of the augmentation's bytes: L, P, R, S
abbrev pub letter : Bases → ℕ → Letters → Reads Letters
letter bases l before =
    if l == language_letter then (λ c. encoding c >>= λ e. Ok (record before { language = Some e.0 }, e.1))
    else (if l == personality_letter then (λ c. encoding c >>= λ e. pointer e.0 bases e.1 >>= λ p. Ok (record before { personality = Some (e.0, p.0) }, p.1))
    else (if l == address_letter then (λ c. encoding c >>= λ e. Ok (record before { address = Some e.0 }, e.1))
    else (if l == signal_letter then (λ c. Ok (record before { signal = true }, c))
    else (λ c. Err UnknownAugmentation))))

-- one letter after another; a later one of a kind replaces an earlier one
abbrev pub letters_from : Bases → List ℕ → Letters → Input → Result Letters Fault
letters_from bases [] before c = Ok before
letters_from bases (l ∷ ls) before c = letter bases l before c >>= λ r. letters_from bases ls r.0 r.1

abbrev pub no_letters : Letters
no_letters = record { language = None; personality = None; address = None; signal = false }

-- after a z a length, and so many bytes for the other letters
abbrev pub augmentation_data : Bases → List ℕ → Reads Letters
augmentation_data bases [] c = Ok (no_letters, c)
augmentation_data bases (z ∷ ls) c = do
  n ← uleb c
  block ← split n.0 n.1
  found ← letters_from bases ls no_letters block.0
  Ok (found, block.1)

-- version 4 names the sizes of addresses, 8, and of segments, 0
abbrev pub sizes : ℕ → Reads (Unit {0})
sizes version c = if version == 4 then (do
  a ← number w8 c
  unless (a.0 == 8) UnsupportedAddressSize >>= λ _. number w8 a.1 >>= λ s. unless (s.0 == 0) UnsupportedAddressSize >>= λ _. Ok (tt, s.1)) else Ok (tt, c)

-- a byte in version 1
abbrev pub return_column : ℕ → Reads ℕ
return_column version c = if version == 1 then number w8 c else column c

-- what stands after the first four bytes
abbrev pub cie_body : Bases → ℕ → Input → Result Cie Fault
cie_body bases offset c = do
  version ← number w8 c
  _ ← unless (is_version version.0) UnknownVersion
  augmentation ← text version.1
  _ ← unless (is_augmentation augmentation.0) UnknownAugmentation
  size ← sizes version.0 augmentation.1
  code ← uleb size.1
  data_factor ← sleb code.1
  ret ← return_column version.0 data_factor.1
  found ← augmentation_data bases augmentation.0 ret.1
  Ok (record { offset = offset; version = version.0; code_factor = code.0; data_factor = data_factor.0; return_column = ret.0; augmentation = augmentation.0; letters = found.0; program = found.1 })

-- ---- frame description entries

-- whether a pointer is read by an encoding, if there is one: not by the one that says that there is none
abbrev pub is_pointing : Option ℕ → Bool
is_pointing None = false
is_pointing (Some e) = not (e == DW_EH_PE_omit)

-- with the letter L a pointer, unless its encoding says that there is none
abbrev pub language_pointer : Bases → ℕ → Option ℕ → Input → Result (Option Pointer) Fault
language_pointer bases start None c = Ok None
language_pointer bases start (Some e) c = if e == DW_EH_PE_omit then Ok None else (pointer e (record bases { func = Some start }) c >>= λ p. Ok (Some p.0))

-- after a z a length, and so many bytes with the language table's pointer
abbrev pub fde_data : Bases → Cie → ℕ → Reads (Option Pointer)
fde_data bases cie start c = if length cie.augmentation == 0 then Ok (None, c) else (do
  n ← uleb c
  block ← split n.0 n.1
  p ← language_pointer bases start cie.letters.language block.0
  Ok (p, block.1))

-- what stands after the first four bytes: a start, a length in the same format, and the program
abbrev pub fde_body : Bases → Cie → ℕ → Input → Result Fde Fault
fde_body bases cie offset c = do
  start ← direct (address_encoding cie) bases c
  len ← value (format_of (address_encoding cie)) start.1
  _ ← unless (nat_le (start.0 + len.0) (2 ^ 64 - 1)) AddressOverflow
  found ← fde_data bases cie start.0 len.1
  Ok (record { offset = offset; cie = cie; start = start.0; size = len.0; language = found.0; program = found.1 })

-- ---- entries of either kind

pub data Entry : Type 0 where
  ACie : Cie → Entry
  AFde : Fde → Entry

-- what stands at an offset of a table: an entry, and the offset of the next
pub record Found : Type 0 where
  pub entry : Entry
  pub next : ℕ

-- a length that four bytes spell, or where they are all set the eight after them
abbrev pub length_after : ℕ × Input → Result (ℕ × Input) Fault
length_after n = if n.0 == 2 ^ 32 - 1 then number w64 n.1 else Ok n

-- The body of an entry, None at the end of the list: at the end of the table, or at a length of 0.
abbrev pub body : Reads (Option Input)
body c = if length c.bytes == 0 then Ok (None, c) else (number w32 c >>= λ n.
    if n.0 == 0 then Ok (None, n.1) else (length_after n >>= λ len. split len.0 len.1 >>= λ b. Ok (Some b.0, b.1)))

abbrev pub cie_in : Bases → ℕ → Option Input → Result Cie Fault
cie_in bases offset None = Err NotCie
cie_in bases offset (Some b) = number w32 b >>= λ id. if id.0 == 0 then cie_body bases offset id.1 else Err NotCie

-- the common information entry at an offset
abbrev pub cie_at : Bases → Input → ℕ → Result Cie Fault
cie_at bases table offset = body (skip offset table) >>= λ b. cie_in bases offset b.0

-- The first four bytes of a body are 0 for a CIE, else the distance from there back to the CIE of an FDE.
abbrev pub entry_in : Bases → Input → ℕ → Input → Result Entry Fault
entry_in bases table offset b = do
  id ← number w32 b
  if id.0 == 0 then (cie_body bases offset id.1 >>= λ cie. Ok (ACie cie))
      else (if nat_lt b.offset id.0 then Err NotCie
      else (cie_at bases table (b.offset - id.0) >>= λ cie. fde_body bases cie offset id.1 >>= λ fde. Ok (AFde fde)))

abbrev pub found_in : Bases → Input → ℕ → Option Input → ℕ → Result (Option Found) Fault
found_in bases table offset None next = Ok None
found_in bases table offset (Some b) next = entry_in bases table offset b >>= λ e. Ok (Some (record { entry = e; next = next }))

-- what stands at an offset, None at the end of the list
unfoldable pub entry_at : Bases → Input → ℕ → Result (Option Found) Fault
entry_at bases table offset = body (skip offset table) >>= λ b. found_in bases table offset b.0 b.1.offset

-- the table from an offset on is these entries, and then the list's end
abbrev pub AreEntries : Bases → Input → ℕ → List Entry → Type 0
AreEntries bases table offset [] = entry_at bases table offset ≡ Ok None
AreEntries bases table offset (e ∷ es) = (next : ℕ) × (entry_at bases table offset ≡ Ok (Some (record { entry = e; next = next }))) × AreEntries bases table next es
