-- The header of a frame table, and its table of descriptions: one pair for each, of the function's start and of the
-- description's address. LSB, section on the .eh_frame_hdr section.
use Rattle.std.specs.Prelude.{ℕ, ◌*◌, Bool, ◌||◌, Option, Some, None, Result, Ok, nat_lt, ◌==◌, if◌then◌else◌}
use Rattle.std.specs.Option.{option_map}
use Rattle.std.specs.Int.{w8}
use Rattle.unwind_definitions.specs.Faults.{Fault, UnsupportedPointerEncoding, UnknownVersion, ◌>>=◌, unless}
use Rattle.unwind_definitions.specs.Input.{Input, Reads, skip, number}
use Rattle.unwind_definitions.specs.PointerEncodings.{DW_EH_PE_absptr, DW_EH_PE_udata2, DW_EH_PE_udata4, DW_EH_PE_udata8, DW_EH_PE_sdata2, DW_EH_PE_sdata4, DW_EH_PE_sdata8, DW_EH_PE_pcrel, DW_EH_PE_omit}
use Rattle.unwind_definitions.specs.Pointers.{Bases, Pointer, format_of, encoding, value, pointer, direct}

-- where the frame table is, how many pairs there are, how their addresses are encoded and what they may be relative to,
-- and the bytes from the first pair on
pub record FrameHeader : Type 0 where
  pub frame : Pointer
  pub count : ℕ
  pub encoding : ℕ
  pub bases : Bases
  pub pairs : Input

-- What is relative to the data is relative to the header.
abbrev pub bases_in : ℕ → Bases → Bases
bases_in header bases = record bases { data_base = Some header }

-- a format alone, below every application: a value that is relative to nothing, and not the address of one
abbrev pub is_format : ℕ → Bool
is_format e = nat_lt e DW_EH_PE_pcrel

-- the number of pairs, by its encoding and that of the addresses; none, and no number, where one of the two is left out
abbrev pub pair_count : ℕ → ℕ → Reads ℕ
pair_count e addresses c = if (e == DW_EH_PE_omit) || (addresses == DW_EH_PE_omit) then Ok (0, c) else (unless (is_format e) UnsupportedPointerEncoding >>= λ _. value (format_of e) c)

-- the one version of a header
abbrev pub header_version : ℕ
header_version = 1

-- A header's bytes: the version; the encodings of the frame table's address, of the number of pairs and of their addresses;
-- the first two of these; and the pairs.
abbrev pub header : Bases → Input → Result FrameHeader Fault
header bases c = do
  version ← number w8 c
  _ ← unless (version.0 == header_version) UnknownVersion
  framed ← encoding version.1
  counted ← encoding framed.1
  addressed ← encoding counted.1
  frame ← pointer framed.0 (bases_in c.base bases) addressed.1
  count ← pair_count counted.0 addressed.0 frame.1
  Ok (record { frame = frame.0; count = count.0; encoding = addressed.0; bases = bases_in c.base bases; pairs = count.1 })

-- ---- the table

-- how many bytes a number of a format takes, where that doesn't vary
abbrev pub width_of : ℕ → Option ℕ
width_of format =
    if (format == DW_EH_PE_udata2) || (format == DW_EH_PE_sdata2) then Some 2
    else (if (format == DW_EH_PE_udata4) || (format == DW_EH_PE_sdata4) then Some 4
    else (if (format == DW_EH_PE_absptr) || (format == DW_EH_PE_udata8) || (format == DW_EH_PE_sdata8) then Some 8
    else None))

-- A table that can be searched: how many pairs it has, how many bytes each address of one takes, and how it is read.
pub record PairTable : Type 0 where
  pub count : ℕ
  pub width : ℕ
  pub encoding : ℕ
  pub bases : Bases
  pub pairs : Input

abbrev pub table_by : FrameHeader → ℕ → PairTable
table_by h width = record { count = h.count; width = width; encoding = h.encoding; bases = h.bases; pairs = h.pairs }

-- a header's table, where it has pairs, all of one size
abbrev pub table_in : FrameHeader → Option PairTable
table_in h = if h.count == 0 then None else option_map (table_by h) (width_of (format_of h.encoding))

-- a start, and the description's address after it
abbrev pub pair_from : ℕ → Bases → Input → Result (ℕ × ℕ) Fault
pair_from e bases c = do
  start ← direct e bases c
  place ← direct e bases start.1
  Ok (start.0, place.0)

abbrev pub pair_at : PairTable → ℕ → Result (ℕ × ℕ) Fault
pair_at t i = pair_from t.encoding t.bases (skip (i * (2 * t.width)) t.pairs)
