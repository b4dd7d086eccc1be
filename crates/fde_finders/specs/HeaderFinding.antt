-- Finding by the header of a frame table. LSB, section on the .eh_frame_hdr section.
use Rattle.std.specs.Prelude.{ℕ, List, Option, Some, None, Result, Ok, Err}
use Rattle.std.specs.Result.{result_ok}
use Rattle.memory_image.specs.Image.{Span, word_at}
use Rattle.unwind_definitions.specs.declared.error.Error.{Error as Fault}
use Rattle.unwind_definitions.specs.Input.{Input}
use Rattle.unwind_definitions.specs.LanguageTable.{input_at}
use Rattle.unwind_definitions.specs.Pointers.{Bases, Pointer, Direct, Indirect}
use Rattle.unwind_definitions.specs.Entries.{Fde}
use Rattle.unwind_definitions.specs.Header.{FrameHeader, PairTable, header, table_in}
use Rattle.unwind_definitions.specs.HeaderSearch.{table_answer}
use Rattle.fde_finders.specs.Finding.{FoundFde, at_frame, scanned_in}

-- what a header's pointers may be relative to: what is known, and the header
abbrev pub at_header : Bases → ℕ → Bases
at_header bases h = record bases { hdr = Some h }

-- ---- where a header leads to

-- a header that can be read, and the address of its frame table
pub record Led : Type 0 where
  pub header : FrameHeader
  pub frame : ℕ

-- the frame table's address, or that in its cell
abbrev pub led_address : List Span → Pointer → Option ℕ
led_address image (Direct a) = Some a
led_address image (Indirect a) = word_at image a

abbrev pub led_to : FrameHeader → Option ℕ → Option Led
led_to header None = None
led_to header (Some frame) = Some (record { header = header; frame = frame })

abbrev pub led_by : List Span → Result FrameHeader Fault → Option Led
led_by image (Err e) = None
led_by image (Ok header) = led_to header (led_address image header.frame)

-- the header at an address; none where it can't be read, or where its frame table's address isn't mapped
abbrev pub led_at : Bases → List Span → ℕ → Option Led
led_at bases image h = led_by image (header (at_header bases h) (input_at image h))

-- ---- what is found

-- what a header's table finds, where there is one and it gives no error
abbrev pub fde_by_table : Bases → Input → ℕ → Option PairTable → Option Fde
fde_by_table bases frames pc None = None
fde_by_table bases frames pc (Some t) = result_ok (table_answer bases frames t pc)

-- what was found, and else what a scan finds
abbrev pub or_scanned : Bases → Input → ℕ → Option Fde → Option FoundFde
or_scanned bases frames pc (Some fde) = Some (record { fde = fde; bases = bases; table = frames })
or_scanned bases frames pc None = scanned_in bases frames pc

-- by a header's table, and by the scan where there is none or it gives an error
abbrev pub by_table : Bases → Input → ℕ → Option PairTable → Option FoundFde
by_table bases frames pc t = or_scanned bases frames pc (fde_by_table bases frames pc t)

abbrev pub by_led : Bases → List Span → ℕ → Option Led → Option FoundFde
by_led bases image pc None = None
by_led bases image pc (Some l) = by_table (at_frame bases l.frame) (input_at image l.frame) pc (table_in l.header)

-- by the header at an address; nothing where it leads to no frame table
unfoldable pub found_by_header : Bases → List Span → ℕ → ℕ → Option FoundFde
found_by_header bases image h pc = by_led (at_header bases h) image pc (led_at bases image h)

-- ---- among how many

abbrev pub pairs_in : Option PairTable → ℕ
pairs_in None = 0
pairs_in (Some t) = t.count

abbrev pub pairs_led : Option Led → ℕ
pairs_led None = 0
pairs_led (Some l) = pairs_in (table_in l.header)

-- how many pairs the table has that is searched by the header at an address
unfoldable pub pairs_by_header : Bases → List Span → ℕ → ℕ
pairs_by_header bases image h = pairs_led (led_at bases image h)
