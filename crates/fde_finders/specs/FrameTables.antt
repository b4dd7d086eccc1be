-- The frame table that a module names. LSB, sections on .eh_frame and .eh_frame_hdr.
use Rattle.std.specs.Prelude.{ℕ, List, Option, Some, None}
use Rattle.std.specs.Option.{option_map}
use Rattle.memory_image.specs.Image.{Span}
use Rattle.unwind_definitions.specs.Input.{Input}
use Rattle.unwind_definitions.specs.LanguageTable.{input_at}
use Rattle.unwind_definitions.specs.Pointers.{Bases}
use Rattle.unwind_definitions.specs.Header.{PairTable, table_in}
use Rattle.fde_finders.specs.declared.custom.FrameInfo.{FrameInfo}
use Rattle.fde_finders.specs.declared.custom.FrameInfoKind.{FrameInfoKind}
use Rattle.fde_finders.specs.declared.custom.FrameInfoKind.TheVariants.{EhFrame, EhFrameHdr}
use Rattle.fde_finders.specs.Finding.{at_frame, relative_to, table_bases}
use Rattle.fde_finders.specs.HeaderFinding.{Led, at_header, led_at}

-- a frame table, what its pointers may be relative to, and the table of the header that leads to it, if one does and has one
pub record FrameTable : Type 0 where
  pub entries : Input
  pub bases : Bases
  pub pairs : Option PairTable

abbrev pub led_table : Bases → List Span → Led → FrameTable
led_table known image l = record { entries = input_at image l.frame; bases = at_frame known l.frame; pairs = table_in l.header }

-- by the header at an address; none where it can't be read, or where its frame table's address isn't mapped
abbrev pub table_by_header : Bases → List Span → ℕ → Option FrameTable
table_by_header known image h = option_map (led_table (at_header known h) image) (led_at known image h)

abbrev pub table_by_kind : Option ℕ → FrameInfoKind → List Span → Option FrameTable
table_by_kind text (EhFrame frame) image = Some (record { entries = input_at image frame; bases = table_bases text frame; pairs = None })
table_by_kind text (EhFrameHdr header) image = table_by_header (relative_to text None) image header

-- the frame table that a module names, itself or by a header
abbrev pub table_by : FrameInfo → List Span → Option FrameTable
table_by info image = table_by_kind info.text_base info.kind image
