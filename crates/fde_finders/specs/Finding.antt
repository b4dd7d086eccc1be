-- What a search for the description of a function answers. DWARF 5 section 6.4.1; LSB, section on .eh_frame.
use Rattle.std.specs.Prelude.{ℕ, List, Option, Some, None, Result, Ok, Err}
use Rattle.memory_image.specs.Image.{Span}
use Rattle.unwind_definitions.specs.declared.error.Error.{Error as Fault}
use Rattle.unwind_definitions.specs.Input.{Input}
use Rattle.unwind_definitions.specs.LanguageTable.{input_at}
use Rattle.unwind_definitions.specs.Module.{no_bases}
use Rattle.unwind_definitions.specs.Pointers.{Bases}
use Rattle.unwind_definitions.specs.Entries.{Fde}
use Rattle.unwind_definitions.specs.Scan.{scan}

-- a description, what the pointers of its table may be relative to, and the table
pub record FoundFde : Type 0 where
  pub fde : Fde
  pub bases : Bases
  pub table : Input

-- what a finder knows that pointers may be relative to: the text and the data
abbrev pub relative_to : Option ℕ → Option ℕ → Bases
relative_to text base = record no_bases { text = text; data_base = base }

-- the same, and a frame table's address
abbrev pub at_frame : Bases → ℕ → Bases
at_frame bases frame = record bases { frame = Some frame }

-- what the pointers of a frame table that is named by its address may be relative to
abbrev pub table_bases : Option ℕ → ℕ → Bases
table_bases text frame = record no_bases { text = text; frame = Some frame }

abbrev pub found_in : Bases → Input → Result Fde Fault → Option FoundFde
found_in bases table (Ok fde) = Some (record { fde = fde; bases = bases; table = table })
found_in bases table (Err e) = None

-- by a scan of a frame table: its first description that contains pc, unless an entry before it can't be read
abbrev pub scanned_in : Bases → Input → ℕ → Option FoundFde
scanned_in bases table pc = found_in bases table (scan bases table pc)

-- by a scan of the frame table at an address
abbrev pub scanned_by : Bases → List Span → ℕ → ℕ → Option FoundFde
scanned_by bases image frame pc = scanned_in (at_frame bases frame) (input_at image frame) pc

-- the same, where the text alone is known
abbrev pub found_in_text : Option ℕ → List Span → ℕ → ℕ → Option FoundFde
found_in_text text image frame pc = found_in (table_bases text frame) (input_at image frame) (scan (table_bases text frame) (input_at image frame) pc)
