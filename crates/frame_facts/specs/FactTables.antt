-- When the tables of an ELF module say facts at an address. LSB, sections on the .eh_frame and .eh_frame_hdr sections.
use Rattle.std.specs.Prelude.{◌≡◌, ℕ, List, [], false, IsTrue}
use Rattle.std.specs.List.{Contains}
use Rattle.memory_image.specs.Image.{Span}
use Rattle.unwind_definitions.specs.Entries.{Fde}
use Rattle.unwind_definitions.specs.Row.{covers_pc}
use Rattle.unwind_definitions.specs.Scan.{fdes_of}
use Rattle.unwind_definitions.specs.DescribedRows.{HasRow}
use Rattle.unwind_definitions.specs.Module.{Module, Process, in_module, bases_of, DescribesModule}
use Rattle.frame_facts.specs.Facts.{Facts}
use Rattle.frame_facts.specs.FactRows.{SaysFacts}

-- An ELF module has tables that read: a frame table, of entries with lengths of four bytes, whose descriptions have nonempty
-- ranges that share no address; and where it has a header table, that lists them all. It needs to describe no function.
abbrev pub HasTables : List Span → Module → Type 0
HasTables image m = DescribesModule image m []

-- A module's tables say facts at an address: the description that contains the address, which isn't one of a signal's frame, has
-- a row there that says them.
pub record SaysFactsAt (image : List Span) (m : Module) (a : ℕ) (facts : Facts) : Type 0 where
  pub tables : HasTables image m
  pub fde : Fde
  pub listed : Contains (fdes_of tables.entries) fde
  pub covers : IsTrue (covers_pc fde a)
  pub unmarked : fde.cie.letters.signal ≡ false
  pub row : HasRow (bases_of m tables.frame) fde a (SaysFacts facts)

-- facts are said at an address: by the tables of the module that holds it
pub record AreSaidAt (p : Process) (a : ℕ) (facts : Facts) : Type 0 where
  pub home : Module
  pub known : Contains p.modules home
  pub inside : IsTrue (in_module a home)
  pub says : SaysFactsAt p.image home a facts
