-- A frame table that a module names, as that of the definitions.
use Rattle.std.specs.Option.{option_map}
use Rattle.encoded_pointers.specs.PointerViews.{bases_of}
use Rattle.eh_frame.specs.EntryViews.{table_of}
use Rattle.eh_frame.specs.HeaderViews.{pairs_of}
use Rattle.fde_finders.specs.declared.naming.NamedTable.{NamedTable}
use Rattle.fde_finders.specs.FrameTables.{FrameTable}

abbrev pub named_of : NamedTable → FrameTable
named_of t = record { entries = table_of t.frames; bases = bases_of t.bases; pairs = option_map pairs_of t.pairs }
