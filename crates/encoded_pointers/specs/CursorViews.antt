-- The code's cursor as a place in a table.
use Rattle.unwind_definitions.specs.Input.{Input}
use Rattle.encoded_pointers.specs.declared.cursor.Cursor.{Cursor}

abbrev pub at : Cursor → Input
at c = record { base = c.base; offset = c.offset; bytes = c.bytes.now }
