-- The operations of an unwind record.
use Rattle.std.specs.Prelude.{List}
use Rattle.pe_unwind_info.specs.Header.{version_of}
use Rattle.pe_unwind_info.specs.Info.{Info}
use Rattle.pe_unwind_info.specs.Operations.{Placed, operations_of}

abbrev pub operations_in : Info → List Placed
operations_in info = operations_of (version_of info.header) info.slots
