-- What the code reads of the language tables of C++ functions, in the words of the definitions.
use Rattle.std.specs.Option.{option_map}
use Rattle.encoded_pointers.specs.CursorViews.{at}
use Rattle.unwinding_frames.specs.declared.frame.StepError.{StepError}
use Rattle.unwinding_frames.specs.declared.frame.StepError.TheVariants as frame
use Rattle.unwinding_frames.specs.declared.cxx.error.CxxError.{CxxError}
use Rattle.unwinding_frames.specs.declared.cxx.error.CxxError.TheVariants.{Table, Unmapped}
use Rattle.unwinding_frames.specs.declared.cxx.actions.CxxAction.{CxxAction}
use Rattle.unwinding_frames.specs.declared.cxx.actions.CxxAction.TheVariants as code
use Rattle.unwinding_frames.specs.declared.cxx.actions.ActionRecord.{ActionRecord}
use Rattle.unwinding_frames.specs.declared.cxx.types.Types.{Types}
use Rattle.unwinding_frames.specs.declared.cxx.types.Exception.{Exception}
use Rattle.unwinding_frames.specs.declared.cxx.table.CxxTable.{CxxTable}
use Rattle.unwinding_frames.specs.CxxTables as tables

abbrev pub cxx_error : StepError → CxxError
cxx_error (frame.Table e) = Table e
cxx_error (frame.Unmapped a) = Unmapped a

abbrev pub exception_of : Exception → tables.Exception
exception_of x = record { types = x.types.now; kind = x.kind; runtime = x.runtime }

abbrev pub types_of : Types → tables.Types
types_of t = record { encoding = t.encoding.0; end = t.end }

abbrev pub table_of : CxxTable → tables.CxxTable
table_of t = record { head = record { pad_base = t.pad_base; site_encoding = t.site_encoding.0; sites = at t.sites; actions = at t.actions }; types = option_map types_of t.types }

abbrev pub record_of : ActionRecord → tables.ActionRecord
record_of r = record { filter = r.filter; distance = r.distance; counted_from = r.counted_from }

abbrev pub cxx_action_of : CxxAction → tables.CxxAction
cxx_action_of code.None = tables.NoAction
cxx_action_of (code.Cleanup pad) = tables.Cleanup pad
cxx_action_of (code.Handler pad filter) = tables.Handler pad filter
cxx_action_of code.Terminate = tables.Terminate
