-- The lines in the profile's place.
use Rattle.std.specs.Prelude.{ℕ, List, ◌++◌, codes}
use Rattle.perf_data.specs.declared.errors.PerfError.{PerfError}
use Rattle.perf_data.specs.declared.errors.PerfError.TheVariants.{ByteOrder, Pipe, Header, Unfinished, Attributes, Layouts, Machine, Records, Cut, Size, Body, Compressed, Trailing}
use Rattle.stack_report.specs.Digits.{hexadecimal}
use Rattle.stack_report.specs.Report.{line}

-- a word, and where the record stands in the file
abbrev pub at_text : List ℕ → ℕ → List ℕ
at_text word offset = word ++ codes " record at " ++ hexadecimal offset

abbrev pub cause_text : PerfError → List ℕ
cause_text ByteOrder = codes "byte order"
cause_text Pipe = codes "pipe"
cause_text Header = codes "header"
cause_text Unfinished = codes "unfinished"
cause_text Attributes = codes "attributes"
cause_text Layouts = codes "layouts"
cause_text Machine = codes "machine"
cause_text Records = codes "records"
cause_text (Cut offset) = at_text (codes "cut") offset
cause_text (Size offset) = at_text (codes "small") offset
cause_text (Body offset) = at_text (codes "short") offset
cause_text (Compressed offset) = at_text (codes "compressed") offset
cause_text (Trailing offset) = at_text (codes "trailed") offset

-- why a perf.data file isn't read
abbrev pub refused_line : PerfError → List ℕ
refused_line error = line (codes "refused: perf.data " ++ cause_text error)

abbrev pub usage_line : List ℕ
usage_line = line (codes "usage: profile [--script] TABLES")
