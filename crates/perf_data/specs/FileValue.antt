-- What a perf.data file holds, by the bytes of the file, or the first cause why it isn't read.
use Rattle.std.specs.Prelude.{ℕ, List, Option, Some, None, Result, Ok, Err, IsTrue, IsFalse, if◌then◌else◌}
use Rattle.perf_data.specs.declared.errors.PerfError.{PerfError}
use Rattle.perf_data.specs.declared.errors.PerfError.TheVariants as errors
use Rattle.perf_data.specs.declared.layout.Layout.{Layout}
use Rattle.perf_data.specs.FileHeader.{is_foreign, is_pipe, has_file_header, attribute_size, section, attributes_place, records_place, is_unfinished}
use Rattle.perf_data.specs.Layouts.{first_layout, is_of_other_machine, share_layout}
use Rattle.perf_data.specs.Records.{RecordValue, records_of}

-- the layout of its samples, and its records, of which the last may be the error at which reading stops
pub record PerfValue : Type 0 where
  pub layout : Layout
  pub records : List (Result RecordValue PerfError)

abbrev pub file_with : Layout → ℕ × List ℕ → PerfValue
file_with layout p = record { layout = layout; records = records_of layout p.0 p.1 }

-- a layout, where its registers aren't those of a machine of another kind
abbrev pub layout_read : Layout → Result Layout PerfError
layout_read layout = if is_of_other_machine layout then Err errors.Machine else Ok layout

-- the layout that the file's attributes share
abbrev pub layout_shared : ℕ → List ℕ → Option Layout → Result Layout PerfError
layout_shared size attributes None = Err errors.Attributes
layout_shared size attributes (Some layout) = if share_layout layout size attributes then layout_read layout else Err errors.Layouts

abbrev pub layout_among : ℕ → Option (ℕ × List ℕ) → Result Layout PerfError
layout_among size None = Err errors.Attributes
layout_among size (Some p) = layout_shared size p.1 (first_layout size p.1)

-- where the recording ended
unfoldable pub shared_layout : List ℕ → Result Layout PerfError
shared_layout bytes = if is_unfinished bytes then Err errors.Unfinished else layout_among (attribute_size bytes) (section bytes attributes_place)

abbrev pub records_after : Layout → Option (ℕ × List ℕ) → Result PerfValue PerfError
records_after layout None = Err errors.Records
records_after layout (Some p) = Ok (file_with layout p)

abbrev pub with_records : List ℕ → Result Layout PerfError → Result PerfValue PerfError
with_records bytes (Err e) = Err e
with_records bytes (Ok layout) = records_after layout (section bytes records_place)

-- the bytes begin with the header of a file of this byte order
abbrev pub HasHeader : List ℕ → Type 0
HasHeader bytes = IsFalse (is_foreign bytes) × IsFalse (is_pipe bytes) × IsTrue (has_file_header bytes)

-- what a perf.data file holds, or why the bytes aren't read as one
unfoldable pub perf_of : List ℕ → Result PerfValue PerfError
perf_of bytes =
    if is_foreign bytes then Err errors.ByteOrder
    else (if is_pipe bytes then Err errors.Pipe
    else (if has_file_header bytes then with_records bytes (shared_layout bytes)
    else Err errors.Header))
