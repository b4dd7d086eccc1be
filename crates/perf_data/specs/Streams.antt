-- What a reader of a source's records and the source have left, where the source tells it.
use Rattle.std.specs.Prelude.{◌≡◌, ℕ, ◌+◌, ◌<◌, ◌≤◌, ◌^◌, min, List, length, take, drop, Option, Some, None, Result, Ok, Err, IsTrue, nat_le, ⊤, if◌then◌else◌}
use Rattle.std.specs.Option.{option_map}
use Rattle.std.specs.Io.KnownBytes.{Consumes, prepend_known}
use Rattle.memory_image.specs.Results.{result_map}
use Rattle.perf_data.specs.declared.errors.PerfError.{PerfError}
use Rattle.perf_data.specs.declared.errors.PerfError.TheVariants as errors
use Rattle.perf_data.specs.declared.layout.Layout.{Layout}
use Rattle.perf_data.specs.declared.reader.RecordReader.{RecordReader}
use Rattle.perf_data.specs.declared.opening.OpenFile.{OpenFile}
use Rattle.perf_data.specs.declared.opening.OpenFile.TheVariants as opened
use Rattle.perf_data.specs.FileHeader.{is_foreign, is_pipe, has_file_header, section_offset, section_size, attributes_place, records_place}
use Rattle.perf_data.specs.FileValue.{PerfValue, perf_of, shared_layout}
use Rattle.perf_data.specs.Records.{RecordValue, records_of}

-- some bytes of the source were taken, and its count of faults didn't fall
abbrev pub GoesOn : Option (List ℕ) → Option (List ℕ) → ℕ → ℕ → Type 0
GoesOn left later faults risen = ((taken : List ℕ) × Consumes left later taken) × (faults ≤ risen)

-- ---- what is due

-- the records of a file, or why its bytes aren't read as one
abbrev pub DueRecords : Type 0
DueRecords = Result (List (Result RecordValue PerfError)) PerfError

abbrev pub records_in : List ℕ → DueRecords
records_in bytes = result_map (λ (file : PerfValue). file.records) (perf_of bytes)

-- of a section that has this size from an offset of the file on, by all bytes of the file from there on
abbrev pub due_from : Layout → ℕ → ℕ → List ℕ → DueRecords
due_from layout offset size bytes = if nat_le size (length bytes) then Ok (records_of layout offset (take size bytes)) else Err errors.Records

-- what both have is so
abbrev pub Follows : {A B : Type 0} → Option A → Option B → (A → B → Type 0) → Type 0
Follows None later P = ⊤
Follows (Some x) None P = ⊥
Follows (Some x) (Some y) P = P x y

-- ---- what a reader has

-- the bytes that were read, from the next record on
abbrev pub held : RecordReader → List ℕ
held r = drop r.start r.buffer.items

-- all bytes of the file from the next record on, by what the source has left
abbrev pub bytes_left : RecordReader → Option (List ℕ) → Option (List ℕ)
bytes_left r left = prepend_known (held r) left

abbrev pub due_by : RecordReader → List ℕ → DueRecords
due_by r bytes = due_from r.layout r.offset r.size bytes

abbrev pub due_left : RecordReader → Option (List ℕ) → Option DueRecords
due_left r left = option_map (due_by r) (bytes_left r left)

-- the next record is whole in the buffer, if the section has one
pub record IsFilled (r : RecordReader) : Type 0 where
  pub some : 0 < r.size
  pub enough : min r.size 65535 ≤ length (held r)

-- the next record stands where it stood
pub record HasPlace (r : RecordReader) (layout : Layout) (offset size : ℕ) : Type 0 where
  pub layout_is : r.layout ≡ layout
  pub offset_is : r.offset ≡ offset
  pub size_is : r.size ≡ size

-- ---- how a file begins

-- the layout of a file's samples, or the first cause before the records why its bytes aren't read as one
unfoldable pub layout_before : List ℕ → Result Layout PerfError
layout_before bytes =
    if is_foreign bytes then Err errors.ByteOrder
    else (if is_pipe bytes then Err errors.Pipe
    else (if has_file_header bytes then shared_layout bytes
    else Err errors.Header))

-- These bytes of a file, and maybe more, tell its layout and stand before its records, if it has a header.
pub record HasStart (bytes : List ℕ) : Type 0 where
  pub header : 104 ≤ length bytes
  pub attributes : IsTrue (has_file_header bytes) → section_offset bytes attributes_place + section_size bytes attributes_place ≤ length bytes
  pub records : IsTrue (has_file_header bytes) → section_offset bytes records_place ≤ length bytes
  pub in_range : IsTrue (has_file_header bytes) → section_offset bytes records_place + section_size bytes records_place < 2 ^ 64

-- the records of a file that was opened, by what the source has left
abbrev pub due_of : OpenFile → Option (List ℕ) → Option DueRecords
due_of (opened.Whole bytes) left = Some (records_in bytes.items)
due_of (opened.Refused e) left = Some (Err e)
due_of (opened.Streamed reader) left = due_left reader left
