-- The records, one after another. Linux's `struct perf_event_header`: a type of four bytes, misc and the size of the record
-- with this header, of two bytes each. Those types that the kernel doesn't write are perf's own, from 64 on.
use Rattle.std.specs.Prelude.{ℕ, zero, suc, ◌+◌, ◌==◌, ◌||◌, Bool, List, [], ◌∷◌, length, take, drop, Option, Some, None, Result, Ok, Err, nat_lt, if◌then◌else◌}
use Rattle.memory_image.specs.Words.{u16_at, u32_at}
use Rattle.perf_data.specs.declared.errors.PerfError.{PerfError}
use Rattle.perf_data.specs.declared.errors.PerfError.TheVariants as errors
use Rattle.perf_data.specs.declared.layout.Layout.{Layout}
use Rattle.perf_data.specs.Samples.{SampleValue, sample_of}
use Rattle.perf_data.specs.declared.task.Task.{Task}
use Rattle.perf_data.specs.Mappings.{MappingValue, NameValue, mapping_of, name_of}
use Rattle.perf_data.specs.Tasks.{task_of}

-- the types of a name, the end and the start of a thread, a sample and a mapping, of records of others after which bytes stand
-- that are no record, and of those whose bodies are compressed
abbrev pub COMM : ℕ
COMM = 3

abbrev pub EXIT : ℕ
EXIT = 4

abbrev pub FORK : ℕ
FORK = 7

abbrev pub SAMPLE : ℕ
SAMPLE = 9

abbrev pub MMAP2 : ℕ
MMAP2 = 10

abbrev pub HEADER_TRACING_DATA : ℕ
HEADER_TRACING_DATA = 66

abbrev pub AUXTRACE : ℕ
AUXTRACE = 71

abbrev pub COMPRESSED : ℕ
COMPRESSED = 81

abbrev pub COMPRESSED2 : ℕ
COMPRESSED2 = 83

-- a record that is whole: what it is, and what follows its header
pub record FramedValue : Type 0 where
  pub kind : ℕ
  pub misc : ℕ
  pub body : List ℕ

abbrev pub framed_of : List ℕ → FramedValue
framed_of bytes = record { kind = u32_at bytes 0; misc = u16_at bytes 4; body = drop 8 bytes }

-- the record that bytes begin with, and its size, or why there is none; they stand at this offset of the file
unfoldable pub first_framed : ℕ → List ℕ → Result (FramedValue × ℕ) PerfError
first_framed offset bytes =
    if nat_lt (length bytes) 8 then Err (errors.Cut offset)
    else (if nat_lt (u16_at bytes 6) 8 then Err (errors.Size offset)
    else (if nat_lt (length bytes) (u16_at bytes 6) then Err (errors.Cut offset)
    else Ok (framed_of (take (u16_at bytes 6) bytes), u16_at bytes 6)))

-- what a record says; one of another type is told by its type alone
pub data RecordValue : Type 0 where
  Sampled : SampleValue → RecordValue
  Mapped : MappingValue → RecordValue
  Named : NameValue → RecordValue
  Forked : Task → RecordValue
  Exited : Task → RecordValue
  OtherKind : ℕ → RecordValue

-- what the fields of a record say, where its body has them
abbrev pub whole : {A : Type 0} → ℕ → (A → RecordValue) → Option A → Result RecordValue PerfError
whole offset say None = Err (errors.Body offset)
whole offset say (Some x) = Ok (say x)

abbrev pub sample_in : Layout → ℕ → List ℕ → Result RecordValue PerfError
sample_in layout offset body = whole offset Sampled (sample_of layout body)

abbrev pub mapping_in : ℕ → ℕ → List ℕ → Result RecordValue PerfError
mapping_in misc offset body = whole offset Mapped (mapping_of misc body)

abbrev pub name_in : ℕ → ℕ → List ℕ → Result RecordValue PerfError
name_in misc offset body = whole offset Named (name_of misc body)

abbrev pub fork_in : ℕ → List ℕ → Result RecordValue PerfError
fork_in offset body = whole offset Forked (task_of body)

abbrev pub exit_in : ℕ → List ℕ → Result RecordValue PerfError
exit_in offset body = whole offset Exited (task_of body)

abbrev pub is_compressed : ℕ → Bool
is_compressed kind = (kind == COMPRESSED) || (kind == COMPRESSED2)

abbrev pub is_trailed : ℕ → Bool
is_trailed kind = (kind == HEADER_TRACING_DATA) || (kind == AUXTRACE)

unfoldable pub record_of : Layout → ℕ → FramedValue → Result RecordValue PerfError
record_of layout offset f =
    if f.kind == SAMPLE then sample_in layout offset f.body
    else (if f.kind == MMAP2 then mapping_in f.misc offset f.body
    else (if f.kind == COMM then name_in f.misc offset f.body
    else (if f.kind == FORK then fork_in offset f.body
    else (if f.kind == EXIT then exit_in offset f.body
    else (if is_compressed f.kind then Err (errors.Compressed offset)
    else (if is_trailed f.kind then Err (errors.Trailing offset)
    else Ok (OtherKind f.kind)))))))

-- what the first record of bytes says, and its size
abbrev pub sized : ℕ → Result RecordValue PerfError → Result (RecordValue × ℕ) PerfError
sized size (Ok value) = Ok (value, size)
sized size (Err e) = Err e

abbrev pub record_in : Layout → ℕ → Result (FramedValue × ℕ) PerfError → Result (RecordValue × ℕ) PerfError
record_in layout offset (Ok p) = sized p.1 (record_of layout offset p.0)
record_in layout offset (Err e) = Err e

unfoldable pub first_record : Layout → ℕ → List ℕ → Result (RecordValue × ℕ) PerfError
first_record layout offset bytes = record_in layout offset (first_framed offset bytes)

-- A record and those after it; an error is the last.
abbrev pub record_then : Result (RecordValue × ℕ) PerfError → (ℕ → List (Result RecordValue PerfError)) → List (Result RecordValue PerfError)
record_then (Err e) later = Err e ∷ []
record_then (Ok p) later = Ok p.0 ∷ later p.1

abbrev pub records_from : ℕ → Layout → ℕ → List ℕ → List (Result RecordValue PerfError)
records_from most layout offset [] = []
records_from zero layout offset (b ∷ bs) = []
records_from (suc most) layout offset (b ∷ bs) =
    record_then (first_record layout offset (b ∷ bs)) (λ size. records_from most layout (offset + size) (drop size (b ∷ bs)))

-- the records of bytes that stand at this offset of the file, one after another; a record has more than one byte
unfoldable pub records_of : Layout → ℕ → List ℕ → List (Result RecordValue PerfError)
records_of layout offset bytes = records_from (length bytes) layout offset bytes
