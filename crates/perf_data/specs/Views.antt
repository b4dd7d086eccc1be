-- What the code's values say, in the words of the definitions.
use Rattle.std.specs.Prelude.{ℕ, List, Option, Result}
use Rattle.memory_image.specs.Results.{result_map}
use Rattle.std.specs.Option.{option_map}
use Rattle.perf_data.specs.declared.errors.PerfError.{PerfError}
use Rattle.perf_data.specs.declared.mapping.Comm.{Comm}
use Rattle.perf_data.specs.declared.mapping.MappedFile.{MappedFile}
use Rattle.perf_data.specs.declared.mapping.MappedFile.TheVariants as mapped
use Rattle.perf_data.specs.declared.mapping.Mapping.{Mapping}
use Rattle.perf_data.specs.declared.record.Framed.{Framed}
use Rattle.perf_data.specs.declared.record.Record.{Record}
use Rattle.perf_data.specs.declared.record.Record.TheVariants as records
use Rattle.perf_data.specs.declared.records.Records.{Records}
use Rattle.perf_data.specs.declared.registers.UserRegisters.{UserRegisters}
use Rattle.perf_data.specs.declared.sample.Sample.{Sample}
use Rattle.perf_data.specs.Registers.{RegisterWords}
use Rattle.perf_data.specs.Samples.{SampleValue}
use Rattle.perf_data.specs.Mappings.{FileValue, BuildId, Inode, MappingValue, NameValue}
use Rattle.perf_data.specs.Records.{FramedValue, RecordValue, Sampled, Mapped, Named, Forked, Exited, OtherKind, records_of}

abbrev pub register_words : UserRegisters → RegisterWords
register_words r = record { abi = r.abi; mask = r.mask; words = r.words.now }

abbrev pub words_of : Option UserRegisters → Option RegisterWords
words_of o = option_map register_words o

abbrev pub sample_value : Sample → SampleValue
sample_value s = record { ip = s.ip; thread = s.thread; time = s.time; registers = words_of s.registers; stack = s.stack.now }

abbrev pub file_value : MappedFile → FileValue
file_value (mapped.BuildId id) = BuildId id.now
file_value (mapped.Inode major minor inode generation) = Inode major minor inode generation

abbrev pub mapping_value : Mapping → MappingValue
mapping_value m = record {
  thread = m.thread;
  address = m.address;
  size = m.size;
  page_offset = m.page_offset;
  file = file_value m.file;
  protection = m.protection;
  flags = m.flags;
  name = m.name.now;
}

abbrev pub name_value : Comm → NameValue
name_value c = record { thread = c.thread; by_exec = c.by_exec; name = c.name.now }

abbrev pub framed_value : Framed → FramedValue
framed_value f = record { kind = f.kind; misc = f.misc; body = f.body.now }

abbrev pub record_value : Record → RecordValue
record_value (records.Sample s) = Sampled (sample_value s)
record_value (records.Mapping m) = Mapped (mapping_value m)
record_value (records.Comm c) = Named (name_value c)
record_value (records.Fork t) = Forked t
record_value (records.Exit t) = Exited t
record_value (records.Other kind) = OtherKind kind

abbrev pub framed_pair : Framed × ℕ → FramedValue × ℕ
framed_pair p = (framed_value p.0, p.1)

abbrev pub record_pair : Record × ℕ → RecordValue × ℕ
record_pair p = (record_value p.0, p.1)

-- what an item of the records tells
abbrev pub told : Result Record PerfError → Result RecordValue PerfError
told r = result_map record_value r

-- what an iterator over records has left
abbrev pub records_left : Records → List (Result RecordValue PerfError)
records_left r = records_of r.layout r.offset r.bytes.now
