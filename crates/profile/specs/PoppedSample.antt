-- A perf.data file of one sample with a copy of its thread's stack, which was taken at the return of a function that pushes RBX, after the
-- pop; and the function's tables.
use Rattle.std.specs.Prelude.{ℕ, List, [], ◌∷◌, ◌++◌, Some, Ok, codes, false}
use Rattle.perf_data.specs.FileHeader.{magic}
use Rattle.perf_data.specs.FileValue.{PerfValue}
use Rattle.perf_data.specs.Records.{RecordValue, Sampled, Named}
use Rattle.perf_data.specs.Registers.{RegisterWords}
use Rattle.perf_data.specs.Sample.{number, word, zeros, heading, name, name_value}
use Rattle.perf_data.specs.Samples.{SampleValue}
use Rattle.stack_steps.specs.StopSample.{pushing_module}
use Rattle.popped_registers.specs.PoppedSample as popped
use Rattle.stack_snapshot.specs.Answers.{value_of}
use Rattle.stack_snapshot.specs.Content.{Content}
use Rattle.stack_snapshot.specs.Origins.{origins_by}
use Rattle.sampled_profile.specs.Profiles.{Tables}
use Rattle.profile.specs.Due.{tables_of}
use Rattle.profile.specs.KnownSample.{attribute, layout}
use Rattle.profile.specs.Sample.{unused_start}

-- ---- the tables

abbrev pub content : Content
content = record {
  regions = popped.tables ∷ [];
  modules = pushing_module ∷ [];
  start = unused_start;
  exception = 0;
  class = 0;
  resumes = [];
  limit = 3;
  interrupted = false;
}

abbrev pub file : List ℕ
file = codes "{\"regions\":[{\"address\":\"0x500000\",\"bytes\":\"1400000000000000017a5200017810011b0c070890010000180000001c000000e00ff0ff1000000000410e1083024e0e0800000000000000\"}],\"modules\":[{\"kind\":\"elf\",\"start\":\"0x401000\",\"end\":\"0x401010\",\"eh_frame\":\"0x500000\",\"path\":\"a.out\",\"bias\":\"0x400000\"}],\"start\":{\"rip\":\"0x0\",\"rsp\":\"0x0\"},\"limit\":3}"

abbrev pub walked : Tables
walked = tables_of content (origins_by (value_of file))

-- ---- the profile

-- 104 bytes of header; an attribute of 112 bytes with the section after it, from byte 104 on; and 128 bytes of records from
-- byte 216 on
abbrev pub header : List ℕ
header = magic ++ word 104 ++ word 112 ++ word 104 ++ word 112 ++ word 216 ++ word 128 ++ zeros 48

-- BX, SP and IP
abbrev pub words : List ℕ
words = word 9 ++ (8 ∷ 0x70 ∷ zeros 6) ++ (0x0f ∷ 0x10 ∷ 0x40 ∷ zeros 5)

-- of thread 8 of process 7 at 0x40100f at the time 9: BX 9, SP 0x7008, IP 0x40100f, and 24 bytes of stack
abbrev pub sample : List ℕ
sample =
    heading 9 (2 ∷ 0 ∷ []) 104 ++ (0x0f ∷ 0x10 ∷ 0x40 ∷ zeros 5) ++ number 7 ++ number 8 ++ word 9 ++ word 2 ++ words ++ word 24 ++ popped.stack ++ word 24

abbrev pub bytes : List ℕ
bytes = header ++ attribute ++ name ++ sample

abbrev pub registers : RegisterWords
registers = record { abi = 2; mask = 0x182; words = words }

abbrev pub sample_value : SampleValue
sample_value = record {
  ip = Some 0x40100f;
  thread = Some (record { pid = 7; tid = 8 });
  time = Some 9;
  registers = Some registers;
  stack = popped.stack;
}

abbrev pub value : PerfValue
value = record { layout = layout; records = Ok (Named name_value) ∷ Ok (Sampled sample_value) ∷ [] }

-- the latest first
abbrev pub earlier : List RecordValue
earlier = Named name_value ∷ []

abbrev pub records : List RecordValue
records = Sampled sample_value ∷ earlier
