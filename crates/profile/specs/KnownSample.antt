-- A perf.data file of one sample with a copy of its thread's whole stack, which was taken in the body of a function that pushes RBX.
use Rattle.std.specs.Prelude.{ℕ, List, [], ◌∷◌, ◌++◌, Some, Ok}
use Rattle.unwind_laws.specs.Pushing as pushing
use Rattle.perf_data.specs.declared.layout.Layout.{Layout}
use Rattle.perf_data.specs.FileHeader.{magic}
use Rattle.perf_data.specs.FileValue.{PerfValue}
use Rattle.perf_data.specs.Records.{RecordValue, Sampled, Named}
use Rattle.perf_data.specs.Registers.{RegisterWords}
use Rattle.perf_data.specs.Sample.{number, word, zeros, heading, name, name_value}
use Rattle.perf_data.specs.Samples.{SampleValue}

-- 104 bytes of header; an attribute of 112 bytes with the section after it, from byte 104 on; and 120 bytes of records from
-- byte 216 on
abbrev pub header : List ℕ
header = magic ++ word 104 ++ word 112 ++ word 104 ++ word 112 ++ word 216 ++ word 120 ++ zeros 48

-- sample_type has IP, TID, TIME, REGS_USER and STACK_USER; sample_regs_user has BX, SP and IP
abbrev pub attribute : List ℕ
attribute = number 1 ++ number 96 ++ word 0 ++ word 1 ++ (7 ∷ 0x30 ∷ zeros 6) ++ word 0 ++ zeros 40 ++ (0x82 ∷ 1 ∷ zeros 6) ++ number 16 ++ zeros 4 ++ zeros 16

-- BX, SP and IP
abbrev pub words : List ℕ
words = word 9 ++ (0 ∷ 0x70 ∷ zeros 6) ++ (6 ∷ 0x10 ∷ 0x40 ∷ zeros 5)

-- of thread 8 of process 7 at 0x401006 at the time 9: BX 9, SP 0x7000, IP 0x401006, and sixteen bytes of stack
abbrev pub sample : List ℕ
sample =
    heading 9 (2 ∷ 0 ∷ []) 96 ++ (6 ∷ 0x10 ∷ 0x40 ∷ zeros 5) ++ number 7 ++ number 8 ++ word 9 ++ word 2 ++ words ++ word 16 ++ pushing.stack ++ word 16

abbrev pub bytes : List ℕ
bytes = header ++ attribute ++ name ++ sample

abbrev pub layout : Layout
layout = record { size = 96; sample_type = 0x3007; read_format = 0; branch_sample_type = 0; sample_regs_user = 0x182 }

abbrev pub registers : RegisterWords
registers = record { abi = 2; mask = 0x182; words = words }

abbrev pub sample_value : SampleValue
sample_value = record {
  ip = Some 0x401006;
  thread = Some (record { pid = 7; tid = 8 });
  time = Some 9;
  registers = Some registers;
  stack = pushing.stack;
}

abbrev pub value : PerfValue
value = record { layout = layout; records = Ok (Named name_value) ∷ Ok (Sampled sample_value) ∷ [] }

-- the latest first
abbrev pub earlier : List RecordValue
earlier = Named name_value ∷ []

abbrev pub records : List RecordValue
records = Sampled sample_value ∷ earlier
