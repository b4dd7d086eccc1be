-- A perf.data file of one event, with a mapping, a name and a sample, which has three registers and sixteen bytes of stack of
-- which eight were copied.
use Rattle.std.specs.Prelude.{ℕ, true, List, [], ◌∷◌, ◌++◌, replicate, codes, Some, Ok}
use Rattle.unwind_arch.specs.declared.x86_64.Context.{Context}
use Rattle.perf_data.specs.declared.layout.Layout.{Layout}
use Rattle.perf_data.specs.FileHeader.{magic}
use Rattle.perf_data.specs.Registers.{RegisterWords}
use Rattle.perf_data.specs.Samples.{SampleValue}
use Rattle.perf_data.specs.Mappings.{BuildId, MappingValue, NameValue}
use Rattle.perf_data.specs.Records.{Sampled, Mapped, Named, OtherKind}
use Rattle.perf_data.specs.FileValue.{PerfValue}

-- numbers of two, four and eight bytes that are below 256, and zeros
abbrev pub half : ℕ → List ℕ
half n = n ∷ 0 ∷ []

abbrev pub number : ℕ → List ℕ
number n = n ∷ 0 ∷ 0 ∷ 0 ∷ []

abbrev pub word : ℕ → List ℕ
word n = number n ++ number 0

abbrev pub zeros : ℕ → List ℕ
zeros n = replicate n 0

-- 104 bytes of header; an attribute of 112 bytes with the section after it, from byte 104 on; and 224 bytes of records from
-- byte 216 on
abbrev pub header : List ℕ
header = magic ++ word 104 ++ word 112 ++ word 104 ++ word 112 ++ word 216 ++ word 224 ++ zeros 48

-- sample_type has IP, TID, TIME, REGS_USER and STACK_USER; sample_regs_user has BP, SP and IP
abbrev pub attribute : List ℕ
attribute = number 1 ++ number 96 ++ word 0 ++ word 1 ++ (7 ∷ 0x30 ∷ zeros 6) ++ word 0 ++ zeros 40 ++ (0xc0 ∷ 1 ∷ zeros 6) ++ number 16 ++ zeros 4 ++ zeros 16

-- the type and misc of a record and its size
abbrev pub heading : ℕ → List ℕ → ℕ → List ℕ
heading kind misc size = number kind ++ misc ++ half size

-- 0x1000 bytes at 0x401000, from the file a.out at its byte 0x1000, by a build id of four bytes
abbrev pub mapping : List ℕ
mapping =
    heading 10 (2 ∷ 0x40 ∷ []) 80 ++ number 7 ++ number 8 ++ (0 ∷ 0x10 ∷ 0x40 ∷ zeros 5) ++ (0 ∷ 0x10 ∷ zeros 6) ++ (0 ∷ 0x10 ∷ zeros 6)
    ++ number 4 ++ (0xde ∷ 0xad ∷ 0xbe ∷ 0xef ∷ zeros 16) ++ number 5 ++ number 2 ++ (0x61 ∷ 0x2e ∷ 0x6f ∷ 0x75 ∷ 0x74 ∷ zeros 3)

-- the name ab, by an exec
abbrev pub name : List ℕ
name = heading 3 (0 ∷ 0x20 ∷ []) 24 ++ number 7 ++ number 8 ++ (0x61 ∷ 0x62 ∷ zeros 6)

-- a sample of thread 8 of process 7 at 0x401006 at the time 9: BP 5, SP 0x7000 and IP 0x401006
abbrev pub sample : List ℕ
sample =
    heading 9 (2 ∷ 0 ∷ []) 96 ++ (6 ∷ 0x10 ∷ 0x40 ∷ zeros 5) ++ number 7 ++ number 8 ++ word 9 ++ word 2 ++ word 5 ++ (0 ∷ 0x70 ∷ zeros 6) ++ (6 ∷ 0x10 ∷ 0x40 ∷ zeros 5)
    ++ word 16 ++ word 1 ++ word 2 ++ word 8

-- a record of a type that isn't read
abbrev pub round_end : List ℕ
round_end = heading 68 (half 0) 24 ++ zeros 16

abbrev pub one_sample : List ℕ
one_sample = header ++ attribute ++ mapping ++ name ++ round_end ++ sample

abbrev pub layout : Layout
layout = record { size = 96; sample_type = 0x3007; read_format = 0; branch_sample_type = 0; sample_regs_user = 0x1c0 }

abbrev pub mapping_value : MappingValue
mapping_value = record {
  thread = record { pid = 7; tid = 8 };
  address = 0x401000;
  size = 0x1000;
  page_offset = 0x1000;
  file = BuildId (0xde ∷ 0xad ∷ 0xbe ∷ 0xef ∷ []);
  protection = 5;
  flags = 2;
  name = codes "a.out";
}

abbrev pub name_value : NameValue
name_value = record { thread = record { pid = 7; tid = 8 }; by_exec = true; name = codes "ab" }

abbrev pub registers : RegisterWords
registers = record { abi = 2; mask = 0x1c0; words = word 5 ++ (0 ∷ 0x70 ∷ zeros 6) ++ (6 ∷ 0x10 ∷ 0x40 ∷ zeros 5) }

abbrev pub sample_value : SampleValue
sample_value = record {
  ip = Some 0x401006;
  thread = Some (record { pid = 7; tid = 8 });
  time = Some 9;
  registers = Some registers;
  stack = word 1;
}

abbrev pub one_sample_value : PerfValue
one_sample_value = record {
  layout = layout;
  records = Ok (Mapped mapping_value) ∷ Ok (Named name_value) ∷ Ok (OtherKind 68) ∷ Ok (Sampled sample_value) ∷ [];
}

-- RBP, RSP and RIP by their columns
abbrev pub context : Context
context = record { registers = 0 ∷ 0 ∷ 0 ∷ 0 ∷ 0 ∷ 0 ∷ 5 ∷ 0x7000 ∷ 0 ∷ 0 ∷ 0 ∷ 0 ∷ 0 ∷ 0 ∷ 0 ∷ 0 ∷ []; ra = 0x401006; mcxsr = 0; fcw = 0 }
