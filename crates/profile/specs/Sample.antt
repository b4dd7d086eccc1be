-- A perf.data file of one sample, and the tables of a function that pushes RBX, in which its thread was interrupted.
use Rattle.std.specs.Prelude.{ℕ, List, [], ◌∷◌, codes, false}
use Rattle.unwind_laws.specs.Pushing as pushing
use Rattle.unwind_arch.specs.declared.x86_64.Context.{Context}
use Rattle.perf_data.specs.Records.{RecordValue, Sampled, Mapped, Named, OtherKind}
use Rattle.perf_data.specs.Sample.{mapping_value, name_value, sample_value}
use Rattle.stack_steps.specs.StopSample.{pushing_module}
use Rattle.stack_snapshot.specs.Answers.{value_of}
use Rattle.stack_snapshot.specs.Content.{Content}
use Rattle.stack_snapshot.specs.Origins.{origins_by}
use Rattle.sampled_profile.specs.Profiles.{Tables}
use Rattle.profile.specs.Due.{tables_of}

abbrev pub unused_start : Context
unused_start = record { registers = 0 ∷ 0 ∷ 0 ∷ 0 ∷ 0 ∷ 0 ∷ 0 ∷ 0 ∷ 0 ∷ 0 ∷ 0 ∷ 0 ∷ 0 ∷ 0 ∷ 0 ∷ 0 ∷ []; ra = 0; mcxsr = 0; fcw = 0 }

abbrev pub content : Content
content = record {
  regions = record { start = 0x500000; bytes = pushing.frames } ∷ [];
  modules = pushing_module ∷ [];
  start = unused_start;
  exception = 0;
  class = 0;
  resumes = [];
  limit = 2;
  interrupted = false;
}

abbrev pub file : List ℕ
file = codes "{\"regions\":[{\"address\":\"0x500000\",\"bytes\":\"1400000000000000017a5200017810011b0c070890010000140000001c000000e00ff0ff1000000000410e108302000000000000\"}],\"modules\":[{\"kind\":\"elf\",\"start\":\"0x401000\",\"end\":\"0x401010\",\"eh_frame\":\"0x500000\",\"path\":\"a.out\",\"bias\":\"0x400000\"}],\"start\":{\"rip\":\"0x0\",\"rsp\":\"0x0\"},\"limit\":2}"

abbrev pub walked : Tables
walked = tables_of content (origins_by (value_of file))

-- the latest first
abbrev pub records : List RecordValue
records = Sampled sample_value ∷ OtherKind 68 ∷ Named name_value ∷ Mapped mapping_value ∷ []
