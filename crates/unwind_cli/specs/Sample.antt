-- A snapshot of one call of a function that pushes RBX: that of the stored run, and of examples/pushed_rbx.json.
use Rattle.std.specs.Prelude.{ℕ, List, [], ◌∷◌, ◌++◌, codes, None, false}
use Rattle.unwind_laws.specs.Pushing.{frames, stack}
use Rattle.fde_finders.specs.declared.custom.FrameInfoKind.TheVariants.{EhFrame}
use Rattle.stack_snapshot.specs.Content.{Content}
use Rattle.stack_report.specs.Report.{line}
use Rattle.stack_steps.specs.declared.space.ModuleTables.TheVariants.{Elf}

abbrev pub snapshot : Content
snapshot = record {
  regions = record { start = 0x500000; bytes = frames } ∷ record { start = 0x7000; bytes = stack } ∷ [];
  modules = record { start = 0x401000; end = 0x401010; tables = Elf (record { text_base = None; kind = EhFrame 0x500000 }) } ∷ [];
  start = record { registers = 0 ∷ 0 ∷ 0 ∷ 9 ∷ 0 ∷ 0 ∷ 0 ∷ 0x7000 ∷ 0 ∷ 0 ∷ 0 ∷ 0 ∷ 0 ∷ 0 ∷ 0 ∷ 0 ∷ []; ra = 0x401006; mcxsr = 0; fcw = 0 };
  exception = 0;
  class = 0;
  resumes = [];
  limit = 2;
  interrupted = false;
}

-- what is written of its delivery
abbrev pub text : List ℕ
text = line (codes "frame 0 ra=0x401006 sp=0x7000 rbx=0x9 rbp=0x0 r12=0x0 r13=0x0 r14=0x0 r15=0x0")
    ++ line (codes "frame 1 ra=0x0 sp=0x7010 rbx=0x5 rbp=0x0 r12=0x0 r13=0x0 r14=0x0 r15=0x0")
    ++ line (codes "outcome end of stack")

-- what is written of its walk
abbrev pub walked : List ℕ
walked = line (codes "frame 0 ra=0x401006 sp=0x7000 rbx=0x9 rbp=0x0 r12=0x0 r13=0x0 r14=0x0 r15=0x0")
    ++ line (codes "frame 1 ra=0x0 sp=0x7010 rbx=0x5 rbp=0x0 r12=0x0 r13=0x0 r14=0x0 r15=0x0")
    ++ line (codes "end")

-- its text, as the stored run reads it
abbrev pub json : List ℕ
json = codes "{\"regions\":[{\"address\":\"0x500000\",\"bytes\":\"1400000000000000017a5200017810011b0c070890010000140000001c000000e00ff0ff1000000000410e108302000000000000\"},{\"address\":\"0x7000\",\"bytes\":\"05000000000000000000000000000000\"}],\"modules\":[{\"kind\":\"elf\",\"start\":\"0x401000\",\"end\":\"0x401010\",\"eh_frame\":\"0x500000\"}],\"start\":{\"rip\":\"0x401006\",\"rsp\":\"0x7000\",\"rbx\":\"0x9\"},\"limit\":2}"
