-- A snapshot of a function that stores R12 into its frame, called by one that sets RBP as its frame pointer.
use Rattle.std.specs.Prelude.{ℕ, List, [], ◌∷◌, ◌++◌, codes, None, false}
use Rattle.unwind_laws.specs.Storing.{frames, stack}
use Rattle.fde_finders.specs.declared.custom.FrameInfoKind.TheVariants.{EhFrame}
use Rattle.stack_snapshot.specs.Content.{Content}
use Rattle.stack_report.specs.Report.{line}
use Rattle.stack_steps.specs.declared.space.ModuleTables.TheVariants.{Elf}

abbrev pub snapshot : Content
snapshot = record {
  regions = record { start = 0x500000; bytes = frames } ∷ record { start = 0x7000; bytes = stack } ∷ [];
  modules = record { start = 0x401000; end = 0x401040; tables = Elf (record { text_base = None; kind = EhFrame 0x500000 }) } ∷ [];
  start = record { registers = 0 ∷ 0 ∷ 0 ∷ 9 ∷ 0 ∷ 0 ∷ 0x7030 ∷ 0x7000 ∷ 0 ∷ 0 ∷ 0 ∷ 0 ∷ 0x2c ∷ 0 ∷ 0 ∷ 0 ∷ []; ra = 0x401010; mcxsr = 0; fcw = 0 };
  exception = 0;
  class = 0;
  resumes = [];
  limit = 3;
  interrupted = false;
}

-- what is written of it
abbrev pub text : List ℕ
text = line (codes "frame 0 ra=0x401010 sp=0x7000 rbx=0x9 rbp=0x7030 r12=0x2c r13=0x0 r14=0x0 r15=0x0")
    ++ line (codes "frame 1 ra=0x401030 sp=0x7020 rbx=0x9 rbp=0x7030 r12=0xc r13=0x0 r14=0x0 r15=0x0")
    ++ line (codes "frame 2 ra=0x0 sp=0x7040 rbx=0x3 rbp=0x6 r12=0xc r13=0x0 r14=0x0 r15=0x0")
    ++ line (codes "outcome end of stack")
