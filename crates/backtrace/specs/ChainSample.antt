-- Two snapshots whose tables describe a chain: of three functions that call one another, after a call in the innermost one, and of a
-- function that pushes RBX, stopped where it stands after the push.
use Rattle.std.specs.Prelude.{ℕ, List, [], ◌∷◌, ◌++◌, codes, None, true, false}
use Rattle.unwind_laws.specs.Pushing as pushing
use Rattle.unwind_laws.specs.Three as three
use Rattle.unwind_arch.specs.declared.x86_64.Context.{Context}
use Rattle.fde_finders.specs.declared.custom.FrameInfoKind.TheVariants.{EhFrame}
use Rattle.stack_steps.specs.declared.space.Module.{Module}
use Rattle.stack_steps.specs.declared.space.ModuleTables.TheVariants.{Elf}
use Rattle.stack_steps.specs.StopSample.{pushing_module, stopped_at}
use Rattle.stack_snapshot.specs.Content.{Content}
use Rattle.stack_report.specs.Report.{line}
use Rattle.backtrace.specs.Code.{PlacesValue, without_code}

-- ---- after a call

abbrev pub calling_module : Module
calling_module = record { start = 0x401000; end = 0x401080; tables = Elf (record { text_base = None; kind = EhFrame 0x500000 }) }

abbrev pub calling_start : Context
calling_start = record { registers = 0 ∷ 0 ∷ 0 ∷ 7 ∷ 0 ∷ 0 ∷ 0x70c0 ∷ 0x70b0 ∷ 0 ∷ 0 ∷ 0 ∷ 0 ∷ 0 ∷ 0 ∷ 0x2e ∷ 0 ∷ []; ra = 0x401010; mcxsr = 0; fcw = 0 }

abbrev pub calling : Content
calling = record {
  regions = record { start = 0x500000; bytes = three.frames } ∷ record { start = 0x502000; bytes = three.languages } ∷ record { start = 0x503000; bytes = three.cell } ∷ record { start = 0x70b0; bytes = three.stack 0x60 } ∷ [];
  modules = calling_module ∷ [];
  start = calling_start;
  exception = 0;
  class = 0;
  resumes = [];
  limit = 8;
  interrupted = false;
}

abbrev pub calling_places : PlacesValue
calling_places = without_code (record { start = 0x401000; end = 0x401080; path = codes "/lib/three"; bias = 0x400000 } ∷ [])

abbrev pub calling_json : List ℕ
calling_json = codes "{\"regions\":[{\"address\":\"0x500000\",\"bytes\":\"1400000000000000017a5200017810011b0c070890010000180000001c000000e00ff0ff2000000000410e108602430d064583031c00000000000000017a504c5200017810079bb92f00001b1b0c0708900100001800000024000000c40ff0ff30000000049b1f0000410e10830200002000000040000000d80ff0ff30000000048b1f0000420e10410e18440e2083038e02000000000000\"},{\"address\":\"0x502000\",\"bytes\":\"ffff01080810200020100000ff9b0c010408102001010000000000\"},{\"address\":\"0x503000\",\"bytes\":\"0040400000000000\"},{\"address\":\"0x70b0\",\"bytes\":\"000000000000000011000000000000000c0000000000000030104000000000002200000000000000601040000000000000000000000000000b000000000000000e000000000000000000000000000000\"}],\"modules\":[{\"kind\":\"elf\",\"start\":\"0x401000\",\"end\":\"0x401080\",\"eh_frame\":\"0x500000\",\"path\":\"/lib/three\",\"bias\":\"0x400000\"}],\"start\":{\"rip\":\"0x401010\",\"rsp\":\"0x70b0\",\"rbx\":\"0x7\",\"rbp\":\"0x70c0\",\"r14\":\"0x2e\"},\"limit\":8}"

-- with its registers
abbrev pub calling_text : List ℕ
calling_text = line (codes "#0  0x0000000000401010 in three+0x1010 sp=0x70b0 rbx=0x7 rbp=0x70c0 r12=0x0 r13=0x0 r14=0x2e r15=0x0")
    ++ line (codes "#1  0x0000000000401030 in three+0x1030 sp=0x70d0 rbx=0x11 rbp=0xc r12=0x0 r13=0x0 r14=0x2e r15=0x0")
    ++ line (codes "#2  0x0000000000401060 in three+0x1060 sp=0x70e0 rbx=0x22 rbp=0xc r12=0x0 r13=0x0 r14=0x2e r15=0x0")
    ++ line (codes "end: the outermost frame, which returns to 0")

-- ---- stopped

abbrev pub stopped : Content
stopped = record {
  regions = record { start = 0x500000; bytes = pushing.frames } ∷ record { start = 0x7000; bytes = pushing.stack } ∷ [];
  modules = pushing_module ∷ [];
  start = stopped_at 0x401006;
  exception = 0;
  class = 0;
  resumes = [];
  limit = 2;
  interrupted = true;
}

abbrev pub stopped_places : PlacesValue
stopped_places = without_code (record { start = 0x401000; end = 0x401010; path = codes "pushed_rbx"; bias = 0x400000 } ∷ [])

abbrev pub stopped_json : List ℕ
stopped_json = codes "{\"regions\":[{\"address\":\"0x500000\",\"bytes\":\"1400000000000000017a5200017810011b0c070890010000140000001c000000e00ff0ff1000000000410e108302000000000000\"},{\"address\":\"0x7000\",\"bytes\":\"05000000000000000000000000000000\"}],\"modules\":[{\"kind\":\"elf\",\"start\":\"0x401000\",\"end\":\"0x401010\",\"eh_frame\":\"0x500000\",\"path\":\"pushed_rbx\",\"bias\":\"0x400000\"}],\"start\":{\"rip\":\"0x401006\",\"rsp\":\"0x7000\",\"rbx\":\"0x9\"},\"limit\":2,\"interrupted\":true}"

abbrev pub stopped_text : List ℕ
stopped_text = line (codes "#0  0x0000000000401006 in pushed_rbx+0x1006") ++ line (codes "end: the outermost frame, which returns to 0")
