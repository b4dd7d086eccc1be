-- A small C++ program (examples/guarded_handler.cpp), built by g++ at -O2, where its innermost frame would raise an exception. The frame
-- outside of that has a cleanup, and the call of the next one leads to a cleanup, a handler of another type and a handler of the
-- exception's type, in one chain of action records.
use Rattle.std.specs.Prelude.{ℕ, List, [], ◌∷◌, ◌++◌, codes, false}
use Rattle.unwinding_frames.specs.declared.cxx.runtime.CxxRuntime.TheVariants.{Libstdcxx}
use Rattle.fact_deliveries.specs.GuardedProgram as sample
use Rattle.fact_deliveries.specs.GuardedThrow as guarded
use Rattle.stack_snapshot.specs.Content.{Content}
use Rattle.stack_snapshot.specs.Thrown.{ThrownContent}
use Rattle.stack_report.specs.Report.{line}

abbrev pub snapshot : Content
snapshot = record {
  regions = sample.image;
  modules = guarded.sample_module ∷ [];
  start = guarded.start;
  exception = guarded.exception;
  class = 0;
  resumes = guarded.resumes;
  limit = 5;
  interrupted = false;
}

-- the type is the second one, and the program's personality is C++'s, of libstdc++
abbrev pub thrown : ThrownContent
thrown = record { snapshot = snapshot; types = 0x403ff0 ∷ []; personalities = 0x401060 ∷ []; foreign = false; runtime = Libstdcxx }

abbrev pub json : List ℕ
json = codes "{\"regions\":[{\"address\":\"0x402010\",\"bytes\":\"1400000000000000017a5200017810011b0c070890010000100000001c000000d0efffff01000000000000001000000030000000ccefffff02000000000000001000000044000000c8efffff04000000000000001000000058000000c4efffff0f00000000440e10100000006c000000c0efffff04000000000000001000000080000000bcefffff01000000000000001000000094000000b8efffff030000000000000018000000a8000000b4efffff0f00000000410e1083024d0e080000001c00000000000000017a504c5200017810079b2d1f00001b1b0c0708900100002c0000002400000088efffff370000000473000000410e108602440e188303440e20540a0e18450e10410e08410b00003c0000005400000098efffff5d000000044f000000420e108d02420e188c03410e208604410e288305470e30550a0e28440e20410e18420e10420e08410b00001000000054010000b8efffff1f00000000440e10\"},{\"address\":\"0x402174\",\"bytes\":\"ffff01080905240032050000ff9b1901080d052c054c0500000200017d007d00741e0000681e0000\"},{\"address\":\"0x404000\",\"bytes\":\"e03f400000000000f03f4000000000006010400000000000\"},{\"address\":\"0x7fffffffed68\",\"bytes\":\"09000000000000008e10400000000000000000000000000009000000000000000000000000000000d210400000000000000000000000000000000000000000000000000000000000000000000000000000000000000000002e1140000000000000000000000000000100000000000000\"}],\"modules\":[{\"kind\":\"elf\",\"start\":\"0x401000\",\"end\":\"0x40113f\",\"eh_frame\":\"0x402010\"}],\"start\":{\"rip\":\"0x401079\",\"rsp\":\"0x7fffffffed68\",\"rbx\":\"0x9\",\"rbp\":\"0x9\"},\"exception\":\"0x900000\",\"resumes\":[[\"0x4010a4\",\"0x4010b7\"]],\"limit\":5,\"types\":[\"0x403ff0\"],\"personalities\":[\"0x401060\"]}"

-- what is written of its delivery: the handler's number is 2
abbrev pub text : List ℕ
text = line (codes "frame 0 ra=0x401079 sp=0x7fffffffed68 rbx=0x9 rbp=0x9 r12=0x0 r13=0x0 r14=0x0 r15=0x0")
    ++ line (codes "frame 1 ra=0x40108e sp=0x7fffffffed78 rbx=0x9 rbp=0x9 r12=0x0 r13=0x0 r14=0x0 r15=0x0")
    ++ line (codes "frame 2 ra=0x4010d2 sp=0x7fffffffed98 rbx=0x9 rbp=0x0 r12=0x0 r13=0x0 r14=0x0 r15=0x0")
    ++ line (codes "cleanup pad=0x4010a4 sp=0x7fffffffed78")
    ++ line (codes "landing ra=0x4010ec sp=0x7fffffffed98 rbx=0x9 rbp=0x0 r12=0x0 r13=0x0 r14=0x0 r15=0x0 rax=0x900000 rdx=0x2")
    ++ line (codes "outcome installed")
