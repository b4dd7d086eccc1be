-- A small C++ program (examples/pushed_landings.cpp), built by g++ at -O2, where its innermost frame would raise an exception. The
-- frame outside of that has a cleanup, which goes on in a part of its function that lies apart from it, and the next one a handler;
-- each is entered past two pushed arguments.
use Rattle.std.specs.Prelude.{ℕ, List, [], ◌∷◌, ◌++◌, codes, false}
use Rattle.fact_deliveries.specs.LandingProgram as sample
use Rattle.fact_deliveries.specs.LandingSpace.{sample_module, start}
use Rattle.stack_snapshot.specs.Content.{Content}
use Rattle.stack_report.specs.Report.{line}

abbrev pub snapshot : Content
snapshot = record {
  regions = sample.image;
  modules = sample_module ∷ [];
  start = start;
  exception = sample.exception;
  class = 0;
  resumes = sample.resumes;
  limit = 5;
  interrupted = false;
}

abbrev pub json : List ℕ
json = codes "{\"regions\":[{\"address\":\"0x402000\",\"bytes\":\"1400000000000000017a5200017810011b0c070890010000100000001c00000010f0ffff010000000000000010000000300000000cf0ffff0200000000000000100000004400000008f0ffff0400000000000000100000005800000004f0ffff0f00000000440e10100000006c00000000f0ffff04000000000000001000000080000000fcefffff01000000000000001000000094000000f8efffff030000000000000018000000a8000000f4efffff1800000000410e108302560e080000001c00000000000000017a504c5200017810079b2d0f00001b1b0c0708900100002800000024000000d8efffff590000000497000000410e1086025e0d06438e0383044e2e10600a0c0708410b1c00000050000000eceeffff1000000004730000000c0610830486028e0300002800000070000000ecefffff42000000045b000000410e108602620d06418303492e104c0a0c0708410b0000180000009c000000b0eeffff12000000043f0000000c0610830386021000000078010000f4efffff1f00000000440e10\"},{\"address\":\"0x402188\",\"bytes\":\"ffff010430055100ffff01040b050000ff9b0d01042d053a0101000000000000ff9b09010001000000000000\"},{\"address\":\"0x403000\",\"bytes\":\"9010400000000000\"},{\"address\":\"0x7fffffffed58\",\"bytes\":\"0900000000000000f5104000000000001000000000000000090000000000000009000000000000000000000000000000b8edffffff7f00005211400000000000100000000000000009000000000000000000000000000000000000000000000000000000000000007e1140000000000000000000000000000100000000000000\"}],\"modules\":[{\"kind\":\"elf\",\"start\":\"0x401000\",\"end\":\"0x40118f\",\"eh_frame\":\"0x402000\"}],\"start\":{\"rip\":\"0x4010ae\",\"rsp\":\"0x7fffffffed58\",\"rbx\":\"0x1\",\"rbp\":\"0x7fffffffed88\"},\"exception\":\"0x900000\",\"resumes\":[[\"0x401111\",\"0x401010\"]],\"limit\":5}"

-- what is written of its delivery
abbrev pub text : List ℕ
text = line (codes "frame 0 ra=0x4010ae sp=0x7fffffffed58 rbx=0x1 rbp=0x7fffffffed88 r12=0x0 r13=0x0 r14=0x0 r15=0x0")
    ++ line (codes "frame 1 ra=0x4010f5 sp=0x7fffffffed68 rbx=0x9 rbp=0x7fffffffed88 r12=0x0 r13=0x0 r14=0x0 r15=0x0")
    ++ line (codes "frame 2 ra=0x401152 sp=0x7fffffffed98 rbx=0x9 rbp=0x7fffffffedb8 r12=0x0 r13=0x0 r14=0x0 r15=0x0")
    ++ line (codes "cleanup pad=0x401111 sp=0x7fffffffed78")
    ++ line (codes "landing ra=0x40115a sp=0x7fffffffeda8 rbx=0x9 rbp=0x7fffffffedb8 r12=0x0 r13=0x0 r14=0x0 r15=0x0 rax=0x900000 rdx=0x0")
    ++ line (codes "outcome installed")
