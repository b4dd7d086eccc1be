-- A small program (examples/frame_layouts.c), built by gcc at -O2, that gdb stopped in an epilogue after two pops. Its stack goes
-- through a part of a function that lies apart from it, a frame with pushed arguments and a realigned one, to _start.
use Rattle.std.specs.Prelude.{ℕ, List, [], ◌∷◌, ◌++◌, codes, true}
use Rattle.frame_facts_laws.specs.SampleProgram as sample
use Rattle.fact_walks.specs.SampleSpace.{sample_module, in_epilogue}
use Rattle.stack_snapshot.specs.Content.{Content}
use Rattle.stack_report.specs.Report.{line}

abbrev pub snapshot : Content
snapshot = record { regions = record { start = 0x402008; bytes = sample.frames } ∷ record { start = 0x7fffffffecd8; bytes = sample.stack } ∷ []; modules = sample_module ∷ []; start = in_epilogue; exception = 0; class = 0; resumes = []; limit = 9; interrupted = true }

abbrev pub json : List ℕ
json = codes "{\"regions\":[{\"address\":\"0x402008\",\"bytes\":\"1400000000000000017a5200017810011b0c070890010710100000001c00000008f0ffff22000000000000001400000000000000017a5200017810011b0c070890010000100000001c0000000cf0ffff0100000000000000100000003000000008f0ffff0100000000000000240000004400000004f0ffff2400000000410e108602440e188303470e20520e18440e10410e0800100000006c0000005cefffff01000000000000002400000080000000f8efffff2600000000410e108602440e188303480e20530e18440e10410e080014000000a800000021efffff18000000000e20830386020018000000c0000000e8efffff1800000000410e108302560e0800000024000000dc000000ecefffff2c00000000450e1083024b0e18500e20460e18410e10440e080000001c00000004010000f4efffff3300000000410e108602430d064183036a0c07081000000024010000c4eeffff0300000000000000100000003801000000f0ffff2700000000470e10\"},{\"address\":\"0x7fffffffecd8\",\"bytes\":\"08000000000000006b00000000000000111040000000000000000000000000000700000000000000b0edffffff7f0000f310400000000000070000000000000025114000000000006b000000000000000700000000000000070000000000000053114000000000000700000000000000000000000000000000000000000000000000000000000000000000000000000000000000000000000000000000000000000000000000000000000000000000000000000000000000000000000000000000000000000000000000000000000000000000000000000000000000000000007f1140000000000000000000000000005110400000000000d8edffffff7f0000\"}],\"modules\":[{\"kind\":\"elf\",\"start\":\"0x401000\",\"end\":\"0x401197\",\"eh_frame\":\"0x402008\"}],\"start\":{\"rip\":\"0x4010a3\",\"rsp\":\"0x7fffffffece8\",\"rbx\":\"0x8\",\"rbp\":\"0x6b\"},\"limit\":9,\"interrupted\":true}"

-- what is written of its walk
abbrev pub text : List ℕ
text = line (codes "frame 0 ra=0x4010a3 sp=0x7fffffffece8 rbx=0x8 rbp=0x6b r12=0x0 r13=0x0 r14=0x0 r15=0x0")
    ++ line (codes "frame 1 ra=0x401011 sp=0x7fffffffecf0 rbx=0x8 rbp=0x6b r12=0x0 r13=0x0 r14=0x0 r15=0x0")
    ++ line (codes "frame 2 ra=0x4010f3 sp=0x7fffffffed10 rbx=0x7 rbp=0x7fffffffedb0 r12=0x0 r13=0x0 r14=0x0 r15=0x0")
    ++ line (codes "frame 3 ra=0x401125 sp=0x7fffffffed20 rbx=0x7 rbp=0x7fffffffedb0 r12=0x0 r13=0x0 r14=0x0 r15=0x0")
    ++ line (codes "frame 4 ra=0x401153 sp=0x7fffffffed40 rbx=0x7 rbp=0x7fffffffedb0 r12=0x0 r13=0x0 r14=0x0 r15=0x0")
    ++ line (codes "frame 5 ra=0x40117f sp=0x7fffffffedc0 rbx=0x0 rbp=0x0 r12=0x0 r13=0x0 r14=0x0 r15=0x0")
    ++ line (codes "frame 6 ra=0x401051 sp=0x7fffffffedd0 rbx=0x0 rbp=0x0 r12=0x0 r13=0x0 r14=0x0 r15=0x0")
    ++ line (codes "frame 7 ra=0x0 sp=0x7fffffffedd8 rbx=0x0 rbp=0x0 r12=0x0 r13=0x0 r14=0x0 r15=0x0")
    ++ line (codes "end")
