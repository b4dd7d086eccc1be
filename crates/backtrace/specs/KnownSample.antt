-- The backtrace of a small program (examples/frame_layouts.c, by gcc at -O2) that gdb stopped in an epilogue after two pops. Its
-- frames are a part of a function that lies apart from it, one with pushed arguments, a realigned one, and _start.
use Rattle.std.specs.Prelude.{ℕ, List, [], ◌∷◌, ◌++◌, codes, true}
use Rattle.frame_facts_laws.specs.SampleProgram as sample
use Rattle.fact_walks.specs.SampleSpace.{sample_module, in_epilogue}
use Rattle.backtrace.specs.Code.{PlacesValue, without_code}
use Rattle.stack_snapshot.specs.Content.{Content}
use Rattle.stack_report.specs.Report.{line}

abbrev pub snapshot : Content
snapshot = record {
  regions = record { start = 0x402008; bytes = sample.frames } ∷ record { start = 0x7fffffffecd8; bytes = sample.stack } ∷ [];
  modules = sample_module ∷ [];
  start = in_epilogue;
  exception = 0;
  class = 0;
  resumes = [];
  limit = 9;
  interrupted = true;
}

abbrev pub places : PlacesValue
places = without_code (record { start = 0x401000; end = 0x401197; path = codes "/lib/frame_layouts"; bias = 0x400000 } ∷ [])

abbrev pub json : List ℕ
json = codes "{\"regions\":[{\"address\":\"0x402008\",\"bytes\":\"1400000000000000017a5200017810011b0c070890010710100000001c00000008f0ffff22000000000000001400000000000000017a5200017810011b0c070890010000100000001c0000000cf0ffff0100000000000000100000003000000008f0ffff0100000000000000240000004400000004f0ffff2400000000410e108602440e188303470e20520e18440e10410e0800100000006c0000005cefffff01000000000000002400000080000000f8efffff2600000000410e108602440e188303480e20530e18440e10410e080014000000a800000021efffff18000000000e20830386020018000000c0000000e8efffff1800000000410e108302560e0800000024000000dc000000ecefffff2c00000000450e1083024b0e18500e20460e18410e10440e080000001c00000004010000f4efffff3300000000410e108602430d064183036a0c07081000000024010000c4eeffff0300000000000000100000003801000000f0ffff2700000000470e10\"},{\"address\":\"0x7fffffffecd8\",\"bytes\":\"08000000000000006b00000000000000111040000000000000000000000000000700000000000000b0edffffff7f0000f310400000000000070000000000000025114000000000006b000000000000000700000000000000070000000000000053114000000000000700000000000000000000000000000000000000000000000000000000000000000000000000000000000000000000000000000000000000000000000000000000000000000000000000000000000000000000000000000000000000000000000000000000000000000000000000000000000000000000007f1140000000000000000000000000005110400000000000d8edffffff7f0000\"}],\"modules\":[{\"kind\":\"elf\",\"start\":\"0x401000\",\"end\":\"0x401197\",\"eh_frame\":\"0x402008\",\"path\":\"/lib/frame_layouts\",\"bias\":\"0x400000\"}],\"start\":{\"rip\":\"0x4010a3\",\"rsp\":\"0x7fffffffece8\",\"rbx\":\"0x8\",\"rbp\":\"0x6b\"},\"limit\":9,\"interrupted\":true}"

-- what is written of its trace
abbrev pub text : List ℕ
text = line (codes "#0  0x00000000004010a3 in frame_layouts+0x10a3")
    ++ line (codes "#1  0x0000000000401011 in frame_layouts+0x1011")
    ++ line (codes "#2  0x00000000004010f3 in frame_layouts+0x10f3")
    ++ line (codes "#3  0x0000000000401125 in frame_layouts+0x1125")
    ++ line (codes "#4  0x0000000000401153 in frame_layouts+0x1153")
    ++ line (codes "#5  0x000000000040117f in frame_layouts+0x117f")
    ++ line (codes "#6  0x0000000000401051 in frame_layouts+0x1051")
    ++ line (codes "end: the outermost frame, which returns to 0")
