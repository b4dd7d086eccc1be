-- A snapshot of modules of three formats: a function of the Mach-O module was called by one of the PE module, and that by two of the
-- ELF module, of which the first has a cleanup and the second a handler for the exception.
use Rattle.std.specs.Prelude.{ℕ, List, [], ◌++◌, codes, false}
use Rattle.unwind_laws.specs.Three as three
use Rattle.format_laws.specs.Sample as mixed
use Rattle.format_laws.specs.PeSamples.{room_image}
use Rattle.stack_steps.specs.FormatStopSample.{three_formats}
use Rattle.delivery_laws.specs.StateRegisters.{registers_of}
use Rattle.stack_snapshot.specs.Content.{Content}
use Rattle.stack_report.specs.Report.{line}

abbrev pub snapshot : Content
snapshot = record {
  regions = room_image;
  modules = three_formats;
  start = registers_of mixed.caught_start;
  exception = three.exception;
  class = 0;
  resumes = three.resumes;
  limit = 5;
  interrupted = false;
}

abbrev pub json : List ℕ
json = codes "{\"regions\":[{\"address\":\"0x7090\",\"bytes\":\"501000400100000000000000000000005010004001000000000000000000000000000000000000000000000000000000110000000000000030104000000000002200000000000000601040000000000000000000000000000b000000000000000e000000000000000000000000000000\"},{\"address\":\"0x500000\",\"bytes\":\"1400000000000000017a5200017810011b0c070890010000180000001c000000e00ff0ff2000000000410e108602430d064583031c00000000000000017a504c5200017810079bb92f00001b1b0c0708900100001800000024000000c40ff0ff30000000049b1f0000410e10830200002000000040000000d80ff0ff30000000048b1f0000420e10410e18440e2083038e02000000000000\"},{\"address\":\"0x502000\",\"bytes\":\"ffff01080810200020100000ff9b0c010408102001010000000000\"},{\"address\":\"0x503000\",\"bytes\":\"0040400000000000\"},{\"address\":\"0x600000\",\"bytes\":\"010000001c000000010000000000000000000000200000000300000000000102001000004400000000000000002000005800000000000000003000000000000000000000030000000c00020014000000000000000001000002000000080001000020000001000101\"},{\"address\":\"0x140001000\",\"bytes\":\"90909090909090909090909090909090909090909090909090909090909090909090909090909090909090909090909090909090909090909090909090909090909090909090909090909090909090909090909090909090909090909090909090909090909090909090909090909090909090909090909090909090909090909090909090909090909090909090909090909090909090909090909090909090909090909090909090909090909090909090909090909090909090909090909090909090909090909090909090909090909090909090909090909090909090909090909090909090909090909090909090909090909090909090909090909090\"},{\"address\":\"0x140002000\",\"bytes\":\"001000000011000010200000\"},{\"address\":\"0x140002010\",\"bytes\":\"0105020005420130\"}],\"modules\":[{\"kind\":\"elf\",\"start\":\"0x401000\",\"end\":\"0x401080\",\"eh_frame\":\"0x500000\"},{\"kind\":\"macho\",\"base\":\"0x100000000\",\"size\":\"0x4000\",\"unwind_info\":\"0x600000\"},{\"kind\":\"pe\",\"base\":\"0x140000000\",\"size\":\"0x3000\",\"pdata_rva\":\"0x2000\",\"pdata_size\":\"0xc\"}],\"start\":{\"rip\":\"0x100001010\",\"rsp\":\"0x7090\",\"rbx\":\"0x33\",\"rbp\":\"0xc\",\"r14\":\"0x2e\"},\"exception\":\"0x900000\",\"resumes\":[[\"0x401040\",\"0x401048\"]],\"limit\":5}"

-- what is written of its walk
abbrev pub inner_lines : List ℕ
inner_lines = line (codes "frame 0 ra=0x100001010 sp=0x7090 rbx=0x33 rbp=0xc r12=0x0 r13=0x0 r14=0x2e r15=0x0")
    ++ line (codes "frame 1 ra=0x140001050 sp=0x7098 rbx=0x33 rbp=0xc r12=0x0 r13=0x0 r14=0x2e r15=0x0")
    ++ line (codes "frame 2 ra=0x401030 sp=0x70d0 rbx=0x11 rbp=0xc r12=0x0 r13=0x0 r14=0x2e r15=0x0")
    ++ line (codes "frame 3 ra=0x401060 sp=0x70e0 rbx=0x22 rbp=0xc r12=0x0 r13=0x0 r14=0x2e r15=0x0")

abbrev pub walked : List ℕ
walked = inner_lines
    ++ line (codes "frame 4 ra=0x0 sp=0x7100 rbx=0xb rbp=0xc r12=0x0 r13=0x0 r14=0xe r15=0x0")
    ++ line (codes "end")

-- and of its delivery
abbrev pub text : List ℕ
text = inner_lines
    ++ line (codes "cleanup pad=0x401040 sp=0x70d0")
    ++ line (codes "landing ra=0x401070 sp=0x70e0 rbx=0x22 rbp=0xc r12=0x0 r13=0x0 r14=0x2e r15=0x0 rax=0x900000 rdx=0x0")
    ++ line (codes "outcome installed")
