-- Snapshots of three functions that call one another, two of them with language tables: the outermost one has a handler for
-- the exception, and the one between has a cleanup.
use Rattle.std.specs.Prelude.{ℕ, List, [], ◌∷◌, ◌++◌, codes, None, false}
use Rattle.memory_image.specs.Image.{Span}
use Rattle.unwind_laws.specs.Three as three
use Rattle.unwind_arch.specs.declared.x86_64.Context.{Context}
use Rattle.fde_finders.specs.declared.custom.FrameInfoKind.TheVariants.{EhFrame, EhFrameHdr}
use Rattle.stack_steps.specs.declared.space.Module.{Module}
use Rattle.stack_steps.specs.declared.space.ModuleTables.TheVariants.{Elf}
use Rattle.stack_snapshot.specs.Content.{Content}
use Rattle.stack_report.specs.Report.{line}

-- an ELF module whose frame table lies at 0x500000
abbrev pub module_at : ℕ → ℕ → Module
module_at start end = record { start = start; end = end; tables = Elf (record { text_base = None; kind = EhFrame 0x500000 }) }

-- the tables, with a stack after
abbrev pub regions_with : Span → List Span
regions_with stack = record { start = 0x500000; bytes = three.frames } ∷ record { start = 0x502000; bytes = three.languages } ∷ record { start = 0x503000; bytes = three.cell } ∷ stack ∷ []

-- registers at 0x401010, by RSP and RBP
abbrev pub start_at : ℕ → ℕ → Context
start_at rsp rbp = record { registers = 0 ∷ 0 ∷ 0 ∷ 7 ∷ 0 ∷ 0 ∷ rbp ∷ rsp ∷ 0 ∷ 0 ∷ 0 ∷ 0 ∷ 0 ∷ 0 ∷ 0x2e ∷ 0 ∷ []; ra = 0x401010; mcxsr = 0; fcw = 0 }

abbrev pub snapshot : Content
snapshot = record {
  regions = regions_with (record { start = 0x70b0; bytes = three.stack 0x60 });
  modules = module_at 0x401000 0x401080 ∷ [];
  start = start_at 0x70b0 0x70c0;
  exception = three.exception;
  class = 0;
  resumes = three.resumes;
  limit = 8;
  interrupted = false;
}

-- what is written of its delivery
abbrev pub text : List ℕ
text = line (codes "frame 0 ra=0x401010 sp=0x70b0 rbx=0x7 rbp=0x70c0 r12=0x0 r13=0x0 r14=0x2e r15=0x0")
    ++ line (codes "frame 1 ra=0x401030 sp=0x70d0 rbx=0x11 rbp=0xc r12=0x0 r13=0x0 r14=0x2e r15=0x0")
    ++ line (codes "frame 2 ra=0x401060 sp=0x70e0 rbx=0x22 rbp=0xc r12=0x0 r13=0x0 r14=0x2e r15=0x0")
    ++ line (codes "cleanup pad=0x401040 sp=0x70d0")
    ++ line (codes "landing ra=0x401070 sp=0x70e0 rbx=0x22 rbp=0xc r12=0x0 r13=0x0 r14=0x2e r15=0x0 rax=0x900000 rdx=0x0")
    ++ line (codes "outcome installed")

-- the same where the module names the header of its frame table
abbrev pub by_header : Content
by_header = record snapshot {
  regions = record { start = 0x504000; bytes = three.header } ∷ regions_with (record { start = 0x70b0; bytes = three.stack 0x60 });
  modules = record { start = 0x401000; end = 0x401080; tables = Elf (record { text_base = None; kind = EhFrameHdr 0x504000 }) } ∷ [];
}

-- the same where the functions lie in two modules
abbrev pub in_two_modules : Content
in_two_modules = record snapshot { modules = module_at 0x401000 0x401020 ∷ module_at 0x401020 0x401080 ∷ [] }

-- ---- the outermost function is left at an address that no call site holds

abbrev pub unlisted : Content
unlisted = record snapshot { regions = regions_with (record { start = 0x70b0; bytes = three.stack 0x70 }) }

abbrev pub unlisted_text : List ℕ
unlisted_text = line (codes "frame 0 ra=0x401010 sp=0x70b0 rbx=0x7 rbp=0x70c0 r12=0x0 r13=0x0 r14=0x2e r15=0x0")
    ++ line (codes "frame 1 ra=0x401030 sp=0x70d0 rbx=0x11 rbp=0xc r12=0x0 r13=0x0 r14=0x2e r15=0x0")
    ++ line (codes "frame 2 ra=0x401070 sp=0x70e0 rbx=0x22 rbp=0xc r12=0x0 r13=0x0 r14=0x2e r15=0x0")
    ++ line (codes "outcome fatal phase 1")

-- ---- the function between calls itself twice

abbrev pub deep : Content
deep = record snapshot { regions = regions_with (record { start = 0x7090; bytes = three.deep_stack }); start = start_at 0x7090 0x70a0 }

abbrev pub deep_text : List ℕ
deep_text = line (codes "frame 0 ra=0x401010 sp=0x7090 rbx=0x7 rbp=0x70a0 r12=0x0 r13=0x0 r14=0x2e r15=0x0")
    ++ line (codes "frame 1 ra=0x401030 sp=0x70b0 rbx=0x11 rbp=0xc r12=0x0 r13=0x0 r14=0x2e r15=0x0")
    ++ line (codes "frame 2 ra=0x401030 sp=0x70c0 rbx=0x11 rbp=0xc r12=0x0 r13=0x0 r14=0x2e r15=0x0")
    ++ line (codes "frame 3 ra=0x401030 sp=0x70d0 rbx=0x11 rbp=0xc r12=0x0 r13=0x0 r14=0x2e r15=0x0")
    ++ line (codes "frame 4 ra=0x401060 sp=0x70e0 rbx=0x22 rbp=0xc r12=0x0 r13=0x0 r14=0x2e r15=0x0")
    ++ line (codes "cleanup pad=0x401040 sp=0x70b0")
    ++ line (codes "cleanup pad=0x401040 sp=0x70c0")
    ++ line (codes "cleanup pad=0x401040 sp=0x70d0")
    ++ line (codes "landing ra=0x401070 sp=0x70e0 rbx=0x22 rbp=0xc r12=0x0 r13=0x0 r14=0x2e r15=0x0 rax=0x900000 rdx=0x0")
    ++ line (codes "outcome installed")

-- ---- the innermost function is alone in its module, and its caller in none

abbrev pub first : Content
first = record snapshot { modules = module_at 0x401000 0x401020 ∷ []; resumes = [] }

abbrev pub first_text : List ℕ
first_text = line (codes "frame 0 ra=0x401010 sp=0x70b0 rbx=0x7 rbp=0x70c0 r12=0x0 r13=0x0 r14=0x2e r15=0x0")
    ++ line (codes "frame 1 ra=0x401030 sp=0x70d0 rbx=0x11 rbp=0xc r12=0x0 r13=0x0 r14=0x2e r15=0x0")
    ++ line (codes "outcome end of stack")
