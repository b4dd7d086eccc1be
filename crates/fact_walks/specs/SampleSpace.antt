-- A small program whose tables say facts, as a space, and the registers with which it was stopped.
use Rattle.std.specs.Prelude.{ℕ, [], ◌∷◌, None}
use Rattle.unwind_arch.specs.declared.x86_64.Context.{Context}
use Rattle.fde_finders.specs.declared.custom.FrameInfoKind.TheVariants.{EhFrame}
use Rattle.stack_steps.specs.declared.space.Module.{Module}
use Rattle.stack_steps.specs.declared.space.ModuleTables.TheVariants.{Elf}
use Rattle.stack_steps.specs.Modules.{SpaceValue, without_index}
use Rattle.frame_facts_laws.specs.SampleProgram as sample

abbrev pub sample_module : Module
sample_module = record { start = 0x401000; end = 0x401197; tables = Elf (record { text_base = None; kind = EhFrame 0x402008 }) }

abbrev pub space : SpaceValue
space = record { image = sample.image; modules = sample_module ∷ []; added = without_index sample_module ∷ [] }

-- RSP, RBX and RBP; the other registers hold 0
abbrev pub context : (ra rsp rbx rbp : ℕ) → Context
context ra rsp rbx rbp = record { registers = 0 ∷ 0 ∷ 0 ∷ rbx ∷ 0 ∷ 0 ∷ rbp ∷ rsp ∷ 0 ∷ 0 ∷ 0 ∷ 0 ∷ 0 ∷ 0 ∷ 0 ∷ 0 ∷ []; ra = ra; mcxsr = 0; fcw = 0 }

abbrev pub in_prologue : Context
in_prologue = context 0x401084 0x7fffffffece0 0x8 0x8

abbrev pub in_epilogue : Context
in_epilogue = context 0x4010a3 0x7fffffffece8 0x8 0x6b

-- in the call of that function, from a part of another one that lies apart from it
abbrev pub in_part : Context
in_part = context 0x401011 0x7fffffffecf0 0x8 0x6b

-- where the return address is 0
abbrev pub outside : Context
outside = context 0x0 0x7fffffffedd8 0x0 0x0
