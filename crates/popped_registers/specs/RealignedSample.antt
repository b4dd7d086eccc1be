-- A thread that was stopped in the epilogue of a function that aligns its stack pointer, with its stack from its stack pointer on. The
-- registers that such a function pushes lie so far from RBP, as the CFA and they are some unknown distance apart, and its rows say so by
-- expressions. These are the code and the frame table that GCC makes of one (`-O2 -mavx -mforce-drap`):
--
--     lea 8(%rsp),%r10; and $-32,%rsp; push -8(%r10); push %rbp; mov %rsp,%rbp; push %r10; push %rbx; ..; sub $32,%rsp; call ..
--     ..; pop %rbx; pop %r10; pop %rbp; lea -8(%r10),%rsp; ret
use Rattle.std.specs.Prelude.{ℕ, ◌-◌, ◌^◌, List, [], ◌∷◌, None}
use Rattle.memory_image.specs.Image.{Span}
use Rattle.unwind_definitions.specs.Columns as column
use Rattle.unwind_definitions.specs.Entries.{Fde}
use Rattle.unwind_definitions.specs.Instructions.{Rule, Advance, Cfa, CfaExpression, Expression, Offset, Write}
use Rattle.unwind_definitions.specs.Row.{RowInstructions}
use Rattle.unwind_laws.specs.Pushing as pushing
use Rattle.unwind_arch.specs.declared.x86_64.Context.{Context}
use Rattle.fde_finders.specs.declared.custom.FrameInfoKind.TheVariants.{EhFrame}
use Rattle.stack_steps.specs.declared.space.Module.{Module}
use Rattle.stack_steps.specs.declared.space.ModuleTables.TheVariants.{Elf}
use Rattle.stack_steps.specs.Modules.{SpaceValue, without_index}
use Rattle.popped_registers.specs.declared.popped.PoppedRegister.{PoppedRegister}

abbrev pub frames : List ℕ
frames = 0x14 ∷ 0x00 ∷ 0x00 ∷ 0x00 ∷ 0x00 ∷ 0x00 ∷ 0x00 ∷ 0x00 ∷ 0x01 ∷ 0x7a ∷ 0x52 ∷ 0x00 ∷ 0x01 ∷ 0x78 ∷ 0x10 ∷ 0x01 ∷ 0x1b ∷ 0x0c ∷ 0x07 ∷ 0x08 ∷ 0x90 ∷ 0x01 ∷ 0x00 ∷ 0x00 ∷
    0x2c ∷ 0x00 ∷ 0x00 ∷ 0x00 ∷ 0x1c ∷ 0x00 ∷ 0x00 ∷ 0x00 ∷ 0xe0 ∷ 0x0f ∷ 0xf0 ∷ 0xff ∷ 0x3a ∷ 0x00 ∷ 0x00 ∷ 0x00 ∷ 0x00 ∷ 0x45 ∷ 0x0c ∷ 0x0a ∷ 0x00 ∷ 0x4c ∷ 0x10 ∷ 0x06 ∷
    0x02 ∷ 0x76 ∷ 0x00 ∷ 0x42 ∷ 0x0f ∷ 0x03 ∷ 0x76 ∷ 0x78 ∷ 0x06 ∷ 0x41 ∷ 0x10 ∷ 0x03 ∷ 0x02 ∷ 0x76 ∷ 0x70 ∷ 0x60 ∷ 0x0c ∷ 0x0a ∷ 0x00 ∷ 0x45 ∷ 0x0c ∷ 0x07 ∷ 0x08 ∷ 0x00 ∷
    0x00 ∷ 0x00 ∷ 0x00 ∷ 0x00 ∷ []

-- From the stack pointer on: the caller's RBP, the return address once more, what is left out to align, and the return address. It
-- returns into a call of itself, whose frame pushed 1 and an RBP of 0, and returns to 0.
abbrev pub stack : List ℕ
stack = 0x50 ∷ 0x70 ∷ 0x00 ∷ 0x00 ∷ 0x00 ∷ 0x00 ∷ 0x00 ∷ 0x00 ∷ 0x24 ∷ 0x10 ∷ 0x40 ∷ 0x00 ∷ 0x00 ∷ 0x00 ∷ 0x00 ∷ 0x00 ∷
    0x00 ∷ 0x00 ∷ 0x00 ∷ 0x00 ∷ 0x00 ∷ 0x00 ∷ 0x00 ∷ 0x00 ∷ 0x00 ∷ 0x00 ∷ 0x00 ∷ 0x00 ∷ 0x00 ∷ 0x00 ∷ 0x00 ∷ 0x00 ∷
    0x00 ∷ 0x00 ∷ 0x00 ∷ 0x00 ∷ 0x00 ∷ 0x00 ∷ 0x00 ∷ 0x00 ∷ 0x24 ∷ 0x10 ∷ 0x40 ∷ 0x00 ∷ 0x00 ∷ 0x00 ∷ 0x00 ∷ 0x00 ∷
    0x00 ∷ 0x00 ∷ 0x00 ∷ 0x00 ∷ 0x00 ∷ 0x00 ∷ 0x00 ∷ 0x00 ∷ 0x00 ∷ 0x00 ∷ 0x00 ∷ 0x00 ∷ 0x00 ∷ 0x00 ∷ 0x00 ∷ 0x00 ∷
    0x00 ∷ 0x00 ∷ 0x00 ∷ 0x00 ∷ 0x00 ∷ 0x00 ∷ 0x00 ∷ 0x00 ∷ 0x00 ∷ 0x00 ∷ 0x00 ∷ 0x00 ∷ 0x00 ∷ 0x00 ∷ 0x00 ∷ 0x00 ∷
    0x01 ∷ 0x00 ∷ 0x00 ∷ 0x00 ∷ 0x00 ∷ 0x00 ∷ 0x00 ∷ 0x00 ∷ 0x70 ∷ 0x70 ∷ 0x00 ∷ 0x00 ∷ 0x00 ∷ 0x00 ∷ 0x00 ∷ 0x00 ∷
    0x00 ∷ 0x00 ∷ 0x00 ∷ 0x00 ∷ 0x00 ∷ 0x00 ∷ 0x00 ∷ 0x00 ∷ 0x00 ∷ 0x00 ∷ 0x00 ∷ 0x00 ∷ 0x00 ∷ 0x00 ∷ 0x00 ∷ 0x00 ∷
    0x00 ∷ 0x00 ∷ 0x00 ∷ 0x00 ∷ 0x00 ∷ 0x00 ∷ 0x00 ∷ 0x00 ∷ 0x00 ∷ 0x00 ∷ 0x00 ∷ 0x00 ∷ 0x00 ∷ 0x00 ∷ 0x00 ∷ 0x00 ∷ []

abbrev pub tables : Span
tables = record { start = 0x500000; bytes = frames }

abbrev pub image : List Span
image = record { start = 0x6ff0; bytes = stack } ∷ tables ∷ []

abbrev pub holder : Module
holder = record { start = 0x401000; end = 0x40103a; tables = Elf (record { text_base = None; kind = EhFrame 0x500000 }) }

abbrev pub space : SpaceValue
space = record { image = image; modules = holder ∷ []; added = without_index holder ∷ [] }

-- ---- the states

-- RSP, RBX and RBP; R10 is that of the function that was stopped, and the other registers hold 0
abbrev pub context : (ra rsp rbx rbp : ℕ) → Context
context ra rsp rbx rbp = record { registers = 0 ∷ 0 ∷ 0 ∷ rbx ∷ 0 ∷ 0 ∷ rbp ∷ rsp ∷ 0 ∷ 0 ∷ 0x7020 ∷ 0 ∷ 0 ∷ 0 ∷ 0 ∷ 0 ∷ []; ra = ra; mcxsr = 0; fcw = 0 }

-- before RBP is popped
abbrev pub start : Context
start = context 0x401034 0x6ff0 9 0x6ff0

-- after the call, and outside of it
abbrev pub caller : Context
caller = context 0x401024 0x7020 9 0x7050

abbrev pub outside : Context
outside = context 0 0x7070 1 0

-- ---- what is kept

abbrev pub popped : List PoppedRegister
popped = record { slot = 0x6fe0; word = 9 } ∷ []

abbrev pub kept : SpaceValue
kept = record {
  image = record { start = 0x6fe0; bytes = 9 ∷ 0 ∷ 0 ∷ 0 ∷ 0 ∷ 0 ∷ 0 ∷ 0 ∷ [] } ∷ image;
  modules = holder ∷ [];
  added = without_index holder ∷ [];
}

-- ---- the description of the function, and its rows in the epilogue and in the body

abbrev pub fde : Fde
fde = record {
  offset = 24;
  cie = pushing.cie;
  start = 0x401000;
  size = 58;
  language = None;
  program = record { base = 0x500000; offset = 41; bytes = 0x45 ∷ 0x0c ∷ 10 ∷ 0 ∷ 0x4c ∷ 0x10 ∷ 6 ∷ 2 ∷ 0x76 ∷ 0 ∷ 0x42 ∷ 0x0f ∷ 3 ∷ 0x76 ∷ 0x78 ∷ 6 ∷ 0x41 ∷ 0x10 ∷ 3 ∷ 2 ∷ 0x76 ∷ 0x70 ∷ 0x60 ∷ 0x0c ∷ 10 ∷ 0 ∷ 0x45 ∷ 0x0c ∷ 7 ∷ 8 ∷ 0 ∷ [] };
}

-- `DW_OP_breg6 0`, `DW_OP_breg6 -16`, and `DW_OP_breg6 -8; DW_OP_deref`
abbrev pub rbp_slot : List ℕ
rbp_slot = 0x76 ∷ 0 ∷ []

abbrev pub rbx_slot : List ℕ
rbx_slot = 0x76 ∷ 0x70 ∷ []

abbrev pub saved_r10 : List ℕ
saved_r10 = 0x76 ∷ 0x78 ∷ 6 ∷ []

abbrev pub body_run : RowInstructions
body_run = record {
  common = pushing.common;
  own = Advance 5 ∷ Cfa 10 0 ∷ Advance 12 ∷ Write column.rbp (Expression rbp_slot) ∷ Advance 2 ∷ CfaExpression saved_r10 ∷ Advance 1 ∷ Write column.rbx (Expression rbx_slot) ∷ [];
}

abbrev pub popped_run : RowInstructions
popped_run = record {
  common = pushing.common;
  own = Advance 5 ∷ Cfa 10 0 ∷ Advance 12 ∷ Write column.rbp (Expression rbp_slot) ∷ Advance 2 ∷ CfaExpression saved_r10 ∷ Advance 1 ∷ Write column.rbx (Expression rbx_slot) ∷ Advance 32 ∷ Cfa 10 0 ∷ [];
}

-- the rules of both
abbrev pub rules : List (ℕ × Rule)
rules = (column.rbx, Expression rbx_slot) ∷ (column.rbp, Expression rbp_slot) ∷ (column.ra, Offset (2 ^ 64 - 8)) ∷ []
