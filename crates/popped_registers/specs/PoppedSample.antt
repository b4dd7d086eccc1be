-- A thread that was stopped at the return of a function that pushes RBX, after the pop, with its stack from its stack pointer on.
use Rattle.std.specs.Prelude.{ℕ, ◌-◌, ◌^◌, false, List, [], ◌∷◌, Some, None}
use Rattle.memory_image.specs.Image.{Span}
use Rattle.unwind_definitions.specs.Columns as column
use Rattle.unwind_definitions.specs.Entries.{ACie, AFde, Entry, Fde}
use Rattle.unwind_definitions.specs.Instructions.{Nop, Advance, Write, CfaOffset, Offset}
use Rattle.unwind_definitions.specs.Module.{Frames, Module as UnwindModule}
use Rattle.unwind_definitions.specs.Row.{RowInstructions}
use Rattle.unwind_definitions.specs.State.{R12, R13, R14, R15, RBP, RBX, State}
use Rattle.unwind_laws.specs.Pushing as pushing
use Rattle.frame_facts.specs.Facts.{Facts, Slot}
use Rattle.frame_facts.specs.StepFacts.{all_callee_saved}
use Rattle.unwind_arch.specs.declared.x86_64.Context.{Context}
use Rattle.stack_steps.specs.Modules.{SpaceValue, without_index}
use Rattle.stack_steps.specs.StopSample.{pushing_module}
use Rattle.popped_registers.specs.declared.popped.PoppedRegister.{PoppedRegister}

-- its frame table: from its last instruction on the CFA is 8 above the stack pointer, and RBX is said to lie in its slot as before
abbrev pub frames : List ℕ
frames = 0x14 ∷ 0x00 ∷ 0x00 ∷ 0x00 ∷ 0x00 ∷ 0x00 ∷ 0x00 ∷ 0x00 ∷ 0x01 ∷ 0x7a ∷ 0x52 ∷ 0x00 ∷ 0x01 ∷ 0x78 ∷ 0x10 ∷ 0x01 ∷ 0x1b ∷ 0x0c ∷ 0x07 ∷ 0x08 ∷ 0x90 ∷ 0x01 ∷ 0x00 ∷ 0x00 ∷
    0x18 ∷ 0x00 ∷ 0x00 ∷ 0x00 ∷ 0x1c ∷ 0x00 ∷ 0x00 ∷ 0x00 ∷ 0xe0 ∷ 0x0f ∷ 0xf0 ∷ 0xff ∷ 0x10 ∷ 0x00 ∷ 0x00 ∷ 0x00 ∷ 0x00 ∷ 0x41 ∷ 0x0e ∷ 0x10 ∷ 0x83 ∷ 0x02 ∷ 0x4e ∷ 0x0e ∷
    0x08 ∷ 0x00 ∷ 0x00 ∷ 0x00 ∷ 0x00 ∷ 0x00 ∷ 0x00 ∷ 0x00 ∷ []

-- from the stack pointer on: it returns into a call of itself, whose frame pushed 1 and returns to 0
abbrev pub stack : List ℕ
stack = 0x06 ∷ 0x10 ∷ 0x40 ∷ 0x00 ∷ 0x00 ∷ 0x00 ∷ 0x00 ∷ 0x00 ∷ 0x01 ∷ 0x00 ∷ 0x00 ∷ 0x00 ∷ 0x00 ∷ 0x00 ∷ 0x00 ∷ 0x00 ∷
    0x00 ∷ 0x00 ∷ 0x00 ∷ 0x00 ∷ 0x00 ∷ 0x00 ∷ 0x00 ∷ 0x00 ∷ []

abbrev pub tables : Span
tables = record { start = 0x500000; bytes = frames }

abbrev pub image : List Span
image = record { start = 0x7008; bytes = stack } ∷ tables ∷ []

abbrev pub space : SpaceValue
space = record { image = image; modules = pushing_module ∷ []; added = without_index pushing_module ∷ [] }

-- ---- the states

-- RSP and RBX; the other registers hold 0
abbrev pub context : (ra rsp rbx : ℕ) → Context
context ra rsp rbx = record { registers = 0 ∷ 0 ∷ 0 ∷ rbx ∷ 0 ∷ 0 ∷ 0 ∷ rsp ∷ 0 ∷ 0 ∷ 0 ∷ 0 ∷ 0 ∷ 0 ∷ 0 ∷ 0 ∷ []; ra = ra; mcxsr = 0; fcw = 0 }

-- where it was stopped, in the call, and outside of that
abbrev pub start : Context
start = context 0x40100f 0x7008 9

abbrev pub caller : Context
caller = context 0x401006 0x7010 9

abbrev pub outside : Context
outside = context 0 0x7020 1

-- ---- what is kept

abbrev pub popped : List PoppedRegister
popped = record { slot = 0x7000; word = 9 } ∷ []

abbrev pub kept : SpaceValue
kept = record {
  image = record { start = 0x7000; bytes = 9 ∷ 0 ∷ 0 ∷ 0 ∷ 0 ∷ 0 ∷ 0 ∷ 0 ∷ [] } ∷ image;
  modules = pushing_module ∷ [];
  added = without_index pushing_module ∷ [];
}

-- ---- the description of the function, and its rows at the return and in the body

abbrev pub fde : Fde
fde = record {
  offset = 24;
  cie = pushing.cie;
  start = 0x401000;
  size = 16;
  language = None;
  program = record { base = 0x500000; offset = 41; bytes = 0x41 ∷ 0x0e ∷ 0x10 ∷ 0x83 ∷ 2 ∷ 0x4e ∷ 0x0e ∷ 8 ∷ 0 ∷ 0 ∷ 0 ∷ [] };
}

abbrev pub popped_run : RowInstructions
popped_run = record { common = pushing.common; own = Advance 1 ∷ CfaOffset 16 ∷ Write column.rbx (Offset (2 ^ 64 - 16)) ∷ Advance 14 ∷ CfaOffset 8 ∷ Nop ∷ Nop ∷ Nop ∷ [] }

abbrev pub body_run : RowInstructions
body_run = record { common = pushing.common; own = Advance 1 ∷ CfaOffset 16 ∷ Write column.rbx (Offset (2 ^ 64 - 16)) ∷ [] }

-- ---- what is known of its frames

-- the module, and the entries of its table
abbrev pub home : UnwindModule
home = record { start = 0x401000; end = 0x401010; text = None; tables = Frames 0x500000 }

abbrev pub entries : List Entry
entries = ACie pushing.cie ∷ AFde fde ∷ []

abbrev pub rbx_slot : Slot
rbx_slot = record { register = RBX; distance = 16 }

-- After the pop each register holds its value in the caller. RBX's slot, which is kept, holds it too.
abbrev pub known_at_return : Facts
known_at_return = record { rsp = Some 8; rbp = None; saved = rbx_slot ∷ []; kept = all_callee_saved; outermost = false }

abbrev pub known_in_body : Facts
known_in_body = record { rsp = Some 16; rbp = None; saved = rbx_slot ∷ []; kept = RBP ∷ R12 ∷ R13 ∷ R14 ∷ R15 ∷ []; outermost = false }

abbrev pub at_return : State
at_return = pushing.state 0x40100f 0x7008 9

abbrev pub in_body : State
in_body = pushing.state 0x401006 0x7010 9

abbrev pub outermost : State
outermost = pushing.state 0 0x7020 1

-- its callers' states, the innermost first
abbrev pub callers : List State
callers = in_body ∷ outermost ∷ []
