-- A snapshot of one call of a function that allocates its frame and stores R12 there, alone in its module and its frame table.
use Rattle.std.specs.Prelude.{ℕ, List, [], ◌∷◌, None, false}
use Rattle.unwind_definitions.specs.Entries.{Entry, ACie, AFde}
use Rattle.unwind_definitions.specs.State.{State}
use Rattle.unwind_definitions.specs.Chain.{Call}
use Rattle.unwind_laws.specs.Storing.{cie, storing_fde, storing, state}
use Rattle.fde_finders.specs.declared.custom.FrameInfoKind.TheVariants.{EhFrame}
use Rattle.stack_snapshot.specs.Content.{Content}
use Rattle.stack_steps.specs.declared.space.ModuleTables.TheVariants.{Elf}

abbrev pub frames : List ℕ
frames = 0x14 ∷ 0x00 ∷ 0x00 ∷ 0x00 ∷ 0x00 ∷ 0x00 ∷ 0x00 ∷ 0x00 ∷ 0x01 ∷ 0x7a ∷ 0x52 ∷ 0x00 ∷ 0x01 ∷ 0x78 ∷ 0x10 ∷ 0x01 ∷ 0x1b ∷ 0x0c ∷ 0x07 ∷ 0x08 ∷ 0x90 ∷ 0x01 ∷ 0x00 ∷ 0x00 ∷
    0x14 ∷ 0x00 ∷ 0x00 ∷ 0x00 ∷ 0x1c ∷ 0x00 ∷ 0x00 ∷ 0x00 ∷ 0xe0 ∷ 0x0f ∷ 0xf0 ∷ 0xff ∷ 0x20 ∷ 0x00 ∷ 0x00 ∷ 0x00 ∷ 0x00 ∷ 0x44 ∷ 0x0e ∷ 0x20 ∷ 0x45 ∷ 0x8c ∷ 0x03 ∷ 0x00 ∷
    0x00 ∷ 0x00 ∷ 0x00 ∷ 0x00 ∷ []

-- the words 1, 0xc12, 3 and 0x401010: the function's room, with R12 in its middle word, and where it returns to
abbrev pub stack : List ℕ
stack = 0x01 ∷ 0x00 ∷ 0x00 ∷ 0x00 ∷ 0x00 ∷ 0x00 ∷ 0x00 ∷ 0x00 ∷ 0x12 ∷ 0x0c ∷ 0x00 ∷ 0x00 ∷ 0x00 ∷ 0x00 ∷ 0x00 ∷ 0x00 ∷
    0x03 ∷ 0x00 ∷ 0x00 ∷ 0x00 ∷ 0x00 ∷ 0x00 ∷ 0x00 ∷ 0x00 ∷ 0x10 ∷ 0x10 ∷ 0x40 ∷ 0x00 ∷ 0x00 ∷ 0x00 ∷ 0x00 ∷ 0x00 ∷ []

abbrev pub snapshot : Content
snapshot = record {
  regions = record { start = 0x500000; bytes = frames } ∷ record { start = 0x7000; bytes = stack } ∷ [];
  modules = record { start = 0x401000; end = 0x401020; tables = Elf (record { text_base = None; kind = EhFrame 0x500000 }) } ∷ [];
  start = record { registers = 0 ∷ 0 ∷ 0 ∷ 0 ∷ 0 ∷ 0 ∷ 0 ∷ 0x7000 ∷ 0 ∷ 0 ∷ 0 ∷ 0 ∷ 1 ∷ 0 ∷ 0 ∷ 0 ∷ []; ra = 0x401010; mcxsr = 0; fcw = 0 };
  exception = 0;
  class = 0;
  resumes = [];
  limit = 2;
  interrupted = false;
}

abbrev pub start : State
start = state 0x401010 0x7000 0 0 1

-- it stands at the same return address, with its own R12
abbrev pub caller : State
caller = state 0x401010 0x7020 0 0 0xc12

abbrev pub call : Call
call = record { callee = storing; caller = caller }

abbrev pub entries : List Entry
entries = ACie cie ∷ AFde storing_fde ∷ []
