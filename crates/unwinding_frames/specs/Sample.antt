-- A sample: a frame that is stopped in a call of a function with a handler for it.
use Rattle.std.specs.Prelude.{◌-◌, ◌^◌, pos, false, List, [], ◌∷◌, replicate, Some, None}
use Rattle.memory_image.specs.Image.{Span}
use Rattle.unwind_definitions.specs.Columns as column
use Rattle.unwind_definitions.specs.Entries.{Cie, Fde}
use Rattle.unwind_definitions.specs.Input.{Input}
use Rattle.unwind_definitions.specs.Module.{no_bases}
use Rattle.unwind_definitions.specs.Pointers.{Direct}
use Rattle.unwind_definitions.specs.Row.{ColumnAndOffset}
use Rattle.unwind_arch.specs.declared.x86_64.Context.{Context}
use Rattle.unwinding_frames.specs.declared.abi.TheConstants.UnwindAction.{SEARCH_PHASE, CLEANUP_PHASE}
use Rattle.unwinding_frames.specs.FrameValue.{FrameValue}
use Rattle.unwinding_frames.specs.Personalities.{Asked}

-- A language table at 0x2000: no base of landing pads and no types; one call site of 16 bytes with a pad at 32 and the first
-- action, which is a handler.
abbrev pub image : List Span
image = record { start = 0x2000; bytes = 0xff ∷ 0xff ∷ 1 ∷ 4 ∷ 0 ∷ 16 ∷ 32 ∷ 1 ∷ 1 ∷ 0 ∷ [] } ∷ []

-- a frame after a call in the first 16 bytes of the function at 0x1000
abbrev pub context : Context
context = record { registers = replicate 16 0; ra = 0x1005; mcxsr = 0; fcw = 0 }

abbrev pub nothing : Input
nothing = record { base = 0; offset = 0; bytes = [] }

abbrev pub cie : Cie
cie = record {
  offset = 0;
  version = 1;
  code_factor = 1;
  data_factor = 2 ^ 64 - 8;
  return_column = 16;
  augmentation = [];
  program = nothing;
  letters = record { language = Some 0; personality = Some (0, Direct 0x3000); address = None; signal = false };
}

abbrev pub fde : Fde
fde = record { offset = 0; cie = cie; start = 0x1000; size = 256; language = Some (Direct 0x2000); program = nothing }

abbrev pub frame : FrameValue
frame = record {
  found = record { fde = fde; bases = no_bases; table = nothing };
  row = record { cfa = ColumnAndOffset column.rsp 8; rules = []; saved_args_size = 0 };
}

abbrev pub search_asked : Asked
search_asked = record { routine = 0x3000; version = pos 1; actions = SEARCH_PHASE; class = 0; exception = 0 }

abbrev pub cleanup_asked : Asked
cleanup_asked = record { routine = 0x3000; version = pos 1; actions = CLEANUP_PHASE; class = 0; exception = 0 }
