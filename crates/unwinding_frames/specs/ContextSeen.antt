-- What personalities, stops and traces see. Itanium C++ ABI, exception handling, section 1.5.
use Rattle.std.specs.Prelude.{Bool, List, Option, None}
use Rattle.memory_image.specs.Image.{Span}
use Rattle.unwind_definitions.specs.Caller.{Columns}
use Rattle.unwind_definitions.specs.LanguageSearch.{LanguagePlace}
use Rattle.encoded_pointers.specs.PointerViews.{bases_of}
use Rattle.unwinding_frames.specs.declared.place.Place.{Place}
use Rattle.unwinding_frames.specs.FrameValue.{FrameValue}

abbrev pub language_place_of : Place → LanguagePlace
language_place_of p = record { start = p.start; lsda = p.lsda; bases = bases_of p.bases }

-- The memory, the frame or else the place of its function's language table, the registers, and whether it stands at the instruction
-- of its return address. At the end of the stack there is neither frame nor place.
pub record ContextSeen : Type 0 where
  pub image : List Span
  pub frame : Option FrameValue
  pub place : Option LanguagePlace
  pub columns : Columns
  pub signal : Bool

-- a frame of call frame information, or the end of the stack
abbrev pub frame_seen : List Span → Option FrameValue → Columns → Bool → ContextSeen
frame_seen image frame columns signal = record { image = image; frame = frame; place = None; columns = columns; signal = signal }
