-- The memory of a generated chain, and the module that its functions lie in.
use Rattle.std.specs.Prelude.{◌≡◌, ℕ, ◌+◌, ◌*◌, List, [], ◌∷◌, None, length, drop}
use Rattle.memory_image.specs.Image.{Span, table_at, IsLaidOut}
use Rattle.unwind_definitions.specs.Module.{Tables, Frames, Header, Module, Process}
use Rattle.generated_chains.specs.declared.outline.Outline.{Outline}
use Rattle.generated_chains.specs.Code.{text}
use Rattle.generated_chains.specs.Calls.{state_of, stack_bytes}
use Rattle.generated_chains.specs.Tables.{header_place, frames_place, languages_place, header_table, frame_table, language_tables}

-- the header table, the frame table, the language tables and the stack
abbrev pub image_of : ℕ → List Outline → List Span
image_of seed os =
    record { start = header_place; bytes = header_table os }
    ∷ record { start = frames_place; bytes = frame_table os }
    ∷ record { start = languages_place; bytes = language_tables }
    ∷ record { start = (state_of seed os).sp; bytes = stack_bytes seed os }
    ∷ []

-- one module, which covers the functions
abbrev pub module_by : Tables → List Outline → Module
module_by tables os = record { start = text; end = text + 64 * length os; text = None; tables = tables }

-- the process, whose module names its frame table or its header table
abbrev pub process_by : Tables → ℕ → List Outline → Process
process_by tables seed os = record { image = image_of seed os; modules = module_by tables os ∷ [] }

abbrev pub by_frames : Tables
by_frames = Frames frames_place

abbrev pub by_header : Tables
by_header = Header header_place

-- an image holds the stack of a chain
pub record HoldsStack (image : List Span) (seed : ℕ) (os : List Outline) : Type 0 where
  pub laid : IsLaidOut 0 image
  pub stack : table_at image (state_of seed os).sp ≡ stack_bytes seed os

-- an image holds the tables of a chain's functions
pub record HoldsTables (image : List Span) (os : List Outline) : Type 0 where
  pub header : table_at image header_place ≡ header_table os
  pub frames : table_at image frames_place ≡ frame_table os
  pub cleanup : table_at image languages_place ≡ language_tables
  pub catch : table_at image (languages_place + 12) ≡ drop 12 language_tables
