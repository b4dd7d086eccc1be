-- What is said of a chain that was made.
use Rattle.std.specs.Prelude.{◌≡◌, ℕ, ◌+◌, ◌*◌, List, [], ◌∷◌, None}
use Rattle.memory_image.specs.Image.{Span}
use Rattle.unwind_definitions.specs.Caller.{Columns}
use Rattle.unwind_definitions.specs.State.{Shows}
use Rattle.unwind_definitions.specs.Module.{Tables, Process, IsElfProcess}
use Rattle.unwind_definitions.specs.Valid.{IsElfValid}
use Rattle.generated_chains.specs.declared.outline.Outline.{Outline}
use Rattle.generated_chains.specs.declared.chain.Chain.{Chain}
use Rattle.generated_chains.specs.Outlines.{outlines}
use Rattle.generated_chains.specs.Code.{text, functions_of}
use Rattle.generated_chains.specs.Calls.{state_of, calls_of, stack_bytes, resumes_of}
use Rattle.generated_chains.specs.Tables.{header_place, frames_place, languages_place, header_table, frame_table, language_tables}
use Rattle.generated_chains.specs.Memory.{by_frames, by_header}
use Rattle.generated_chains.specs.Shown.{state_in}

-- the tables, the stack and the states of these functions
pub record IsMade (chain : Chain) (seed : ℕ) (os : List Outline) : Type 0 where
  pub header : chain.header.items ≡ header_table os
  pub frames : chain.frames.items ≡ frame_table os
  pub languages : chain.languages.items ≡ language_tables
  pub stack : chain.stack.items ≡ stack_bytes seed os
  pub innermost : state_in chain.innermost ≡ state_of seed os
  pub resumes : chain.resumes.items ≡ resumes_of os

-- its memory, by ascending address
abbrev pub spans_of : Chain → List Span
spans_of c =
    record { start = header_place; bytes = c.header.items }
    ∷ record { start = frames_place; bytes = c.frames.items }
    ∷ record { start = languages_place; bytes = c.languages.items }
    ∷ record { start = c.innermost.sp; bytes = c.stack.items }
    ∷ []

-- A process with this memory, and one module that covers so many functions, which names its frame table or its header table.
abbrev pub process_of : Tables → Chain → ℕ → Process
process_of tables c count =
    record { image = spans_of c; modules = record { start = text; end = text + 64 * count; text = None; tables = tables } ∷ [] }

-- Whatever registers show its innermost state, the process, the resume table, the functions and the calls are valid.
pub record IsValidBy (tables : Tables) (c : Chain) (seed count : ℕ) : Type 0 where
  pub process : IsElfProcess (process_of tables c count)
  pub valid : (start : Columns) → Shows start (state_in c.innermost) →
      IsElfValid (process_of tables c count) start c.resumes.items
      (functions_of (outlines seed count)) (state_in c.innermost) (calls_of seed (outlines seed count))

-- the same by the frame table alone, and by the header table
pub record IsValidChain (c : Chain) (seed count : ℕ) : Type 0 where
  pub frames : IsValidBy by_frames c seed count
  pub header : IsValidBy by_header c seed count
