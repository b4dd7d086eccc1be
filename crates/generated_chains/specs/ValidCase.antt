-- What a generated chain is to the theorems on walks and deliveries.
use Rattle.std.specs.Prelude.{ℕ}
use Rattle.unwind_definitions.specs.Caller.{Columns}
use Rattle.unwind_definitions.specs.State.{Shows}
use Rattle.unwind_definitions.specs.Module.{Tables, IsElfProcess}
use Rattle.unwind_definitions.specs.Valid.{IsElfValid}
use Rattle.generated_chains.specs.Outlines.{outlines}
use Rattle.generated_chains.specs.Code.{functions_of}
use Rattle.generated_chains.specs.Calls.{state_of, calls_of, resumes_of}
use Rattle.generated_chains.specs.Memory.{process_by}

-- Its memory and its module are a process; and whatever columns show its innermost state, these, its resume table, its
-- functions and its calls are valid.
pub record IsValidCase (tables : Tables) (seed count : ℕ) : Type 0 where
  pub process : IsElfProcess (process_by tables seed (outlines seed count))
  pub valid : (start : Columns) → Shows start (state_of seed (outlines seed count)) →
      IsElfValid (process_by tables seed (outlines seed count)) start (resumes_of (outlines seed count))
      (functions_of (outlines seed count)) (state_of seed (outlines seed count)) (calls_of seed (outlines seed count))
