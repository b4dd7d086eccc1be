-- A frame: a description that was found for an address, and its row there.
use Rattle.std.specs.Prelude.{◌≡◌, ℕ, Option, Some, None, Result, Ok, Err}
use Rattle.unwind_definitions.specs.declared.error.Error.{Error as Fault}
use Rattle.unwind_definitions.specs.Row.{RowInstructions, row_at}
use Rattle.frame_rows.specs.Rows.{IsRowOf}
use Rattle.unwinding_frames.specs.declared.frame.StepError.{StepError}
use Rattle.unwinding_frames.specs.declared.frame.StepError.TheVariants.{Table}
use Rattle.fde_finders.specs.Finding.{FoundFde}
use Rattle.unwinding_frames.specs.FrameValue.{FrameValue}

-- a frame of the description with its row at an address, or the row's fault
abbrev pub GivesRowOf : Result FrameValue Fault → FoundFde → ℕ → Type 0
GivesRowOf (Ok frame) found a = (frame.found ≡ found) × ((run : RowInstructions) × (row_at found.bases found.fde a ≡ Ok run) × IsRowOf frame.row run)
GivesRowOf (Err fault) found a = row_at found.bases found.fde a ≡ Err fault

-- no frame where nothing is found, else that of the description that is found
abbrev pub GivesFrame : ℕ → Option FoundFde → Result (Option FrameValue) StepError → Type 0
GivesFrame a None result = result ≡ Ok None
GivesFrame a (Some found) (Ok None) = ⊥
GivesFrame a (Some found) (Ok (Some frame)) = GivesRowOf (Ok frame) found a
GivesFrame a (Some found) (Err e) = (fault : Fault) × (e ≡ Table fault) × GivesRowOf (Err fault) found a
