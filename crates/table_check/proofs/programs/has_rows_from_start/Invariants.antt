use Rattle.std.proofs.Common.{◌-◌, ◌<◌, ◌≤◌, ℕ}
use Rattle.unwind_definitions.specs.Entries.{coding_of}
use Rattle.encoded_pointers.specs.PointerViews.{bases_of}
use Rattle.eh_frame.specs.EntryViews.{fde_of}
use Rattle.eh_frame.specs.Walked.{due_row}
use Rattle.frame_rows.specs.Walks.{IsBefore, IsWalking, end_of}
use Rattle.table_check.specs.ClaimViews.{function_of}
use Rattle.table_check.specs.Programs.{Fits}
use Rattle.table_check.specs.Running.{IsRunning}
use Rattle.table_check.proofs.programs.has_rows_from_start.Given as goal

-- the walk has the row at the address, and the rows before it fit
abbrev pub invariant-loop-pc : goal.invariant-loop-pc
invariant-loop-pc l =
    (from : ℕ) × IsWalking l.walk (coding_of (bases_of l.bases) (fde_of l.fde).cie) from (due_row (bases_of l.bases) (fde_of l.fde)) × (from ≤ l.pc) × IsBefore l.pc (end_of l.walk)
    × (l.claim.start ≤ l.pc) × (l.pc ≤ l.claim.end)
    × IsRunning l.running (l.pc - l.claim.start) l.claim.steps.items
    × ((a : ℕ) → l.claim.start ≤ a → a < l.pc → Fits (function_of l.claim) a (due_row (bases_of l.bases) (fde_of l.fde) a))

abbrev pub decreases-loop-pc : goal.decreases-loop-pc
decreases-loop-pc l = l.claim.end - l.pc
