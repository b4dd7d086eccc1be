use Rattle.std.proofs.Common.{[], ◌≡◌, ◌≤◌, ℕ, None, Ok, length, take}
use Rattle.std.specs.List.{AllByRecursion}
use Rattle.unwind_definitions.specs.Instructions.{Program}
use Rattle.unwind_definitions.specs.Row.{RowInstructions, from_common}
use Rattle.frame_rows.specs.BodyRuns.{IsRunning}
use Rattle.frame_rows.specs.InstructionViews.{coding_in}
use Rattle.frame_rows.specs.KeptRows.{KeptRows}
use Rattle.frame_rows.specs.Running.{outcome}
use Rattle.frame_rows.specs.Stepping.{HasRoom, IsWithin}
use Rattle.frame_rows.specs.TableRows.{HasBody}
use Rattle.frame_rows.proofs.body_run.run_known.Given as goal

-- rows are added up to the location of the run
abbrev pub invariant-loop-next : goal.invariant-loop-next
invariant-loop-next l = IsWithin l.bodies l.now
    × (AllByRecursion (HasBody l.bodies) l.fn.rows.items → AllByRecursion (HasBody l.bodies) l.rows.items)
    × (length l.fn.rows.items ≤ length l.rows.items)
    × ((n : ℕ) → n ≤ length l.fn.rows.items → take n l.rows.items ≡ take n l.fn.rows.items)
    × ((common own : Program) (old : KeptRows) (first : RowInstructions) → outcome 0 None (from_common []) common ≡ Ok first →
    IsRunning l.start l.end common own old (coding_in l.coding) l.bodies l.fn.rows.items l.fn.run → IsRunning l.start l.end common own old (coding_in l.coding) l.bodies l.rows.items l.now)
    × HasRoom l.now

abbrev pub decreases-loop-next : goal.decreases-loop-next
decreases-loop-next l = length l.now.rest.now
