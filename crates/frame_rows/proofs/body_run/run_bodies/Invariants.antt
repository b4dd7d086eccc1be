use Rattle.std.proofs.Common.{[], ◌≡◌, ◌≤◌, ℕ, None, Ok, length, take}
use Rattle.std.specs.List.{AllByRecursion}
use Rattle.unwind_definitions.specs.Instructions.{Program}
use Rattle.unwind_definitions.specs.Row.{RowInstructions, from_common}
use Rattle.frame_rows.specs.Bodies.{Grows}
use Rattle.frame_rows.specs.BodyRuns.{IsRunning}
use Rattle.frame_rows.specs.InstructionViews.{coding_in}
use Rattle.frame_rows.specs.KeptRows.{KeptRows}
use Rattle.frame_rows.specs.Running.{outcome}
use Rattle.frame_rows.specs.Stepping.{HasRoom, IsWithin}
use Rattle.frame_rows.specs.TableRows.{HasBody}
use Rattle.frame_rows.proofs.body_run.run_bodies.Given as goal

-- rows are added up to the location of the run
abbrev pub invariant-loop-turn : goal.invariant-loop-turn
invariant-loop-turn l = Grows l.fn.bodies l.bodies
    × IsWithin l.bodies l.run
    × AllByRecursion (HasBody l.bodies) l.rows.items
    × (length l.fn.rows.items ≤ length l.rows.items)
    × ((n : ℕ) → n ≤ length l.fn.rows.items → take n l.rows.items ≡ take n l.fn.rows.items)
    × ((common own : Program) (old : KeptRows) (first : RowInstructions) → outcome 0 None (from_common []) common ≡ Ok first →
    IsRunning l.start l.end common own old (coding_in l.coding) l.fn.bodies l.fn.rows.items l.fn.run → IsRunning l.start l.end common own old (coding_in l.coding) l.bodies l.rows.items l.run)
    × HasRoom l.run
