use Rattle.std.proofs.Common.{◌≡◌, false, [], None, Ok}
use Rattle.unwind_definitions.specs.Instructions.{program, Program}
use Rattle.unwind_definitions.specs.Row.{RowInstructions, from_common}
use Rattle.encoded_pointers.specs.CursorViews.{at}
use Rattle.frame_rows.specs.InstructionViews.{coding_in}
use Rattle.frame_rows.specs.KeptRows.{IsLonger}
use Rattle.frame_rows.specs.Movable.{IsMovable}
use Rattle.frame_rows.specs.Running.{Represents, outcome}
use Rattle.frame_rows.specs.SameRules.{KnowsRows}
use Rattle.frame_rows.specs.Stretches.{left_of}
use Rattle.frame_rows.specs.Adding.{IsAdding}
use Rattle.frame_rows.proofs.row_table_builder.RowTableBuilder.add_rows.Given as goal

-- rows are kept up to a location, from which on the machine runs
abbrev pub invariant-loop-rows : goal.invariant-loop-rows
invariant-loop-rows l = (l.self.limits ≡ l.fn.self.limits) × ((common : Program) (run : RowInstructions) →
    outcome 0 None (from_common []) common ≡ Ok run → Represents l.start l.fn.self.machine (from_common common.instructions) →
    (now : RowInstructions) × Represents l.start l.self.machine now ×
    IsAdding l.start l.end common (program (coding_in l.coding) (at l.own)) l.fn.self.table l.location now (left_of (coding_in l.coding) l.instructions) l.self.table)
    × (l.self.begun ≡ l.fn.self.begun)
    × IsLonger l.fn.self.table.rows l.self.table.rows
    × (l.instructions.sets_location ≡ false → IsMovable (left_of (coding_in l.coding) l.instructions) → IsMovable (program (coding_in l.coding) (at l.own)))
    × KnowsRows l.self.table.rows l.self.machine

abbrev pub decreases-loop-rows : goal.decreases-loop-rows
decreases-loop-rows l = l.instructions.left
