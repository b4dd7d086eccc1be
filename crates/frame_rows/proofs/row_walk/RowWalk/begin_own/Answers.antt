use Rattle.unwind_definitions.specs.Instructions.{Program, Coding, program}
use Rattle.encoded_pointers.specs.CursorViews.{at}
use Rattle.frame_rows.specs.InstructionViews.{coding_in}
use Rattle.frame_rows.proofs.row_walk.RowWalk.begin_own.Goals as goal

pub returns-in-Some : goal.returns-in-Some
returns-in-Some c =
    let coding : Coding = coding_in c.args.coding in
    let common : Program = program coding (at c.args.common) in
    let ended = c.in-Some.ensures in
    (ended.0, ended.1, c.begin_after.ensures.state common.instructions ended.2)
