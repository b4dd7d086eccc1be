use Rattle.std.proofs.Common.{[]}
use Rattle.unwind_definitions.specs.Instructions.{Program, Coding, program}
use Rattle.unwind_definitions.specs.Row.{from_common}
use Rattle.encoded_pointers.specs.CursorViews.{at}
use Rattle.frame_rows.specs.InstructionViews.{coding_in}
use Rattle.frame_rows.proofs.Together.{common_ran}
use Rattle.frame_rows.proofs.program.run_common.Goals as goal

pub returns : goal.returns
returns c =
    let coding : Coding = coding_in c.args.coding in
    let common : Program = program coding (at c.args.common) in
    common_ran common c.run_program.result c.run_program.new.machine (c.run_program.ensures 0 (from_common []) c.restart.ensures)
