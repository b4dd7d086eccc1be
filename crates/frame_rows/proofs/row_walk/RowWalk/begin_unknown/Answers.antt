use Rattle.std.proofs.Common.{Ok}
use Rattle.std.proofs.lemmas.Result.{err_from_is_err_and}
use Rattle.unwind_definitions.specs.Instructions.{Program, Coding, program}
use Rattle.encoded_pointers.specs.CursorViews.{at}
use Rattle.frame_rows.specs.InstructionViews.{coding_in}
use Rattle.frame_rows.proofs.Together.{common_ended}
use Rattle.frame_rows.proofs.row_walk.RowWalk.begin_unknown.Goals as goal

pub note-requires : goal.note-requires
note-requires c =
    let coding : Coding = coding_in c.args.coding in
    common_ended (program coding (at c.args.common)) (Ok tt) c.run_common.new.machine c.in_ok-run_common.ensures

pub returns-in_err-run_common : goal.returns-in_err-run_common
returns-in_err-run_common c =
    let p = err_from_is_err_and c.from_residual.result c.from_residual.ensures.1 in
    rw (p.1, p.2) c.in_err-run_common.ensures

pub returns : goal.returns
returns c =
    let coding : Coding = coding_in c.args.coding in
    let common : Program = program coding (at c.args.common) in
    let ran = c.in_ok-run_common.ensures in
    (ran.0, ran.1, c.begin.ensures common.instructions ran.2)
