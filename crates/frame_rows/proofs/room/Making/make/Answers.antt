use Rattle.std.proofs.lemmas.Result.{err_from_is_err_and}
use Rattle.frame_rows.specs.Rows.{row_in_place}
use Rattle.frame_rows.proofs.room.Making.make.Goals as goal

pub returns-in_err-run_programs : goal.returns-in_err-run_programs
returns-in_err-run_programs c =
    let p = err_from_is_err_and c.from_residual.result c.from_residual.ensures.1 in
    rw (p.1, p.2) c.in_err-run_programs.ensures

pub returns : goal.returns
returns c =
    let ran = c.in_ok-run_programs.ensures in
    ran.2 (row_in_place c.put_row.result c.put_row.new.row) (c.put_row.ensures c.args.start ran.0 ran.1)
