use Rattle.std.proofs.Common.{◌-◌}
use Rattle.unwind_definitions.specs.DescribedRows.{ended_by}
use Rattle.table_check.specs.ClaimViews.{function_of}
use Rattle.table_check.proofs.RowFits.{fits_body}
use Rattle.table_check.proofs.programs.fits_body.Goals as goal

pub returns-in-Ok : goal.returns-in-Ok
returns-in-Ok c coding from a due walking after before =
    let f = function_of c.args.claim.now in
    let place = c.requires.place in
    fits_body f c.requires.function c.args.pc _ (due a) (c.in-Ok.ensures coding from a due walking after before) c.is_body_row.result place.0 place.1 (c.is_body_row.ensures (ended_by (c.args.pc - f.start) f.prologue) c.requires.frame)
