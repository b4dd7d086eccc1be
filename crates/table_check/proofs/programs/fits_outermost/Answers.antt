use Rattle.table_check.specs.ClaimViews.{function_of}
use Rattle.table_check.proofs.RowFits.{fits_outermost}
use Rattle.table_check.proofs.programs.fits_outermost.Goals as goal

pub returns-in-Ok : goal.returns-in-Ok
returns-in-Ok c coding from a due walking after before =
    let f = function_of c.args.claim.now in
    let place = c.requires.place in
    fits_outermost f c.requires.function c.args.pc _ (due a) (c.in-Ok.ensures coding from a due walking after before) c.is_outermost_row.result place.0 place.1 c.is_outermost_row.ensures
