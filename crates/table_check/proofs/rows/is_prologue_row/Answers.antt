use Rattle.table_check.proofs.Deciding.{decides_as, decides_no, decides_not}
use Rattle.table_check.proofs.RowRules.{prologue_found, prologue_fits, prologue_value}
use Rattle.table_check.proofs.rows.is_prologue_row.Goals as goal

pub returns-then-not-is_frame_row : goal.returns-then-not-is_frame_row
returns-then-not-is_frame_row c steps was = decides_no (λ v. decides_not c.is_frame_row.result (c.is_frame_row.ensures steps was) c.if-not-is_frame_row.true (v.frame.cfa, v.frame.arguments))

pub returns-then-not-read : goal.returns-then-not-read
returns-then-not-read c steps was = decides_no (λ v. decides_not c.read.result c.read.ensures.fits c.if-not-read.true (prologue_fits c.args.frame.now steps was c.args.row.now c.read.ensures.ascending v))

pub returns : goal.returns
returns c steps was =
    let read = c.if-not-read.false in
    let frame = (c.is_frame_row.ensures steps was).0 c.if-not-is_frame_row.false in
    let has = c.read.ensures.saved read in
    let ret = c.read.ensures.ret read in
    decides_as c.may_find_all_late.result (prologue_value c.args.frame.now steps was c.args.row.now c.read.ensures.ascending c.read.new.self has ret (c.read.ensures.fits.0 read) frame.0 frame.1)
    (prologue_found c.args.frame.now steps was c.args.row.now c.read.ensures.ascending c.read.new.self has ret) c.may_find_all_late.ensures
