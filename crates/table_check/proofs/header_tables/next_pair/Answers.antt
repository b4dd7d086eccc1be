use Rattle.std.proofs.Common.{arith}
use Rattle.eh_frame.specs.HeaderViews.{pairs_of}
use Rattle.table_check.proofs.Ascending.{above_not, more, reads_not}
use Rattle.table_check.proofs.Deciding.{decides_not}
use Rattle.table_check.proofs.header_tables.next_pair.Goals as goal

pub returns-then-index-len : goal.returns-then-index-len
returns-then-index-len c so_far within read r =
    let test = c.if-index-len.true in let len = c.len.ensures in
    omega (arith, test, len, within)

pub returns-in_default : goal.returns-in_default
returns-in_default c so_far within read r = reads_not (pairs_of c.args.pairs.now) read r c.args.index c.in_default.field-0 within c.in_default.ensures.reads

pub returns-then-not-is_above : goal.returns-then-not-is_above
returns-then-not-is_above c so_far within read r =
    above_not (pairs_of c.args.pairs.now) read r c.args.index c.args.last_start.now (c.in-Ok.start, c.in-Ok.place) within so_far c.in-Ok.ensures.reads
    (decides_not c.is_above.result c.is_above.ensures c.if-not-is_above.true)

pub returns : goal.returns
returns c so_far =
    let test = c.if-index-len.false in let len = c.len.ensures in (
      omega (arith, test, len),
      c.in-Ok.ensures.reads,
      more (pairs_of c.args.pairs.now) c.args.index c.args.last_start.now (c.in-Ok.start, c.in-Ok.place) so_far c.in-Ok.ensures.reads (c.is_above.ensures.0 c.if-not-is_above.false),
    )
