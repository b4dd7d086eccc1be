use Rattle.table_check.specs.ClaimViews.{range_of}
use Rattle.table_check.proofs.Reduced.{so_far_more}
use Rattle.table_check.proofs.functions.are_within.Goals as goal

-- src/functions.rt:75:5
pub loop-range-preserved : goal.loop-range-preserved
loop-range-preserved c = so_far_more range_of c.args.low c.args.high c.args.ranges.now c.loop-range.from c.loop-range.range-index (record { from = 0; to = 0 }) c.loop-range-test.true c.loop-range.invariant (c.if-range-from.false, c.if-range.false, c.if-high-range.false)
