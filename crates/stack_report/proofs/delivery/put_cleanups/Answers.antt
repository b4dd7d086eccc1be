use Rattle.std.proofs.Common.{◌∙◌, sym}
use Rattle.stack_report.proofs.Written.{cleanups_more}
use Rattle.stack_report.proofs.delivery.put_cleanups.Goals as goal

pub loop-index-preserved : goal.loop-index-preserved
loop-index-preserved c =
    cleanups_more c.args.room.now.trail c.loop-index.index c.unwrap-trail.result _ _ (sym c.trail.ensures ∙ c.unwrap-trail.ensures) c.in_ok-put_cleanup.ensures ∙ c.loop-index.invariant
