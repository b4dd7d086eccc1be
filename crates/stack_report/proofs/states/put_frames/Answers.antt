use Rattle.std.proofs.Common.{◌∙◌, sym}
use Rattle.stack_report.proofs.Written.{frames_more}
use Rattle.stack_report.proofs.states.put_frames.Goals as goal

pub loop-index-preserved : goal.loop-index-preserved
loop-index-preserved c =
    frames_more c.args.room.now.visited c.loop-index.index c.unwrap-state.result _ _ (sym c.visited.ensures ∙ c.unwrap-state.ensures) c.in_ok-put_frame.ensures ∙ c.loop-index.invariant
