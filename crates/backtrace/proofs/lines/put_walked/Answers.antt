use Rattle.std.proofs.Common.{◌∙◌, sym}
use Rattle.backtrace.proofs.Written.{frames_more}
use Rattle.backtrace.proofs.lines.put_walked.Goals as goal

pub loop-place-preserved : goal.loop-place-preserved
loop-place-preserved c =
    frames_more c.args.form.now c.args.first c.args.trace.now.trace.states c.loop-place.place c.unwrap-state.result _ _ (sym c.walked.ensures ∙ c.unwrap-state.ensures) c.in_ok-put_state.ensures ∙ c.loop-place.invariant
