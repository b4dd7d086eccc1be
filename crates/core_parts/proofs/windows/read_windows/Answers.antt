use Rattle.core_parts.proofs.Finding.{window_next}
use Rattle.core_parts.proofs.windows.read_windows.Goals as goal

pub loop-part-preserved : goal.loop-part-preserved
loop-part-preserved g c = λ all tells.
    window_next (all c.args.path.now) c.loop-part.windows.items c.push.new.self.items c.in_ok-read_window.field-0 c.args.parts.now c.loop-part.part-index _ _ c.loop-part-test.true
    (c.in_ok-read_window.ensures.told all tells) c.in_ok-push.ensures.items (c.loop-part.invariant all tells)
