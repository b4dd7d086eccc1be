use Rattle.std.proofs.Common.{None, inr}
use Rattle.stack_walks.specs.FrameVisits.{line_for}
use Rattle.stack_walks.specs.Lines.{line_of}
use Rattle.stack_walks.proofs.VisitLines.{walk_line, walked_by}
use Rattle.stack_walks.proofs.walking.unwinding_by_made.Goals as goal

pub unwind_frames_by_made-requires-clause-made : goal.unwind_frames_by_made-requires-clause-made
unwind_frames_by_made-requires-clause-made g c = c.in_ok-made.ensures c.over_own_image-2.result

pub returns-then-is_prepared : goal.returns-then-is_prepared
returns-then-is_prepared g c =
    let s = c.args.state.now in
    record {
      walks = inr (walked_by c.unwind_frames_alone.result c.unwind_frames_alone.new.room c.unwind_frames_alone.new.state (line_for None c.args.space.now c.args.limit s.context s.signal) (line_of c.args.space.now c.args.limit s.context s.signal) (rw c.over_own_image.ensures at c.unwind_frames_alone.ensures.walks).0
          (walk_line c.args.space.now c.args.limit s.context s.signal));
    }

pub returns : goal.returns
returns g c =
    let s = c.args.state.now in
    record {
      walks = inr (walked_by c.unwind_frames_by_made.result c.unwind_frames_by_made.new.room c.unwind_frames_by_made.new.state (line_for None c.args.space.now c.args.limit s.context s.signal) (line_of c.args.space.now c.args.limit s.context s.signal) (rw c.over_own_image-2.ensures at c.unwind_frames_by_made.ensures.walks).0
          (walk_line c.args.space.now c.args.limit s.context s.signal));
    }
