use Rattle.std.proofs.Common.{◌≡◌, refl, ◌∙◌}
use Rattle.kalzurenk_c.proofs.OutwardLemmas.{ends, fails, goes, last_count, last_met, last_placed, none_at_end, none_at_fault, not_ended, not_failed, stop_at, way_next, way_start}
use Rattle.kalzurenk_c.proofs.outward.put_frames.Goals as goal

pub loop-i-init : goal.loop-i-init
loop-i-init g c = record { over = refl; way = way_start (g.A.Advance.space c.args.outward.now) c.args.limit c.args.state.now c.args.frames.now }

pub loop-i-preserved : goal.loop-i-preserved
loop-i-preserved g c =
    let space = g.A.Advance.space c.args.outward.now in
    let step = goes space (g.A.Advance.space c.loop-i.outward) c.loop-i.state c.advance.new.state c.loop-i.invariant.over (rw c.in-Ok-true.field-0-test at c.in-Ok-true.ensures.step) in
    record {
      over = c.advance.ensures.same ∙ c.loop-i.invariant.over;
      way = rw c.frame_of.ensures (way_next space c.args.limit c.loop-i.i c.args.state.now c.loop-i.state c.args.frames.now c.loop-i.frames c.requires c.loop-i-test.true c.loop-i.invariant.way c.advance.new.state step);
    }

pub returns-in-Ok-false-clause-frames : goal.returns-in-Ok-false-clause-frames
returns-in-Ok-false-clause-frames g c =
    let space = g.A.Advance.space c.args.outward.now in
    let step = ends space (g.A.Advance.space c.loop-i.outward) c.loop-i.state c.advance.new.state c.loop-i.invariant.over (rw c.in-Ok-false.field-0-test at c.in-Ok-false.ensures.step) in
    rw c.frame_of.ensures (last_placed space c.args.limit c.loop-i.i c.args.state.now c.loop-i.state c.args.frames.now c.loop-i.frames c.requires c.loop-i-test.true c.loop-i.invariant.way (none_at_end space c.loop-i.state step))

pub returns-in-Ok-false-clause-stop : goal.returns-in-Ok-false-clause-stop
returns-in-Ok-false-clause-stop g c =
    let space = g.A.Advance.space c.args.outward.now in
    let step = ends space (g.A.Advance.space c.loop-i.outward) c.loop-i.state c.advance.new.state c.loop-i.invariant.over (rw c.in-Ok-false.field-0-test at c.in-Ok-false.ensures.step) in
    let none = none_at_end space c.loop-i.state step in
    let left : c.advance.new.state ≡ c.loop-i.state = (rw c.in-Ok-false.field-0-test at c.in-Ok-false.ensures.stays) not_ended in (
      last_count space c.args.limit c.loop-i.i c.args.state.now c.loop-i.state c.args.frames.now c.loop-i.frames c.requires c.loop-i-test.true c.loop-i.invariant.way none,
      stop_at space c.args.limit c.args.state.now c.loop-i.state c.advance.new.state left (last_met space c.args.limit c.loop-i.i c.args.state.now c.loop-i.state c.args.frames.now c.loop-i.frames c.requires c.loop-i-test.true c.loop-i.invariant.way none),
      rw left step,
    )

pub returns-in-Err-clause-frames : goal.returns-in-Err-clause-frames
returns-in-Err-clause-frames g c =
    let space = g.A.Advance.space c.args.outward.now in
    let step = fails space (g.A.Advance.space c.loop-i.outward) c.loop-i.state c.advance.new.state c.loop-i.invariant.over c.in-Err.error c.in-Err.ensures.step in
    rw c.frame_of.ensures (last_placed space c.args.limit c.loop-i.i c.args.state.now c.loop-i.state c.args.frames.now c.loop-i.frames c.requires c.loop-i-test.true c.loop-i.invariant.way (none_at_fault space c.loop-i.state c.in-Err.error step))

pub returns-in-Err-clause-stop : goal.returns-in-Err-clause-stop
returns-in-Err-clause-stop g c =
    let space = g.A.Advance.space c.args.outward.now in
    let step = fails space (g.A.Advance.space c.loop-i.outward) c.loop-i.state c.advance.new.state c.loop-i.invariant.over c.in-Err.error c.in-Err.ensures.step in
    let none = none_at_fault space c.loop-i.state c.in-Err.error step in
    let left : c.advance.new.state ≡ c.loop-i.state = c.in-Err.ensures.stays (not_failed c.in-Err.error) in (
      last_count space c.args.limit c.loop-i.i c.args.state.now c.loop-i.state c.args.frames.now c.loop-i.frames c.requires c.loop-i-test.true c.loop-i.invariant.way none,
      stop_at space c.args.limit c.args.state.now c.loop-i.state c.advance.new.state left (last_met space c.args.limit c.loop-i.i c.args.state.now c.loop-i.state c.args.frames.now c.loop-i.frames c.requires c.loop-i-test.true c.loop-i.invariant.way none),
      rw left step,
    )
