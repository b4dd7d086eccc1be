use Rattle.std.proofs.Common.{◌≡◌, ℕ, ◌+◌, ◌-◌, ◌++◌, ◌∷◌, [], length, length-append, suc, sym, ap, refl, ◌∙◌, arith}
use Rattle.std.proofs.lemmas.Result.{err_from_is_err_and}
use Rattle.stack_walks.specs.FrameVisits.{line_for}
use Rattle.stack_walks.specs.VisitViews.{passing, visits}
use Rattle.stack_walks.proofs.VisitLines.{no_contexts, start_visited, more_visited, unvisited, visited_count, visited_keeps, line_faults, line_ends, line_stops, line_goes}
use Rattle.stack_walks.specs.WalkEnds.{reached_by, turned_from}
use Rattle.stack_walks.proofs.Reaching.{none_met, reached_here, reached_next, reached_limit, turned_faults, turned_ends, turned_stops, turned_goes, stands}
use Rattle.stack_steps.proofs.Counted.{rises_none, rises_by_one, rises_to}
use Rattle.stack_walks.proofs.VisitCounts.{met_here, met_all}
use Rattle.stack_walks.proofs.unwind.unwind_frames_over.Goals as goal

pub loop-init : goal.loop-init
loop-init g c =
    let same : c.args.limit - 0 ≡ c.args.limit = omega arith in
    record {
      line = ([], rw same (no_contexts (line_for (passing c.args.pass) c.args.stepper.now c.args.limit c.args.state.now.context c.args.state.now.signal)), start_visited (visits (passing c.args.pass)) c.args.room.now c.requires.empty, rw same (none_met (reached_by (turned_from (passing c.args.pass) c.args.stepper.now) c.args.limit c.args.state.now)), refl);
      visited = λ visited. ap length (c.requires.empty visited);
      stays = λ unvisited. refl;
      trail = refl;
      places = refl;
      over = refl;
      ticks = rises_none c.args.stepper.now c.args.steps.now.number;
    }

pub record_visit-requires : goal.record_visit-requires
record_visit-requires g c visited = let counted = c.loop.invariant.visited visited in omega arith

pub returns-in_err-visit_frame-clause-exact : goal.returns-in_err-visit_frame-clause-exact
returns-in_err-visit_frame-clause-exact g c =
    let p = err_from_is_err_and c.from_residual.result c.from_residual.ensures.1 in
    let turns : c.args.limit - c.loop.counter ≡ suc (c.args.limit - (c.loop.counter + 1)) = omega arith in
    let line = c.loop.invariant.line in
    rw (p.1, p.2) (line_faults (passing c.args.pass) c.args.stepper.now _ _ c.loop.state line.0 _ turns line.1 c.in_err-visit_frame.field-0.0 (sym (rw c.loop.invariant.over at c.in_err-visit_frame.ensures.met)))

pub returns-in-End-clause-exact : goal.returns-in-End-clause-exact
returns-in-End-clause-exact g c =
    let turns : c.args.limit - c.loop.counter ≡ suc (c.args.limit - (c.loop.counter + 1)) = omega arith in
    let line = c.loop.invariant.line in (
      line.0 ++ c.loop.state.context ∷ [],
      line_ends (passing c.args.pass) c.args.stepper.now _ _ c.loop.state line.0 _ turns line.1 c.visit_frame.new.state (sym (rw (c.loop.invariant.over, c.in-End.is) at c.in_ok-visit_frame.ensures.met)),
      rw c.record_visit.ensures (more_visited (visits (passing c.args.pass)) c.loop.room c.loop.state.context line.0 line.2),
    )

pub returns-in-Stop-clause-exact : goal.returns-in-Stop-clause-exact
returns-in-Stop-clause-exact g c =
    let turns : c.args.limit - c.loop.counter ≡ suc (c.args.limit - (c.loop.counter + 1)) = omega arith in
    let line = c.loop.invariant.line in (
      line.0 ++ c.loop.state.context ∷ [],
      line_stops (passing c.args.pass) c.args.stepper.now _ _ c.loop.state line.0 _ turns line.1 c.visit_frame.new.state c.in-Stop.action c.in-Stop.arguments (rw c.in-Stop.is at c.in_ok-visit_frame.ensures.stays) (sym (rw (c.loop.invariant.over, c.in-Stop.is) at c.in_ok-visit_frame.ensures.met)),
      rw c.record_visit.ensures (more_visited (visits (passing c.args.pass)) c.loop.room c.loop.state.context line.0 line.2),
    )

pub loop-preserved : goal.loop-preserved
loop-preserved g c =
    let turns : c.args.limit - c.loop.counter ≡ suc (c.args.limit - (c.loop.counter + 1)) = omega arith in
    let line = c.loop.invariant.line in
    let keeps = visited_keeps (visits (passing c.args.pass)) c.loop.room c.loop.state.context in
    record {
      line = (
        line.0 ++ c.loop.state.context ∷ [],
        line_goes (passing c.args.pass) c.args.stepper.now _ _ c.loop.state line.0 _ turns line.1 c.visit_frame.new.state (sym (rw (c.loop.invariant.over, c.in-Caller.is) at c.in_ok-visit_frame.ensures.met)),
        rw c.record_visit.ensures (more_visited (visits (passing c.args.pass)) c.loop.room c.loop.state.context line.0 line.2),
        reached_next (turned_from (passing c.args.pass) c.args.stepper.now) _ _ c.loop.state line.0 _ turns line.3 c.visit_frame.new.state (turned_goes (passing c.args.pass) c.args.stepper.now c.loop.state c.visit_frame.new.state (sym (rw (c.loop.invariant.over, c.in-Caller.is) at c.in_ok-visit_frame.ensures.met))),
        length-append line.0 (c.loop.state.context ∷ []) ∙ ap (λ (n : ℕ). n + 1) line.4,
      );
      visited = rw c.record_visit.ensures (visited_count (visits (passing c.args.pass)) c.loop.room c.loop.state.context c.loop.counter c.loop.invariant.visited);
      stays = λ is. rw c.record_visit.ensures (unvisited (visits (passing c.args.pass)) c.loop.room c.loop.state.context is ∙ c.loop.invariant.stays is);
      trail = rw c.record_visit.ensures (keeps.0 ∙ c.loop.invariant.trail);
      places = rw c.record_visit.ensures (keeps.1 ∙ c.loop.invariant.places);
      over = c.in_ok-visit_frame.ensures.same ∙ c.loop.invariant.over;
      ticks = rises_by_one c.args.stepper.now c.loop.state.context c.loop.state.signal c.loop.counter _ _ _ c.loop.invariant.ticks (rw c.loop.invariant.over at c.in_ok-visit_frame.ensures.ticks);
    }

pub returns-in_err-visit_frame-clause-ticks : goal.returns-in_err-visit_frame-clause-ticks
returns-in_err-visit_frame-clause-ticks g c =
    let turns : c.args.limit - c.loop.counter ≡ suc (c.args.limit - (c.loop.counter + 1)) = omega arith in
    let line = c.loop.invariant.line in
    let here = turned_faults (passing c.args.pass) c.args.stepper.now c.loop.state c.in_err-visit_frame.field-0.0 (sym (rw c.loop.invariant.over at c.in_err-visit_frame.ensures.met)) in
    rises_to c.args.stepper.now _ _ _ _ (sym (met_here _ line.0 c.loop.state c.loop.counter line.4 (reached_here (turned_from (passing c.args.pass) c.args.stepper.now) _ _ c.loop.state line.0 _ turns line.3 here)))
    (rises_by_one c.args.stepper.now c.loop.state.context c.loop.state.signal c.loop.counter _ _ _ c.loop.invariant.ticks (rw c.loop.invariant.over at c.in_err-visit_frame.ensures.ticks))

pub returns-in-End-clause-ticks : goal.returns-in-End-clause-ticks
returns-in-End-clause-ticks g c =
    let turns : c.args.limit - c.loop.counter ≡ suc (c.args.limit - (c.loop.counter + 1)) = omega arith in
    let line = c.loop.invariant.line in
    let here = turned_ends (passing c.args.pass) c.args.stepper.now c.loop.state (sym (rw (c.loop.invariant.over, c.in-End.is) at c.in_ok-visit_frame.ensures.met)) in
    rises_to c.args.stepper.now _ _ _ _ (sym (met_here _ line.0 c.loop.state c.loop.counter line.4 (reached_here (turned_from (passing c.args.pass) c.args.stepper.now) _ _ c.loop.state line.0 _ turns line.3 here)))
    (rises_by_one c.args.stepper.now c.loop.state.context c.loop.state.signal c.loop.counter _ _ _ c.loop.invariant.ticks (rw c.loop.invariant.over at c.in_ok-visit_frame.ensures.ticks))

pub returns-in-Stop-clause-ticks : goal.returns-in-Stop-clause-ticks
returns-in-Stop-clause-ticks g c =
    let turns : c.args.limit - c.loop.counter ≡ suc (c.args.limit - (c.loop.counter + 1)) = omega arith in
    let line = c.loop.invariant.line in
    let here = turned_stops (passing c.args.pass) c.args.stepper.now c.loop.state _ _ (sym (rw (c.loop.invariant.over, c.in-Stop.is) at c.in_ok-visit_frame.ensures.met)) in
    rises_to c.args.stepper.now _ _ _ _ (sym (met_here _ line.0 c.loop.state c.loop.counter line.4 (reached_here (turned_from (passing c.args.pass) c.args.stepper.now) _ _ c.loop.state line.0 _ turns line.3 here)))
    (rises_by_one c.args.stepper.now c.loop.state.context c.loop.state.signal c.loop.counter _ _ _ c.loop.invariant.ticks (rw c.loop.invariant.over at c.in_ok-visit_frame.ensures.ticks))

pub returns-in_err-visit_frame-clause-reached : goal.returns-in_err-visit_frame-clause-reached
returns-in_err-visit_frame-clause-reached g c =
    let turns : c.args.limit - c.loop.counter ≡ suc (c.args.limit - (c.loop.counter + 1)) = omega arith in
    let line = c.loop.invariant.line in
    let here = turned_faults (passing c.args.pass) c.args.stepper.now c.loop.state c.in_err-visit_frame.field-0.0 (sym (rw c.loop.invariant.over at c.in_err-visit_frame.ensures.met)) in
    stands (visits (passing c.args.pass)) _ _ c.loop.state _ _
    (rw c.record_visit.ensures (more_visited (visits (passing c.args.pass)) c.loop.room c.loop.state.context line.0 line.2))
    c.in_err-visit_frame.ensures.unmoved
    (reached_here (turned_from (passing c.args.pass) c.args.stepper.now) _ _ c.loop.state line.0 _ turns line.3 here)

pub returns-in-End-clause-reached : goal.returns-in-End-clause-reached
returns-in-End-clause-reached g c =
    let turns : c.args.limit - c.loop.counter ≡ suc (c.args.limit - (c.loop.counter + 1)) = omega arith in
    let line = c.loop.invariant.line in
    let here = turned_ends (passing c.args.pass) c.args.stepper.now c.loop.state (sym (rw (c.loop.invariant.over, c.in-End.is) at c.in_ok-visit_frame.ensures.met)) in
    stands (visits (passing c.args.pass)) _ _ c.loop.state _ _
    (rw c.record_visit.ensures (more_visited (visits (passing c.args.pass)) c.loop.room c.loop.state.context line.0 line.2))
    (rw c.in-End.is at c.in_ok-visit_frame.ensures.stays)
    (reached_here (turned_from (passing c.args.pass) c.args.stepper.now) _ _ c.loop.state line.0 _ turns line.3 here)

pub returns-in-Stop-clause-reached : goal.returns-in-Stop-clause-reached
returns-in-Stop-clause-reached g c =
    let turns : c.args.limit - c.loop.counter ≡ suc (c.args.limit - (c.loop.counter + 1)) = omega arith in
    let line = c.loop.invariant.line in
    let here = turned_stops (passing c.args.pass) c.args.stepper.now c.loop.state _ _ (sym (rw (c.loop.invariant.over, c.in-Stop.is) at c.in_ok-visit_frame.ensures.met)) in
    stands (visits (passing c.args.pass)) _ _ c.loop.state _ _
    (rw c.record_visit.ensures (more_visited (visits (passing c.args.pass)) c.loop.room c.loop.state.context line.0 line.2))
    (rw c.in-Stop.is at c.in_ok-visit_frame.ensures.stays)
    (reached_here (turned_from (passing c.args.pass) c.args.stepper.now) _ _ c.loop.state line.0 _ turns line.3 here)

pub returns-clause-reached : goal.returns-clause-reached
returns-clause-reached g c =
    let line = c.loop.invariant.line in
    reached_limit (turned_from (passing c.args.pass) c.args.stepper.now) (visits (passing c.args.pass)) _ c.loop.state line.0 _ _ (omega arith) line.2 line.3

pub returns-clause-ticks : goal.returns-clause-ticks
returns-clause-ticks g c =
    let line = c.loop.invariant.line in
    rises_to c.args.stepper.now _ _ _ _ (sym (met_all (turned_from (passing c.args.pass) c.args.stepper.now) _ line.0 c.loop.state c.loop.counter _ line.4 (omega arith) line.3)) c.loop.invariant.ticks
