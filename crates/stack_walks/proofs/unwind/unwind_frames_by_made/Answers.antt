use Rattle.std.proofs.Common.{◌≡◌, ◌≢◌, ℕ, ◌+◌, ◌-◌, ◌++◌, ◌∷◌, [], Bool, true, false, length-append, suc, sym, ap, refl, ◌∙◌, arith, rules, Result, Ok, Err, None}
use Rattle.std.proofs.lemmas.Result.{err_from_is_err_and}
use Rattle.stack_steps.specs.declared.error.DeliverError.{DeliverError}
use Rattle.stack_walks.specs.FrameVisits.{Ends, Goes, visit_for}
use Rattle.stack_walks.proofs.VisitLines.{more_visited, visited_count, visited_keeps, line_faults, line_ends, line_goes}
use Rattle.stack_walks.specs.WalkEnds.{reached_by, turned_from}
use Rattle.stack_walks.proofs.Reaching.{reached_here, reached_next, turned_faults, turned_ends, turned_goes, visit_advanced, stands}
use Rattle.stack_steps.proofs.Counted.{rises_then, rises_to}
use Rattle.stack_walks.proofs.VisitCounts.{met_here}
use Rattle.stack_walks.proofs.unwind.unwind_frames_by_made.Goals as goal

-- ---- a step has a fault

no_caller : (e : DeliverError) → ◌≢◌ {A = Result Bool DeliverError} (Err e) (Ok true)
no_caller e h = absurd cc

pub returns-in_err-advance_by_made-clause-walks : goal.returns-in_err-advance_by_made-clause-walks
returns-in_err-advance_by_made-clause-walks g c =
    let p = err_from_is_err_and c.from_residual.result c.from_residual.ensures.1 in
    let turns : c.args.limit - c.loop.counter ≡ suc (c.args.limit - (c.loop.counter + 1)) = omega arith in
    let line = c.loop.invariant.line in
    let keeps = visited_keeps true c.loop.room c.loop.state.context in
    let fault = visit_advanced c.args.space.now c.loop.stepper c.loop.state c.advance_by_made.new.state (Err c.in_err-advance_by_made.field-0.0) c.loop.invariant.over c.in_err-advance_by_made.ensures.step in
    let here = turned_faults None c.args.space.now c.loop.state c.in_err-advance_by_made.field-0.0 fault in (
      rw (p.1, p.2) (line_faults None c.args.space.now _ _ c.loop.state line.0 _ turns line.1 c.in_err-advance_by_made.field-0.0 fault),
      stands true c.record_visit.new.room c.advance_by_made.new.state c.loop.state line.0 (reached_by (turned_from None c.args.space.now) c.args.limit c.args.state.now)
          (rw c.record_visit.ensures (more_visited true c.loop.room c.loop.state.context line.0 line.2))
          (c.in_err-advance_by_made.ensures.stays (no_caller c.in_err-advance_by_made.field-0.0))
          (reached_here (turned_from None c.args.space.now) _ _ c.loop.state line.0 _ turns line.3 here),
      rw c.record_visit.ensures (keeps.0 ∙ c.loop.invariant.trail),
      rw c.record_visit.ensures (keeps.1 ∙ c.loop.invariant.places),
    )

pub returns-in_err-advance_by_made-clause-ticks : goal.returns-in_err-advance_by_made-clause-ticks
returns-in_err-advance_by_made-clause-ticks g c =
    let turns : c.args.limit - c.loop.counter ≡ suc (c.args.limit - (c.loop.counter + 1)) = omega arith in
    let line = c.loop.invariant.line in
    let here = turned_faults None c.args.space.now c.loop.state c.in_err-advance_by_made.field-0.0 (visit_advanced c.args.space.now c.loop.stepper c.loop.state c.advance_by_made.new.state (Err c.in_err-advance_by_made.field-0.0) c.loop.invariant.over c.in_err-advance_by_made.ensures.step) in
    rises_to c.args.space.now _ _ _ _ (sym (met_here _ line.0 c.loop.state c.loop.counter line.4 (reached_here (turned_from None c.args.space.now) _ _ c.loop.state line.0 _ turns line.3 here)))
    (rises_then c.args.space.now c.loop.counter 1 _ _ _ c.loop.invariant.ticks (rw c.loop.invariant.over at c.in_err-advance_by_made.ensures.ticks))

-- ---- there is no caller

none_next : ◌≢◌ {A = Result Bool DeliverError} (Ok false) (Ok true)
none_next h = absurd cc

pub returns-then-not-branch-clause-walks : goal.returns-then-not-branch-clause-walks
returns-then-not-branch-clause-walks g c =
    let turns : c.args.limit - c.loop.counter ≡ suc (c.args.limit - (c.loop.counter + 1)) = omega arith in
    let line = c.loop.invariant.line in
    let keeps = visited_keeps true c.loop.room c.loop.state.context in
    let ends : visit_for None c.args.space.now c.loop.state.context c.loop.state.signal ≡ Ok Ends =
    visit_advanced c.args.space.now c.loop.stepper c.loop.state c.advance_by_made.new.state (Ok false) c.loop.invariant.over (rw c.if-not-branch.true at c.in_ok-advance_by_made.ensures.step) in
    let here = turned_ends None c.args.space.now c.loop.state ends in (
      (
        line.0 ++ c.loop.state.context ∷ [],
        line_ends None c.args.space.now _ _ c.loop.state line.0 _ turns line.1 c.advance_by_made.new.state ends,
        rw c.record_visit.ensures (more_visited true c.loop.room c.loop.state.context line.0 line.2),
      ),
      stands true c.record_visit.new.room c.advance_by_made.new.state c.loop.state line.0 (reached_by (turned_from None c.args.space.now) c.args.limit c.args.state.now)
          (rw c.record_visit.ensures (more_visited true c.loop.room c.loop.state.context line.0 line.2))
          ((rw c.if-not-branch.true at c.in_ok-advance_by_made.ensures.stays) none_next)
          (reached_here (turned_from None c.args.space.now) _ _ c.loop.state line.0 _ turns line.3 here),
      rw c.record_visit.ensures (keeps.0 ∙ c.loop.invariant.trail),
      rw c.record_visit.ensures (keeps.1 ∙ c.loop.invariant.places),
    )

pub returns-then-not-branch-clause-ticks : goal.returns-then-not-branch-clause-ticks
returns-then-not-branch-clause-ticks g c =
    let turns : c.args.limit - c.loop.counter ≡ suc (c.args.limit - (c.loop.counter + 1)) = omega arith in
    let line = c.loop.invariant.line in
    let ends : visit_for None c.args.space.now c.loop.state.context c.loop.state.signal ≡ Ok Ends =
    visit_advanced c.args.space.now c.loop.stepper c.loop.state c.advance_by_made.new.state (Ok false) c.loop.invariant.over (rw c.if-not-branch.true at c.in_ok-advance_by_made.ensures.step) in
    let here = turned_ends None c.args.space.now c.loop.state ends in
    rises_to c.args.space.now _ _ _ _ (sym (met_here _ line.0 c.loop.state c.loop.counter line.4 (reached_here (turned_from None c.args.space.now) _ _ c.loop.state line.0 _ turns line.3 here)))
    (rises_then c.args.space.now c.loop.counter 1 _ _ _ c.loop.invariant.ticks (rw c.loop.invariant.over at c.in_ok-advance_by_made.ensures.ticks))

-- ---- the limit is met

pub returns-clause-walks : goal.returns-clause-walks
returns-clause-walks g c = (search rules, search rules, c.loop.invariant.trail, c.loop.invariant.places)

-- ---- the caller

pub loop-preserved : goal.loop-preserved
loop-preserved g c =
    let turns : c.args.limit - c.loop.counter ≡ suc (c.args.limit - (c.loop.counter + 1)) = omega arith in
    let line = c.loop.invariant.line in
    let keeps = visited_keeps true c.loop.room c.loop.state.context in
    let goes : visit_for None c.args.space.now c.loop.state.context c.loop.state.signal ≡ Ok (Goes c.advance_by_made.new.state) =
    visit_advanced c.args.space.now c.loop.stepper c.loop.state c.advance_by_made.new.state (Ok true) c.loop.invariant.over (rw c.if-not-branch.false at c.in_ok-advance_by_made.ensures.step) in
    record {
      line = (
        line.0 ++ c.loop.state.context ∷ [],
        line_goes None c.args.space.now _ _ c.loop.state line.0 _ turns line.1 c.advance_by_made.new.state goes,
        rw c.record_visit.ensures (more_visited true c.loop.room c.loop.state.context line.0 line.2),
        reached_next (turned_from None c.args.space.now) _ _ c.loop.state line.0 _ turns line.3 c.advance_by_made.new.state (turned_goes None c.args.space.now c.loop.state c.advance_by_made.new.state goes),
        length-append line.0 (c.loop.state.context ∷ []) ∙ ap (λ (n : ℕ). n + 1) line.4,
      );
      visited = rw c.record_visit.ensures (visited_count true c.loop.room c.loop.state.context c.loop.counter (λ visited. c.loop.invariant.visited) refl);
      trail = rw c.record_visit.ensures (keeps.0 ∙ c.loop.invariant.trail);
      places = rw c.record_visit.ensures (keeps.1 ∙ c.loop.invariant.places);
      over = c.in_ok-advance_by_made.ensures.same ∙ c.loop.invariant.over;
      made = rw c.loop.invariant.over at c.in_ok-advance_by_made.ensures.made;
      ticks = rises_then c.args.space.now c.loop.counter 1 _ _ _ c.loop.invariant.ticks (rw c.loop.invariant.over at c.in_ok-advance_by_made.ensures.ticks);
    }
