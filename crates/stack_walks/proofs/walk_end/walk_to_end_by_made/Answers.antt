use Rattle.std.proofs.Common.{None, List, length, sym, ap, ◌∙◌}
use Rattle.unwind_arch.specs.declared.x86_64.Context.{Context}
use Rattle.stack_steps.proofs.Counted.{rises_up_to, rises_to}
use Rattle.stack_walks.proofs.EndAnswers.{walk_states, walk_ends, walk_ends_for, walk_stops}
use Rattle.stack_walks.proofs.VisitCounts.{few_met, walk_met}
use Rattle.stack_walks.proofs.walk_end.walk_to_end_by_made.Goals as goal

pub unframed_end-requires : goal.unframed_end-requires
unframed_end-requires g c =
    walk_ends c.args.space.now c.args.limit c.args.start.now c.args.interrupted c.unwind_frames_by_made.new.room c.unwind_frames_by_made.new.state c.unwind_frames_by_made.ensures.walks.1 c.unwind_frames_by_made.result c.unwind_frames_by_made.ensures.walks.0 c.in-Ok.field-0 c.in-Ok.is

pub returns-in-Ok-clause-states : goal.returns-in-Ok-clause-states
returns-in-Ok-clause-states g c =
    walk_states c.args.space.now c.args.limit c.args.start.now c.args.interrupted c.unwind_frames_by_made.new.room c.unwind_frames_by_made.new.state c.unwind_frames_by_made.ensures.walks.1

pub returns-in-Ok-clause-why : goal.returns-in-Ok-clause-why
returns-in-Ok-clause-why g c =
    walk_ends_for c.args.space.now c.args.limit c.args.start.now c.args.interrupted c.unwind_frames_by_made.new.room c.unwind_frames_by_made.new.state c.unwind_frames_by_made.ensures.walks.1 c.unwind_frames_by_made.result c.unwind_frames_by_made.ensures.walks.0 c.in-Ok.field-0 c.in-Ok.is
    c.unframed_end.result c.unframed_end.ensures

pub returns-in-Err-clause-states : goal.returns-in-Err-clause-states
returns-in-Err-clause-states g c =
    walk_states c.args.space.now c.args.limit c.args.start.now c.args.interrupted c.unwind_frames_by_made.new.room c.unwind_frames_by_made.new.state c.unwind_frames_by_made.ensures.walks.1

pub returns-in-Err-clause-why : goal.returns-in-Err-clause-why
returns-in-Err-clause-why g c =
    rw c.stopped_end.ensures (walk_stops c.args.space.now c.args.limit c.args.start.now c.args.interrupted c.unwind_frames_by_made.new.room c.unwind_frames_by_made.new.state c.unwind_frames_by_made.ensures.walks.1 c.unwind_frames_by_made.result c.unwind_frames_by_made.ensures.walks.0 c.in-Err.error c.in-Err.is c.address.result c.address.ensures)

pub returns-in-Ok-clause-ticks : goal.returns-in-Ok-clause-ticks
returns-in-Ok-clause-ticks g c = rises_up_to c.args.space.now _ c.args.limit _ _ (few_met None c.args.space.now c.args.limit c.args.start.now c.args.interrupted) c.unwind_frames_by_made.ensures.ticks

pub returns-in-Err-clause-ticks : goal.returns-in-Err-clause-ticks
returns-in-Err-clause-ticks g c = rises_up_to c.args.space.now _ c.args.limit _ _ (few_met None c.args.space.now c.args.limit c.args.start.now c.args.interrupted) c.unwind_frames_by_made.ensures.ticks

pub returns-in-Ok-clause-searches : goal.returns-in-Ok-clause-searches
returns-in-Ok-clause-searches g c =
    let states = walk_states c.args.space.now c.args.limit c.args.start.now c.args.interrupted c.unwind_frames_by_made.new.room c.unwind_frames_by_made.new.state c.unwind_frames_by_made.ensures.walks.1 in
    rises_to c.args.space.now _ _ _ _ (walk_met c.args.space.now c.args.limit c.args.start.now c.args.interrupted ∙ ap (λ (cs : List Context). length cs) (sym states)) c.unwind_frames_by_made.ensures.ticks

pub returns-in-Err-clause-searches : goal.returns-in-Err-clause-searches
returns-in-Err-clause-searches g c =
    let states = walk_states c.args.space.now c.args.limit c.args.start.now c.args.interrupted c.unwind_frames_by_made.new.room c.unwind_frames_by_made.new.state c.unwind_frames_by_made.ensures.walks.1 in
    rises_to c.args.space.now _ _ _ _ (walk_met c.args.space.now c.args.limit c.args.start.now c.args.interrupted ∙ ap (λ (cs : List Context). length cs) (sym states)) c.unwind_frames_by_made.ensures.ticks
