use Rattle.std.proofs.Common.{None}
use Rattle.stack_walks.specs.FrameVisits.{line_for}
use Rattle.stack_walks.specs.Lines.{line_of}
use Rattle.stack_steps.proofs.Counted.{rises_up_to, rises_to}
use Rattle.stack_walks.proofs.VisitLines.{walk_line, walked_by}
use Rattle.stack_walks.proofs.VisitCounts.{few_met, walk_met}
use Rattle.stack_walks.proofs.walking.walk_with_rows.Goals as goal

pub returns-in-Ok-clause-exact : goal.returns-in-Ok-clause-exact
returns-in-Ok-clause-exact g c =
    rw c.in-Ok.is at
    (walked_by c.unwinding_in.result c.unwinding_in.new.room c.unwinding_in.new.state (line_for None c.args.space.now c.args.limit c.args.start.now c.args.interrupted) (line_of c.args.space.now c.args.limit c.args.start.now c.args.interrupted) c.unwinding_in.ensures.walks.0
    (walk_line c.args.space.now c.args.limit c.args.start.now c.args.interrupted))

pub returns-in-Err-clause-exact : goal.returns-in-Err-clause-exact
returns-in-Err-clause-exact g c =
    rw c.in-Err.is at
    (walked_by c.unwinding_in.result c.unwinding_in.new.room c.unwinding_in.new.state (line_for None c.args.space.now c.args.limit c.args.start.now c.args.interrupted) (line_of c.args.space.now c.args.limit c.args.start.now c.args.interrupted) c.unwinding_in.ensures.walks.0
    (walk_line c.args.space.now c.args.limit c.args.start.now c.args.interrupted))

pub returns-in-Ok-clause-ticks : goal.returns-in-Ok-clause-ticks
returns-in-Ok-clause-ticks g c = rises_up_to c.args.space.now _ c.args.limit _ _ (few_met None c.args.space.now c.args.limit c.args.start.now c.args.interrupted) c.unwinding_in.ensures.ticks

pub returns-in-Err-clause-ticks : goal.returns-in-Err-clause-ticks
returns-in-Err-clause-ticks g c = rises_up_to c.args.space.now _ c.args.limit _ _ (few_met None c.args.space.now c.args.limit c.args.start.now c.args.interrupted) c.unwinding_in.ensures.ticks

pub returns-in-Ok-clause-searches : goal.returns-in-Ok-clause-searches
returns-in-Ok-clause-searches g c = rises_to c.args.space.now _ _ _ _ (walk_met c.args.space.now c.args.limit c.args.start.now c.args.interrupted) c.unwinding_in.ensures.ticks

pub returns-in-Err-clause-searches : goal.returns-in-Err-clause-searches
returns-in-Err-clause-searches g c = rises_to c.args.space.now _ _ _ _ (walk_met c.args.space.now c.args.limit c.args.start.now c.args.interrupted) c.unwinding_in.ensures.ticks
