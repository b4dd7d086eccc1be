use Rattle.stack_steps.proofs.Cached.{asked_of, ends_of, held_of}
use Rattle.stack_steps.proofs.frame_cache.FrameCache.holder_at.Goals as goal

pub returns-clause-asked : goal.returns-clause-asked
returns-clause-asked c =
    let space = c.args.self.now in
    let held = held_of space c.args.address c.added_near.result (rw c.self.view_is at c.added_near.ensures.module) (rw c.self.view_is at c.added_near.ensures.index) (rw c.self.view_is at c.added_near.ensures.table) in
    asked_of space c.args.stepper.now c.requires.over c.args.state.now.context c.args.state.now.signal c.requires.returns c.args.address c.added_near.result c.requires.address held c.added_near.ensures.within

pub returns-clause-ends : goal.returns-clause-ends
returns-clause-ends c =
    ends_of c.args.self.now c.args.stepper.now c.requires.over c.args.state.now.context c.args.state.now.signal c.requires.returns c.args.address c.added_near.result c.requires.address (rw c.self.view_is at c.added_near.ensures.module)
