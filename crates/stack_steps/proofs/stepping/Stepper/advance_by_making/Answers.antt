use Rattle.std.proofs.Common.{Option, Some, Result, Ok, subst}
use Rattle.stack_steps.specs.declared.error.DeliverError.{DeliverError}
use Rattle.stack_steps.specs.declared.frames.FoundFrame.{FoundFrame}
use Rattle.stack_steps.specs.FrameViews.{GivesFrameAt}
use Rattle.stack_steps.specs.Stepping.{frame_of}
use Rattle.stack_steps.proofs.stepping.Stepper.advance_by_making.Goals as goal

pub returns-in_err-step_to_caller-in-Ok-Some-clause-made : goal.returns-in_err-step_to_caller-in-Ok-Some-clause-made
returns-in_err-step_to_caller-in-Ok-Some-clause-made g c =
    let s = c.args.state.now in
    let due = frame_of c.args.self.now s.context s.signal in
    c.keep_row.ensures c.args.self.now (subst (λ (o : Option FoundFrame). GivesFrameAt (Ok o) due) c.in-Ok-Some.field-0-is (subst (λ (r : Result (Option FoundFrame) DeliverError). GivesFrameAt r due) c.in-Ok-Some.is c.searched_frame.ensures.frame)) c.requires.made

pub returns-in_ok-step_to_caller-in-Ok-Some-clause-made : goal.returns-in_ok-step_to_caller-in-Ok-Some-clause-made
returns-in_ok-step_to_caller-in-Ok-Some-clause-made g c =
    let s = c.args.state.now in
    let due = frame_of c.args.self.now s.context s.signal in
    c.keep_row.ensures c.args.self.now (subst (λ (o : Option FoundFrame). GivesFrameAt (Ok o) due) c.in-Ok-Some.field-0-is (subst (λ (r : Result (Option FoundFrame) DeliverError). GivesFrameAt r due) c.in-Ok-Some.is c.searched_frame.ensures.frame)) c.requires.made
