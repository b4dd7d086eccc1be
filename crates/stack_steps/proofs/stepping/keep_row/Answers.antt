use Rattle.std.proofs.Common.{subst}
use Rattle.stack_steps.specs.declared.frames.FoundFrame.{FoundFrame}
use Rattle.stack_steps.specs.FrameViews.{IsFrameOf}
use Rattle.fde_finders.specs.FoundViews.{found_fde_of}
use Rattle.stack_steps.proofs.Made.{kept_made, made_of}
use Rattle.stack_steps.proofs.stepping.keep_row.Goals as goal

pub returns-in-Searched : goal.returns-in-Searched
returns-in-Searched c = λ space given all.
    let s = c.args.state.now in
    let found = c.in-Searched.searched.found.now in
    let is = subst (λ (f : FoundFrame). IsFrameOf f given.0) c.in-Searched.is given.2 in
    kept_made space c.args.made.now c.keep.new.self _ c.keep.ensures all
    (made_of space s.context s.signal (found_fde_of found) c.in-Searched.searched.row given.0 _ given.1 is c.address.ensures c.to_row.ensures c.is_signal_trampoline.ensures)
