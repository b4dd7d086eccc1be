use Rattle.std.proofs.Common.{refl, subst}
use Rattle.stack_steps.specs.Modules.{SpaceValue}
use Rattle.stack_steps.specs.Ticking.{TicksAt}
use Rattle.stack_steps.proofs.Cached.{outermost_step, unframed_step}
use Rattle.stack_steps.proofs.Counted.{rises_by_one, rises_none}
use Rattle.stack_steps.proofs.stepping.Stepper.advance_by_made.Goals as goal

pub returns-then-state-eq0-clause-step : goal.returns-then-state-eq0-clause-step
returns-then-state-eq0-clause-step g c = outermost_step c.args.self.now c.args.state.now.context c.args.state.now.signal c.if-state-eq0.true

pub returns-in_default-clause-step : goal.returns-in_default-clause-step
returns-in_default-clause-step g c = unframed_step c.args.self.now c.args.state.now.context c.args.state.now.signal (c.in_default.ensures.ends refl)

pub returns-then-is_prepared-clause-ticks : goal.returns-then-is_prepared-clause-ticks
returns-then-is_prepared-clause-ticks g c =
    let s = c.args.state.now in
    let n = c.args.steps.now.number in
    rises_by_one c.args.self.now s.context s.signal 0 n n c.advance.new.steps.number (rises_none c.args.self.now n)
    (subst (λ (v : SpaceValue). TicksAt v s.context s.signal n c.advance.new.steps.number) c.module_asked.ensures.same c.advance.ensures.ticks)

pub returns-clause-ticks : goal.returns-clause-ticks
returns-clause-ticks g c =
    let s = c.args.state.now in
    let n = c.args.steps.now.number in
    rises_by_one c.args.self.now s.context s.signal 0 n n c.advance_by_making.new.steps.number (rises_none c.args.self.now n)
    (subst (λ (v : SpaceValue). TicksAt v s.context s.signal n c.advance_by_making.new.steps.number) c.module_asked.ensures.same c.advance_by_making.ensures.ticks)
