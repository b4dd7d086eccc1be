use Rattle.std.proofs.Common.{◌≡◌, List, Ok, subst, ◌∙◌}
use Rattle.memory_image.specs.Image.{Span}
use Rattle.frame_rows.specs.Rows.{IsRowOf}
use Rattle.stack_steps.specs.declared.frame_cache.CachedRow.{CachedRow}
use Rattle.stack_steps.specs.Caching.{IsCached}
use Rattle.stack_steps.specs.Elf.{caller}
use Rattle.stack_steps.specs.Frames.{DescribedFrame}
use Rattle.stack_steps.specs.Modules.{SpaceValue}
use Rattle.stack_steps.proofs.Cached.{found_cached, kept_step, outermost_step}
use Rattle.stack_steps.proofs.frame_cache.FrameCache.advance.Goals as goal

pub returns-then-state-eq0-clause-step : goal.returns-then-state-eq0-clause-step
returns-then-state-eq0-clause-step g c = outermost_step c.args.stepper.now c.args.state.now.context c.args.state.now.signal c.if-state-eq0.true

pub returns-then-step_in_place-clause-step : goal.returns-then-step_in_place-clause-step
returns-then-step_in_place-clause-step g c =
    let k : CachedRow = c.in-Some.cached.now in
    let s = c.args.state.now in
    let finds = c.in-Some.ensures in
    let kept = subst (λ (v : SpaceValue). IsCached v k) c.self.view_is (found_cached c.self.inside.space.now c.self.inside.rows c.address-address.result k finds c.self.invariant) in
    let calls = subst (λ (image : List Span). (f : DescribedFrame) → IsRowOf k.row f.run → k.signal ≡ f.found.fde.cie.letters.signal → caller image s.context f ≡ Ok c.step_in_place.new.state) c.stack-stack.ensures (c.step_in_place.ensures.caller c.if-step_in_place.true) in
    kept_step c.args.self.now c.args.stepper.now c.requires.over s.context s.signal c.if-state-eq0.false c.image.ensures.laid_out k c.step_in_place.new.state kept (finds.is_of ∙ c.address-address.ensures) calls
