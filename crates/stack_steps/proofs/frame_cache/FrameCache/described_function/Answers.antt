use Rattle.std.proofs.Common.{subst}
use Rattle.memory_image.specs.Image.{IsLaidOut}
use Rattle.stack_steps.specs.declared.frame_cache.CachedRow.{CachedRow}
use Rattle.stack_steps.specs.Caching.{IsCached}
use Rattle.stack_steps.specs.Modules.{SpaceValue}
use Rattle.stack_steps.proofs.Cached.{found_cached, kept_function}
use Rattle.stack_steps.proofs.frame_cache.FrameCache.described_function.Goals as goal

pub returns-in-Some-clause-function : goal.returns-in-Some-clause-function
returns-in-Some-clause-function c =
    let k : CachedRow = c.in-Some.cached.now in
    let finds = c.in-Some.ensures in
    let kept = subst (λ (v : SpaceValue). IsCached v k) c.self.view_is (found_cached c.self.inside.space.now c.self.inside.rows c.args.address k finds c.self.invariant) in
    let laid = subst (λ (v : SpaceValue). IsLaidOut 0 v.image) c.self.view_is c.image.ensures.laid_out in
    kept_function c.args.self.now k c.args.address laid kept finds.is_of
