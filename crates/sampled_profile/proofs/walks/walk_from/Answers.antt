use Rattle.std.proofs.Common.{sym, ◌∙◌}
use Rattle.stack_steps.specs.Growing.{over_image}
use Rattle.popped_registers.specs.PoppedRegisters.{kept_space}
use Rattle.sampled_profile.specs.Ends.{returns_of}
use Rattle.sampled_profile.proofs.EndLemmas.{comes_told}
use Rattle.sampled_profile.proofs.walks.walk_from.Goals as goal

pub returns-clause-walk : goal.returns-clause-walk
returns-clause-walk c =
    let walk = c.walk_interrupted_cached-walk in
    let kept = kept_space (over_image c.args.cache.now c.args.image.now) c.args.limit c.args.start.now in
    let end = c.end_told.ensures ∙ sym (comes_told kept walk.result.why c.args.limit c.args.start.now _ walk.ensures.why) in
    let states = walk.ensures.states in
    let popped = walk.ensures.popped in
    λ i. record { returns = returns_of (states i); end = end i; popped = popped i }
