use Rattle.std.proofs.Common.{◌∙◌, ap}
use Rattle.stack_steps.specs.Modules.{SpaceValue}
use Rattle.stack_steps.specs.Preparing.{with_indexes}
use Rattle.sampled_profile.specs.Profiles.{tables}
use Rattle.profile.specs.Due.{told_by}
use Rattle.profile.proofs.Folds.{told_same}
use Rattle.profile.proofs.running.prepared_space.Goals as goal

pub returns : goal.returns
returns c = λ origins limit form records.
    let old = c.in_ok-space.space in
    let changed = c.in_ok-prepare.ensures.prepares in
    let told = λ (s : SpaceValue). told_by (tables s origins limit) form records in
    ap told changed.is ∙ told_same old (with_indexes old.added changed.made) origins limit form records ∙ ap told c.in_ok-space.ensures
