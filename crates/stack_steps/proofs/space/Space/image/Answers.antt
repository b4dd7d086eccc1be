use Rattle.std.specs.List.{AllByRecursion}
use Rattle.std.proofs.Common.{subst}
use Rattle.stack_steps.specs.Modules.{SpaceValue}
use Rattle.stack_steps.specs.Preparing.{IsAddedTo}
use Rattle.stack_steps.proofs.AddedModules.{added_to}
use Rattle.stack_steps.proofs.space.Space.image.Goals as goal

pub returns-clause-added : goal.returns-clause-added
returns-clause-added c =
    subst (λ (v : SpaceValue). AllByRecursion (IsAddedTo v) v.added) c.self.view_is
    (added_to c.self.inside.image c.self.inside.modules.entries c.self.inside.added.items c.self.inside.left c.self.invariant)
