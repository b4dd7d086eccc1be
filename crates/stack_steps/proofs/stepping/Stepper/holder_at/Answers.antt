use Rattle.std.proofs.Common.{◌≡◌, IfSome, List, subst}
use Rattle.memory_image.specs.Image.{Span}
use Rattle.stack_steps.specs.AddedModule.{IsAddedModule}
use Rattle.stack_steps.proofs.Growing.{found_stays}
use Rattle.stack_steps.proofs.stepping.Stepper.holder_at.Goals as goal

pub returns-clause-added_module : goal.returns-clause-added_module
returns-clause-added_module c =
    let image : c.self.inside.stack ≡ c.args.self.now.image = cc in
    subst (λ (spans : List Span). IfSome c.added_near.result (λ added_module. IsAddedModule spans added_module.now)) image
    (found_stays c.self.inside.space.now.image c.self.inside.stack c.self.invariant c.added_near.result c.added_near.ensures.table)
