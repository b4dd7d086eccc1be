-- The stack of a sample that begins a known stack.
use Rattle.std.proofs.Common.{◌≡◌, ℕ, List, ◌∷◌, Some, ap, ◌∙◌}
use Rattle.memory_image.specs.Image.{IsLaidOut}
use Rattle.unwind_definitions.specs.State.{State}
use Rattle.stack_steps.specs.Modules.{SpaceValue, AreApart}
use Rattle.stack_walks.specs.KnownWalks.{StartsKnownStack}
use Rattle.stack_walks.proofs.KnownLines.{known_walked}
use Rattle.folded_stacks.specs.declared.samples.Sample.{Sample}
use Rattle.folded_stacks.specs.Folding.{walked_stack}
use Rattle.folded_stacks.specs.Stacks.{stack_shown}
use Rattle.folded_stacks.proofs.Walks.{stack_is, walked_by}

pub known_stacked : (space : SpaceValue) (limit : ℕ) (sample : Sample) (s : State) (callers : List State) → AreApart 0 space.modules → IsLaidOut 0 space.image
    → StartsKnownStack space sample.start limit sample.interrupted s callers → walked_stack space limit sample ≡ Some (stack_shown (s ∷ callers))
known_stacked space limit sample s callers apart laid starts =
    let w = known_walked space apart laid sample.start limit sample.interrupted s callers starts in
    walked_by space limit sample w.0 w.1 ∙ ap Some (stack_is w.0 (s ∷ callers) w.2.each)
