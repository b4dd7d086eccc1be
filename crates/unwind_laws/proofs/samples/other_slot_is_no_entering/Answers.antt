use Rattle.std.proofs.Common.{◌≡◌, ℕ, Option, Some}
use Rattle.memory_image.specs.Image.{word_at}
use Rattle.unwind_laws.proofs.samples.other_slot_is_no_entering.Goals as goal

pub returns : goal.returns
unfolding word_at
returns c entered = let slot : ◌≡◌ {A = Option ℕ} (Some 6) (Some 5) = entered.leaves.1 in absurd cc
