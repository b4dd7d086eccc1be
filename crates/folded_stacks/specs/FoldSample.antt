-- Three samples of a thread in a function that pushes RBX: two after the push, stopped at one and the same place, and one at the
-- address 0.
use Rattle.std.specs.Prelude.{ℕ, false, List, [], ◌∷◌}
use Rattle.stack_steps.specs.StopSample.{stopped_at}
use Rattle.folded_stacks.specs.declared.samples.Sample.{Sample}
use Rattle.folded_stacks.specs.Counts.{FoldedValue, stack_count}

abbrev pub sample_at : ℕ → Sample
sample_at ra = record { start = stopped_at ra; interrupted = false }

abbrev pub three_samples : List Sample
three_samples = sample_at 0x401006 ∷ sample_at 0x401006 ∷ sample_at 0 ∷ []

-- what is folded of them: one has an empty stack, and two return to the same address
abbrev pub folded_three : FoldedValue
folded_three = record { lines = stack_count [] 1 ∷ stack_count (0x401006 ∷ []) 2 ∷ []; refused = 0 }
