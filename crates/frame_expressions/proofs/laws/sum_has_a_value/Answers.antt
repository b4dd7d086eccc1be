use Rattle.std.proofs.Common.{[], ◌∷◌, refl, arith}
use Rattle.unwind_definitions.specs.Operations.{operation_of, arithmetic}
use Rattle.unwind_definitions.specs.Expressions.{done}
use Rattle.frame_expressions.proofs.laws.sum_has_a_value.Goals as goal

pub returns : goal.returns
unfolding operation_of arithmetic done
returns c image columns = record { run = record { position = 2; stack = 0x7018 ∷ [] } ∷ []; follows = (refl, tt); few = omega arith; ends = refl; top = refl }
