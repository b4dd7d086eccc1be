use Rattle.std.proofs.Common.{[], refl, arith}
use Rattle.unwind_definitions.specs.Operations.{operation_of, constant}
use Rattle.unwind_definitions.specs.Expressions.{done}
use Rattle.frame_expressions.proofs.laws.unmapped_word_is_a_fault.Goals as goal

pub returns : goal.returns
unfolding operation_of constant done
returns c columns = record { run = []; follows = tt; few = omega arith; stops = refl }
