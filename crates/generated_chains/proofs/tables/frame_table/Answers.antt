use Rattle.std.proofs.Common.{arith}
use Rattle.generated_chains.proofs.tables.frame_table.Goals as goal
use Rattle.generated_chains.proofs.Loops.{index_at, past}

pub put_description-requires : goal.put_description-requires
put_description-requires c = let at = index_at 0 c.args.functions.now c.loop-function.function-index past c.requires.numbered (omega arith) in omega (arith, at)
