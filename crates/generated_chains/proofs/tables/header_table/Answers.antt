use Rattle.std.proofs.Common.{arith}
use Rattle.generated_chains.proofs.tables.header_table.Goals as goal
use Rattle.generated_chains.proofs.Loops.{index_at, past}

pub put_pair-requires : goal.put_pair-requires
put_pair-requires c = let at = index_at 0 c.args.functions.now c.loop-function.function-index past c.requires.numbered (omega arith) in omega (arith, at)
