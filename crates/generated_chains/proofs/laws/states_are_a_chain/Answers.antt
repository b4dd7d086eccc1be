use Rattle.std.proofs.Common.{arith}
use Rattle.unwind_definitions.specs.Module.{IsUncovered}
use Rattle.generated_chains.specs.Outlines.{outlines}
use Rattle.generated_chains.proofs.laws.states_are_a_chain.Goals as goal
use Rattle.generated_chains.proofs.Loops.{numbered_from, length-outlines}
use Rattle.generated_chains.proofs.ChainLaw.{generated_chain}

pub returns : goal.returns
returns g c =
    let long = length-outlines c.args.seed 0 c.args.count in
    generated_chain g.process.image c.args.seed (outlines c.args.seed c.args.count) (IsUncovered g.process) (omega arith) (numbered_from c.args.seed 0 c.args.count) (omega arith) c.requires.1
