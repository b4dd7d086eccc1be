use Rattle.std.proofs.Common.{arith}
use Rattle.generated_chains.specs.Outlines.{outlines}
use Rattle.generated_chains.proofs.laws.memory_holds_tables_and_stack.Goals as goal
use Rattle.generated_chains.proofs.Loops.{numbered_from, length-outlines}
use Rattle.generated_chains.proofs.Held.{holds_tables, holds_stack}

pub returns-clause-tables : goal.returns-clause-tables
returns-clause-tables c =
    let long = length-outlines c.args.seed 0 c.args.count in
    holds_tables c.args.seed (omega arith) (outlines c.args.seed c.args.count) (numbered_from c.args.seed 0 c.args.count) (omega arith) (omega arith)

pub returns-clause-stack : goal.returns-clause-stack
returns-clause-stack c =
    let long = length-outlines c.args.seed 0 c.args.count in
    holds_stack c.args.seed (omega arith) (outlines c.args.seed c.args.count) (numbered_from c.args.seed 0 c.args.count) (omega arith) (omega arith)
