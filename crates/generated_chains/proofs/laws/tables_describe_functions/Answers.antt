use Rattle.std.proofs.Common.{arith}
use Rattle.generated_chains.specs.Outlines.{outlines}
use Rattle.generated_chains.proofs.laws.tables_describe_functions.Goals as goal
use Rattle.generated_chains.proofs.Loops.{numbered_from, length-outlines}
use Rattle.generated_chains.proofs.Valid.{described_by_frames, described_by_header}

pub returns-clause-frames : goal.returns-clause-frames
returns-clause-frames g c =
    let long = length-outlines c.args.seed 0 c.args.count in
    described_by_frames g.image (outlines c.args.seed c.args.count) c.requires.1 (numbered_from c.args.seed 0 c.args.count) (omega arith)

pub returns-clause-header : goal.returns-clause-header
returns-clause-header g c =
    let long = length-outlines c.args.seed 0 c.args.count in
    described_by_header g.image (outlines c.args.seed c.args.count) c.requires.1 (numbered_from c.args.seed 0 c.args.count) (omega arith)
