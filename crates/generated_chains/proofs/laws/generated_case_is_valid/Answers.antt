use Rattle.std.proofs.Common.{arith}
use Rattle.generated_chains.specs.Outlines.{outlines}
use Rattle.generated_chains.specs.Memory.{by_frames, by_header}
use Rattle.generated_chains.proofs.laws.generated_case_is_valid.Goals as goal
use Rattle.generated_chains.proofs.Loops.{numbered_from, length-outlines}
use Rattle.generated_chains.proofs.Valid.{is_process, valid_by_frames, valid_by_header}

pub returns-clause-frames : goal.returns-clause-frames
returns-clause-frames c =
    let long = length-outlines c.args.seed 0 c.args.count in
    record {
      process = is_process c.args.seed (omega arith) (outlines c.args.seed c.args.count) (numbered_from c.args.seed 0 c.args.count) (omega arith) (omega arith) by_frames;
      valid = valid_by_frames c.args.seed (omega arith) (outlines c.args.seed c.args.count) (numbered_from c.args.seed 0 c.args.count) (omega arith) (omega arith);
    }

pub returns-clause-header : goal.returns-clause-header
returns-clause-header c =
    let long = length-outlines c.args.seed 0 c.args.count in
    record {
      process = is_process c.args.seed (omega arith) (outlines c.args.seed c.args.count) (numbered_from c.args.seed 0 c.args.count) (omega arith) (omega arith) by_header;
      valid = valid_by_header c.args.seed (omega arith) (outlines c.args.seed c.args.count) (numbered_from c.args.seed 0 c.args.count) (omega arith) (omega arith);
    }
