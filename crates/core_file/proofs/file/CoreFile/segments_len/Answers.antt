use Rattle.std.proofs.Common.{◌≡◌, length, inl, ap, arith}
use Rattle.core_file.specs.Left.{segments_left}
use Rattle.core_file.proofs.file.CoreFile.segments_len.Goals as goal

pub count-requires-clause-fits : goal.count-requires-clause-fits
count-requires-clause-fits c =
    let long : length (segments_left c.segments.result) ≡ length c.args.self.now.segments = ap length c.segments.ensures.left in
    let few = c.segments.ensures.few in
    inl (omega arith)
