use Rattle.std.proofs.Common.{◌≡◌, lit≤}
use Rattle.memory_image.specs.Words.{u64_at, u64_at-take}
use Rattle.core_file.proofs.mapped.PartEntryRecord.read.Goals as goal

pub returns : goal.returns
returns c =
    let start : c.u64_at.result ≡ u64_at c.args.bytes.now 0 = c.u64_at.ensures in
    let stop : c.u64_at-2.result ≡ u64_at c.args.bytes.now 8 = c.u64_at-2.ensures in
    let pages : c.u64_at-3.result ≡ u64_at c.args.bytes.now 16 = c.u64_at-3.ensures in
    cc (u64_at-take c.args.bytes.now 24 0 (lit≤ tt), u64_at-take c.args.bytes.now 24 8 (lit≤ tt), u64_at-take c.args.bytes.now 24 16 (lit≤ tt))
