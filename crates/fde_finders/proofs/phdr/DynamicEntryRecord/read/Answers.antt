use Rattle.std.proofs.Common.{◌≡◌, lit≤}
use Rattle.memory_image.specs.Words.{u64_at, u64_at-take}
use Rattle.fde_finders.proofs.phdr.DynamicEntryRecord.read.Goals as goal

pub returns : goal.returns
returns c =
    let tag : c.u64_at.result ≡ u64_at c.args.bytes.now 0 = c.u64_at.ensures in
    let value : c.u64_at-2.result ≡ u64_at c.args.bytes.now 8 = c.u64_at-2.ensures in
    cc (u64_at-take c.args.bytes.now 16 0 (lit≤ tt), u64_at-take c.args.bytes.now 16 8 (lit≤ tt))
