use Rattle.std.proofs.Common.{◌≡◌, ◌∙◌, lit≤, arith}
use Rattle.memory_image.specs.Words.{u16_at, u32_at, u16_at-take, u32_at-take, from_le_bytes-u16_at, from_le_bytes-u32_at}
use Rattle.table_vectors.proofs.images.EntryRecord.read.Goals as goal

pub returns : goal.returns
returns c =
    let address : c.from_le_bytes.result ≡ u32_at c.args.bytes.now 0 = c.from_le_bytes.ensures ∙ from_le_bytes-u32_at c.args.bytes.now 0 (omega arith) in
    let size : c.from_le_bytes-2.result ≡ u16_at c.args.bytes.now 4 = c.from_le_bytes-2.ensures ∙ from_le_bytes-u16_at c.args.bytes.now 4 (omega arith) in
    cc (u32_at-take c.args.bytes.now 6 0 (lit≤ tt), u16_at-take c.args.bytes.now 6 4 (lit≤ tt))
