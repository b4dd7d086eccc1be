use Rattle.std.proofs.Common.{◌∙◌, arith}
use Rattle.memory_image.specs.Words.{from_le_bytes-u64_at}
use Rattle.memory_image.proofs.words.u64_at.Goals as goal

pub returns : goal.returns
returns c = c.from_le_bytes.ensures ∙ from_le_bytes-u64_at c.args.bytes.now c.args.offset (omega arith)
