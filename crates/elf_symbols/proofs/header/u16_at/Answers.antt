use Rattle.std.proofs.Common.{◌∙◌, arith}
use Rattle.memory_image.specs.Words.{from_le_bytes-u16_at}
use Rattle.elf_symbols.proofs.header.u16_at.Goals as goal

pub returns : goal.returns
returns c = c.from_le_bytes.ensures ∙ from_le_bytes-u16_at c.args.bytes.now c.args.offset (omega arith)
