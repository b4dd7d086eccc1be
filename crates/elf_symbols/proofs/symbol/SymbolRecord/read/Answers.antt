use Rattle.std.proofs.Common.{◌≡◌, lit≤, lit<}
use Rattle.std.proofs.lemmas.List.{get_or-take}
use Rattle.memory_image.specs.Words.{u16_at, u32_at, u64_at, u16_at-take, u32_at-take, u64_at-take}
use Rattle.elf_symbols.proofs.symbol.SymbolRecord.read.Goals as goal

pub returns : goal.returns
returns c =
    let b = c.args.bytes.now in
    let st_name : c.u32_at.result ≡ u32_at b 0 = c.u32_at.ensures in
    let st_shndx : c.u16_at.result ≡ u16_at b 6 = c.u16_at.ensures in
    let st_value : c.u64_at.result ≡ u64_at b 8 = c.u64_at.ensures in
    let st_size : c.u64_at-2.result ≡ u64_at b 16 = c.u64_at-2.ensures in
    cc (u32_at-take b 24 0 (lit≤ tt), get_or-take 24 b 4 0 (lit< tt), get_or-take 24 b 5 0 (lit< tt), u16_at-take b 24 6 (lit≤ tt), u64_at-take b 24 8 (lit≤ tt), u64_at-take b 24 16 (lit≤ tt))
