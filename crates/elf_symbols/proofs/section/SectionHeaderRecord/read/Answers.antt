use Rattle.std.proofs.Common.{◌≡◌, lit≤}
use Rattle.memory_image.specs.Words.{u32_at, u64_at, u32_at-take, u64_at-take}
use Rattle.elf_symbols.proofs.section.SectionHeaderRecord.read.Goals as goal

pub returns : goal.returns
returns c =
    let b = c.args.bytes.now in
    let sh_name : c.u32_at.result ≡ u32_at b 0 = c.u32_at.ensures in
    let sh_type : c.u32_at-2.result ≡ u32_at b 4 = c.u32_at-2.ensures in
    let sh_flags : c.u64_at.result ≡ u64_at b 8 = c.u64_at.ensures in
    let sh_addr : c.u64_at-2.result ≡ u64_at b 16 = c.u64_at-2.ensures in
    let sh_offset : c.u64_at-3.result ≡ u64_at b 24 = c.u64_at-3.ensures in
    let sh_size : c.u64_at-4.result ≡ u64_at b 32 = c.u64_at-4.ensures in
    let sh_link : c.u32_at-3.result ≡ u32_at b 40 = c.u32_at-3.ensures in
    let sh_info : c.u32_at-4.result ≡ u32_at b 44 = c.u32_at-4.ensures in
    let sh_addralign : c.u64_at-5.result ≡ u64_at b 48 = c.u64_at-5.ensures in
    let sh_entsize : c.u64_at-6.result ≡ u64_at b 56 = c.u64_at-6.ensures in
    cc (u32_at-take b 64 0 (lit≤ tt), u32_at-take b 64 4 (lit≤ tt), u64_at-take b 64 8 (lit≤ tt), u64_at-take b 64 16 (lit≤ tt), u64_at-take b 64 24 (lit≤ tt), u64_at-take b 64 32 (lit≤ tt), u32_at-take b 64 40 (lit≤ tt), u32_at-take b 64 44 (lit≤ tt), u64_at-take b 64 48 (lit≤ tt), u64_at-take b 64 56 (lit≤ tt))
