use Rattle.std.proofs.Common.{◌≡◌, lit≤}
use Rattle.memory_image.specs.Words.{u32_at, u64_at, u32_at-take, u64_at-take}
use Rattle.core_file.proofs.program_header.ProgramHeaderRecord.read.Goals as goal

pub returns : goal.returns
returns c =
    let p_type : c.u32_at.result ≡ u32_at c.args.bytes.now 0 = c.u32_at.ensures in
    let p_flags : c.u32_at-2.result ≡ u32_at c.args.bytes.now 4 = c.u32_at-2.ensures in
    let p_offset : c.u64_at.result ≡ u64_at c.args.bytes.now 8 = c.u64_at.ensures in
    let p_vaddr : c.u64_at-2.result ≡ u64_at c.args.bytes.now 16 = c.u64_at-2.ensures in
    let p_paddr : c.u64_at-3.result ≡ u64_at c.args.bytes.now 24 = c.u64_at-3.ensures in
    let p_filesz : c.u64_at-4.result ≡ u64_at c.args.bytes.now 32 = c.u64_at-4.ensures in
    let p_memsz : c.u64_at-5.result ≡ u64_at c.args.bytes.now 40 = c.u64_at-5.ensures in
    let p_align : c.u64_at-6.result ≡ u64_at c.args.bytes.now 48 = c.u64_at-6.ensures in
    cc (u32_at-take c.args.bytes.now 56 0 (lit≤ tt), u32_at-take c.args.bytes.now 56 4 (lit≤ tt), u64_at-take c.args.bytes.now 56 8 (lit≤ tt), u64_at-take c.args.bytes.now 56 16 (lit≤ tt), u64_at-take c.args.bytes.now 56 24 (lit≤ tt), u64_at-take c.args.bytes.now 56 32 (lit≤ tt), u64_at-take c.args.bytes.now 56 40 (lit≤ tt), u64_at-take c.args.bytes.now 56 48 (lit≤ tt))
