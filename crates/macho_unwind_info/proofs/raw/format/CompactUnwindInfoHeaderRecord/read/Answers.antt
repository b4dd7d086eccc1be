use Rattle.std.proofs.Common.{lit≤, refl}
use Rattle.macho_unwind_info.proofs.FieldLemmas.{u32_at-take}
use Rattle.macho_unwind_info.proofs.raw.format.CompactUnwindInfoHeaderRecord.read.Goals as goal

pub returns : goal.returns
returns c =
    let bytes = c.args.bytes.now in
    rw (
      c.u32_at.ensures,
      c.u32_at-2.ensures,
      c.u32_at-3.ensures,
      c.u32_at-4.ensures,
      c.u32_at-5.ensures,
      c.u32_at-6.ensures,
      c.u32_at-7.ensures,
      u32_at-take 28 0 bytes (lit≤ tt),
      u32_at-take 28 4 bytes (lit≤ tt),
      u32_at-take 28 8 bytes (lit≤ tt),
      u32_at-take 28 12 bytes (lit≤ tt),
      u32_at-take 28 16 bytes (lit≤ tt),
      u32_at-take 28 20 bytes (lit≤ tt),
      u32_at-take 28 24 bytes (lit≤ tt),
    ) refl
