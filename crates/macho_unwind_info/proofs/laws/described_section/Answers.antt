use Rattle.std.proofs.Common.{refl, lit<, lit≤}
use Rattle.macho_unwind_info.proofs.laws.described_section.Goals as goal

pub returns : goal.returns
returns c = (
  _,
  refl,
  (
    lit< tt,
    record {
      opened = _;
      reads = refl;
      begin = refl;
      ascend = (
        record { at = 0x1000; is = refl; from_low = lit≤ tt; below_high = lit< tt; opcode = 0x02010000; reads = refl },
        (record { at = 0x1100; is = refl; from_low = lit≤ tt; below_high = lit< tt; opcode = 0x02010000; reads = refl }, tt),
      );
    },
    (
      lit< tt,
      record {
        opened = _;
        reads = refl;
        begin = refl;
        ascend = (record { at = 0x2000; is = refl; from_low = lit≤ tt; below_high = lit< tt; opcode = 0x01010001; reads = refl }, tt);
      },
      tt,
    ),
  ),
  refl,
)
