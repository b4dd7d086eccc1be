use Rattle.std.proofs.Common.{refl, lit<, lit≤}
use Rattle.macho_unwind_info.proofs.laws.section_with_language_tables.Goals as goal

pub returns : goal.returns
returns c = (
  _,
  refl,
  (
    lit< tt,
    record {
      opened = _;
      reads = refl;
      begin = refl;
      ascend = (record { at = 0x1000; is = refl; from_low = lit≤ tt; below_high = lit< tt; opcode = 0x52010000; reads = refl }, tt);
    },
    tt,
  ),
  (lit< tt, record { entries = _; reads = refl; ascend = tt }, tt),
  refl,
  refl,
  refl,
  refl,
)
