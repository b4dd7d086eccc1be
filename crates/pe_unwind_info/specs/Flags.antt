-- The flags of an unwind record as a set of bits.
use Rattle.std.specs.Prelude.{ℕ}
use Rattle.pe_unwind_info.specs.declared.x86_64.unwind_info.UnwindInfoFlags.{UnwindInfoFlags}

abbrev pub flag_bits : UnwindInfoFlags → ℕ
flag_bits flags = flags.0
