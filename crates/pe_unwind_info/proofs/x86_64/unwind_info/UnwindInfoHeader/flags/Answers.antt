use Rattle.std.proofs.Common.{◌≡◌, ◌∙◌}
use Rattle.std.proofs.lemmas.Nat.{and_mask}
use Rattle.bitflags.proofs.OnLiterals.{bitflags_on_literals}
use Rattle.std.specs.Int.RustNames.{bit_and}
use Rattle.pe_unwind_info.specs.Header.{flags_of}
use Rattle.pe_unwind_info.proofs.x86_64.unwind_info.UnwindInfoHeader.flags.Goals as goal

pub returns : goal.returns
unfolding bitflags_on_literals
returns c =
    let known : c.from_bits_truncate.result.0 ≡ bit_and c.flags_raw.result 7 = c.from_bits_truncate.ensures tt in
    let raw : c.flags_raw.result ≡ flags_of c.args.self.now = c.flags_raw.ensures in
    known ∙ rw raw (and_mask (flags_of c.args.self.now) 3)
