use Rattle.std.proofs.Common.{◌≡◌, rules}
use Rattle.std.specs.Int.{w32, cast_unsigned}
use Rattle.unwinding_frames.proofs.Bits.{shares_bit}
use Rattle.unwinding_frames.proofs.abi.UnwindAction.contains.Goals as goal

pub returns-clause-bit : goal.returns-clause-bit
returns-clause-bit c =
    let a : c.cast_unsigned.result ≡ cast_unsigned w32 c.args.self.now.0 = search rules in
    let b : c.cast_unsigned-2.result ≡ cast_unsigned w32 c.args.other.0 = search rules in
    shares_bit (cast_unsigned w32 c.args.self.now.0) (cast_unsigned w32 c.args.other.0) c.cast_unsigned.result c.cast_unsigned-2.result a b
