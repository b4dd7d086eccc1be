use Rattle.std.proofs.Common.{◌≡◌, ◌≤◌, ◌+◌, ◌*◌, ◌%◌, ◌^◌, true, length, sym, ap, ◌∙◌, arith}
use Rattle.std.proofs.Math.Nat.{mod-lt}
use Rattle.std.proofs.lemmas.Nat.{one_shl, pow_pos}
use Rattle.std.specs.Prelude.{count_ones}
use Rattle.perf_data.specs.Layouts.{has_bits}
use Rattle.perf_data.proofs.RegisterLemmas.{fewer_below}
use Rattle.perf_data.proofs.registers.UserRegisters.register.Goals as goal

pub u64_at-requires : goal.u64_at-requires
u64_at-requires c =
    let mask = c.args.self.now.mask in
    let n = c.args.number in
    let bit : 1 * 2 ^ n % 18446744073709551616 ≡ 2 ^ n = one_shl n 64 c.requires in
    let is : has_bits mask (2 ^ n) ≡ true = sym (ap (has_bits mask) bit) ∙ sym c.if-has_bits.ensures in
    let fewer : count_ones (mask % 2 ^ n) + 1 ≤ count_ones mask = fewer_below mask n (pow_pos n) (mod-lt mask (pow_pos n)) is in
    let whole : 8 * count_ones mask ≤ length c.args.self.now.words.now = assumption c.type_inv.self in
    rw bit (omega arith)
