use Rattle.std.proofs.Common.{◌≡◌, ℕ, ◌*◌, ◌≤◌, ◌/◌, ◌%◌, bit_and, arith}
use Rattle.std.proofs.lemmas.Nat.{and_mod, and_le_r}
use Rattle.std.proofs.lemmas.Nat.Bits.{and_high_mask}
use Rattle.encoded_pointers.proofs.encoding.DwEhPe.application.Goals as goal

-- three bits above the lowest four
three_bits : (x : ℕ) → bit_and x 0x70 ≡ 16 * ((x / 16) % 8)
three_bits x =
    let within : bit_and x 0x70 ≤ 0x70 = and_le_r x 0x70 in
    let low : bit_and x 0x70 % 128 ≡ bit_and (x % 128) 0x70 = and_mod x 0x70 7 in
    let high : bit_and (x % 128) 0x70 ≡ x % 128 / 16 * 16 = and_high_mask 7 4 (omega arith) (x % 128) (omega arith) in
    omega arith

pub returns : goal.returns
returns c = three_bits c.args.self.0
