-- Steps of a number in bytes of seven bits.
use Rattle.std.proofs.Common.{◌≡◌, ℕ, zero, suc, ◌+◌, ◌-◌, ◌*◌, ◌%◌, ◌^◌, ◌<◌, ◌≤◌, Ok, refl, arith}
use Rattle.std.proofs.Math.Pow.{pow_mono}
use Rattle.std.proofs.Math.Nat.{pow-succ'}
use Rattle.std.specs.Int.{w8}
use Rattle.std.proofs.lemmas.Bool.{le-ltb}
use Rattle.unwind_definitions.specs.Faults.{◌>>=◌}
use Rattle.unwind_definitions.specs.Input.{Input, number, uleb_from, sleb_from}

-- at least two bytes may come, and the first has the high bit
pub uleb_more : (left : ℕ) (c : Input) (b : ℕ) (rest : Input) → 2 ≤ left → number w8 c ≡ Ok (b, rest) → 128 ≤ b →
    uleb_from left c ≡ (uleb_from (left - 1) rest >>= λ high. Ok (b - 128 + 128 * high.0, high.1))
uleb_more zero c b rest two e le = absurd (omega arith)
uleb_more (suc zero) c b rest two e le = absurd (omega arith)
uleb_more (suc (suc left)) c b rest two e le = let less : suc (suc left) - 1 ≡ suc left = omega arith in rw (less, e, le-ltb b 128 le) refl

-- the same of a signed one
pub sleb_more : (left : ℕ) (c : Input) (b : ℕ) (rest : Input) → 2 ≤ left → number w8 c ≡ Ok (b, rest) → 128 ≤ b →
    sleb_from left c ≡ (sleb_from (left - 1) rest >>= λ high. Ok ((b - 128 + 128 * high.0) % 2 ^ 64, high.1))
sleb_more zero c b rest two e le = absurd (omega arith)
sleb_more (suc zero) c b rest two e le = absurd (omega arith)
sleb_more (suc (suc left)) c b rest two e le = let less : suc (suc left) - 1 ≡ suc left = omega arith in rw (less, e, le-ltb b 128 le) refl

-- a number of one byte more
pub bound_more : (left b high : ℕ) → 2 ≤ left → b < 128 → high < 2 ^ (7 * (left - 1) - 6) → b + 128 * high < 2 ^ (7 * left - 6)
bound_more left b high two lt h =
    let e : 7 * left - 6 ≡ suc (suc (suc (suc (suc (suc (suc (7 * (left - 1) - 6))))))) = omega arith in
    rw (e, pow-succ' 2 _, pow-succ' 2 _, pow-succ' 2 _, pow-succ' 2 _, pow-succ' 2 _, pow-succ' 2 _, pow-succ' 2 _) (omega arith)

-- a number of one byte where more may come
pub bound_first : (left b : ℕ) → 2 ≤ left → b < 128 → b < 2 ^ (7 * left - 6)
bound_first left b two lt = let m : 7 ≤ 7 * left - 6 = omega arith in omega (arith, pow_mono m)

-- what stands after the first byte times 128 fits a word
pub bound_word : (left high : ℕ) → 2 ≤ left → left ≤ 10 → high < 2 ^ (7 * (left - 1) - 6) → high < 2 ^ 57
bound_word left high two ten h = let m : 7 * (left - 1) - 6 ≤ 57 = omega arith in omega (arith, pow_mono m)
