-- Numbers of several bytes.
use Rattle.std.proofs.Common.{◌≡◌, ℕ, zero, suc, ◌+◌, ◌-◌, ◌*◌, ◌<◌, ◌≤◌, ◌^◌, List, Option, Some, None, refl, arith, lit<}
use Rattle.std.proofs.lemmas.Grind.{common_steps}
use Rattle.std.proofs.Math.Nat.{pow-le-pow_right}
use Rattle.std.specs.Option.{option_and_then, option_map}
use Rattle.memory_image.specs.Image.{Span, byte_at, number_at}

pub number_at-front : (ss : List Span) (a n b v : ℕ) → byte_at ss a ≡ Some b → number_at ss (a + 1) n ≡ Some v → number_at ss a (suc n) ≡ Some (b + 256 * v)
number_at-front ss a n b v e f = rw (e, f) refl

pub number_at-none : (ss : List Span) (n k a : ℕ) → k < n → byte_at ss (a + k) ≡ None → number_at ss a n ≡ None
number_at-none ss zero k a h e = absurd (omega arith)
number_at-none ss (suc n) zero a h e = let same : a + 0 ≡ a = omega arith in let e' : byte_at ss a ≡ None = rw same at e in rw e' refl
number_at-none ss (suc n) (suc k) a h e =
    let same : a + suc k ≡ (a + 1) + k = omega arith in
    let e' : byte_at ss ((a + 1) + k) ≡ None = rw same at e in
    rw (number_at-none ss n k (a + 1) (omega arith) e') (no_number (byte_at ss a))
  where
    no_number : (o : Option ℕ) → option_and_then (λ b. option_map (λ v. b + 256 * v) None) o ≡ None
    no_number None = refl
    no_number (Some b) = refl

pub mul_bound : (v w k : ℕ) → v < 256 ^ k → w < 256 * (v + 1) → w < 256 ^ (k + 1)
mul_bound v w k h l = let e : 256 ^ (k + 1) ≡ 256 ^ k * 256 = grind (arith, common_steps) in omega arith

pub small_power : (k : ℕ) → k ≤ 7 → 256 ^ k ≤ 2 ^ 56
small_power k h = pow-le-pow_right (lit< tt) h

-- a turn of the loop that reads bytes from the last to the first
pub number_at-turn : (ss : List Span) (a n i b v : ℕ) → 0 < i → i ≤ n → byte_at ss (a + (i - 1)) ≡ Some b → number_at ss (a + i) (n - i) ≡ Some v → number_at ss (a + (i - 1)) (n - (i - 1)) ≡ Some (b + 256 * v)
number_at-turn ss a n i b v some le e f =
    let count : n - (i - 1) ≡ suc (n - i) = omega arith in
    let next : (a + (i - 1)) + 1 ≡ a + i = omega arith in
    let f' : number_at ss ((a + (i - 1)) + 1) (n - i) ≡ Some v = rw next f in
    rw count (number_at-front ss (a + (i - 1)) (n - i) b v e f')

pub bound-turn : (n i v w : ℕ) → 0 < i → i ≤ n → v < 256 ^ (n - i) → w < 256 * (v + 1) → w < 256 ^ (n - (i - 1))
bound-turn n i v w some le h l = let count : n - (i - 1) ≡ (n - i) + 1 = omega arith in rw count (mul_bound v w (n - i) h l)
