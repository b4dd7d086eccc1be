-- The law of the function table's records: equal records have equal bytes.
use Rattle.std.proofs.Common.{◌≡◌, ℕ, zero, suc, ◌+◌, ◌*◌, ◌<◌, ◌^◌, List, [], ◌∷◌, length, arith, ap, get_or}
use Rattle.std.proofs.lemmas.List.{ext_get_or}
use Rattle.memory_image.specs.Words.{AreBytes}
use Rattle.pe_unwind_info.specs.Numbers.{u32_at}
use Rattle.pe_unwind_info.specs.FunctionTable.{runtime_function_of}
use Rattle.pe_unwind_info.specs.declared.x86_64.function_table.RuntimeFunction.{RuntimeFunction}

byte_below : (xs : List ℕ) (i : ℕ) → i < length xs → AreBytes xs → get_or xs i 0 < 256
byte_below [] i lt b = absurd (omega arith)
byte_below (x ∷ xs) zero lt b = b.0
byte_below (x ∷ xs) (suc i) lt b = byte_below xs i (omega arith) b.1

-- what numbers of four digits share, digit by digit
record SameDigits (a0 a1 a2 a3 b0 b1 b2 b3 : ℕ) : Type 0 where
  first : a0 ≡ b0
  second : a1 ≡ b1
  third : a2 ≡ b2
  fourth : a3 ≡ b3

same_digits : (a0 a1 a2 a3 b0 b1 b2 b3 : ℕ) → a0 < 256 → a1 < 256 → a2 < 256 → a3 < 256 → b0 < 256 → b1 < 256 → b2 < 256 → b3 < 256 →
    a0 + 2 ^ 8 * a1 + 2 ^ 16 * a2 + 2 ^ 24 * a3 ≡ b0 + 2 ^ 8 * b1 + 2 ^ 16 * b2 + 2 ^ 24 * b3 → SameDigits a0 a1 a2 a3 b0 b1 b2 b3
same_digits a0 a1 a2 a3 b0 b1 b2 b3 p q r s t u v w e =
    record { first = omega arith; second = omega arith; third = omega arith; fourth = omega arith }

same_at : (k : ℕ) (xs ys : List ℕ) → k + 3 < length xs → length xs ≡ length ys → AreBytes xs → AreBytes ys → u32_at k xs ≡ u32_at k ys →
    SameDigits (get_or xs k 0) (get_or xs (k + 1) 0) (get_or xs (k + 2) 0) (get_or xs (k + 3) 0) (get_or ys k 0) (get_or ys (k + 1) 0) (get_or ys (k + 2) 0) (get_or ys (k + 3) 0)
same_at k xs ys fits same b c e =
    same_digits _ _ _ _ _ _ _ _
    (byte_below xs k (omega arith) b) (byte_below xs (k + 1) (omega arith) b) (byte_below xs (k + 2) (omega arith) b) (byte_below xs (k + 3) (omega arith) b)
    (byte_below ys k (omega arith) c) (byte_below ys (k + 1) (omega arith) c) (byte_below ys (k + 2) (omega arith) c) (byte_below ys (k + 3) (omega arith) c) e

each_of_twelve : (P : ℕ → Type 0) → P 0 → P 1 → P 2 → P 3 → P 4 → P 5 → P 6 → P 7 → P 8 → P 9 → P 10 → P 11 → (i : ℕ) → i < 12 → P i
each_of_twelve P a b c d e f g h j k l m zero lt = a
each_of_twelve P a b c d e f g h j k l m (suc zero) lt = b
each_of_twelve P a b c d e f g h j k l m (suc (suc zero)) lt = c
each_of_twelve P a b c d e f g h j k l m (suc (suc (suc zero))) lt = d
each_of_twelve P a b c d e f g h j k l m (suc (suc (suc (suc zero)))) lt = e
each_of_twelve P a b c d e f g h j k l m (suc (suc (suc (suc (suc zero))))) lt = f
each_of_twelve P a b c d e f g h j k l m (suc (suc (suc (suc (suc (suc zero)))))) lt = g
each_of_twelve P a b c d e f g h j k l m (suc (suc (suc (suc (suc (suc (suc zero))))))) lt = h
each_of_twelve P a b c d e f g h j k l m (suc (suc (suc (suc (suc (suc (suc (suc zero)))))))) lt = j
each_of_twelve P a b c d e f g h j k l m (suc (suc (suc (suc (suc (suc (suc (suc (suc zero))))))))) lt = k
each_of_twelve P a b c d e f g h j k l m (suc (suc (suc (suc (suc (suc (suc (suc (suc (suc zero)))))))))) lt = l
each_of_twelve P a b c d e f g h j k l m (suc (suc (suc (suc (suc (suc (suc (suc (suc (suc (suc zero))))))))))) lt = m
each_of_twelve P a b c d e f g h j k l m (suc (suc (suc (suc (suc (suc (suc (suc (suc (suc (suc (suc i)))))))))))) lt = absurd (omega arith)

pub runtime_function_keeps_all : (xs ys : List ℕ) → length xs ≡ 12 → length ys ≡ 12 → AreBytes xs → AreBytes ys → runtime_function_of xs ≡ runtime_function_of ys → xs ≡ ys
runtime_function_keeps_all xs ys m n b c e =
    let same : length xs ≡ length ys = omega arith in
    let p = same_at 0 xs ys (omega arith) same b c (ap (λ (f : RuntimeFunction). f.begin_address) e) in
    let q = same_at 4 xs ys (omega arith) same b c (ap (λ (f : RuntimeFunction). f.end_address) e) in
    let r = same_at 8 xs ys (omega arith) same b c (ap (λ (f : RuntimeFunction). f.unwind_info_address) e) in
    let P : ℕ → Type 0 = λ i. get_or xs i 0 ≡ get_or ys i 0 in
    ext_get_or 0 xs ys same (λ i lt. each_of_twelve P p.first p.second p.third p.fourth q.first q.second q.third q.fourth r.first r.second r.third r.fourth i (omega arith))
