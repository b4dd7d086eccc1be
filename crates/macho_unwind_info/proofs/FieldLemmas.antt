-- A field of a record lies in the record's bytes.
use Rattle.std.proofs.Common.{◌≡◌, ℕ, ◌+◌, ◌-◌, ◌≤◌, List, take, drop, sym, ap, ◌∙◌, arith}
use Rattle.std.proofs.lemmas.List.{drop-take, take-take}
use Rattle.macho_unwind_info.specs.Unaligned.{u32_at, u32_in}

pub u32_at-take : (size k : ℕ) (xs : List ℕ) → k + 4 ≤ size → u32_at k (take size xs) ≡ u32_at k xs
u32_at-take size k xs h =
    let whole : k + (size - k) ≡ size = omega arith in
    let cut : drop k (take size xs) ≡ take (size - k) (drop k xs) = ap (λ (n : ℕ). drop k (take n xs)) (sym whole) ∙ drop-take k (size - k) xs in
    ap u32_in (ap (take 4) cut ∙ take-take 4 (size - k) (drop k xs) (omega arith))
