-- A search that halves: what is known between two steps, and how many steps there are.
use Rattle.std.proofs.Common.{◌≡◌, ℕ, zero, suc, ◌+◌, ◌-◌, ◌*◌, ◌/◌, ◌^◌, ◌<◌, ◌≤◌, Option, Some, None, Ok, Err, refl, ap, ◌∙◌, arith}
use Rattle.std.proofs.Math.Nat.{pow-succ'}
use Rattle.unwind_definitions.specs.Header.{PairTable, pair_at}
use Rattle.memory_image.specs.Halving.{place_before}
use Rattle.unwind_definitions.specs.declared.error.Error.{Error as Fault}
use Rattle.unwind_definitions.specs.HeaderSearch.{pair_of_place, boundary_in, SearchTakes}
use Rattle.unwind_definitions.specs.HeaderSearchLaws.{GoesOn, goes_up, goes_down, faults, answers}

-- ---- what is known

-- The pair just below the place from low to high at which halving ends is the one that was found, or there is none below;
-- and the halving from low to high comes to what the whole one does.
pub record IsBetween (t : PairTable) (pc low high : ℕ) (found : Option (ℕ × ℕ)) : Type 0 where
  pub within : high ≤ t.count
  pub below : pair_of_place t (place_before low) ≡ Ok found
  pub goes_on : GoesOn t pc low high

pub begun : (t : PairTable) (pc : ℕ) → IsBetween t pc 0 t.count None
begun t pc = record { within = omega arith; below = refl; goes_on = refl }

pub raised : (t : PairTable) (pc low high : ℕ) (found : Option (ℕ × ℕ)) (p : ℕ × ℕ) → IsBetween t pc low high found → low < high → pair_at t (low + (high - low) / 2) ≡ Ok p → p.0 ≤ pc →
    IsBetween t pc (low + (high - low) / 2 + 1) high (Some p)
raised t pc low high found p s lt at le =
    let one : low + (high - low) / 2 + 1 ≡ suc (low + (high - low) / 2) = omega arith in
    let here : pair_of_place t (Some (low + (high - low) / 2)) ≡ Ok (Some p) = rw at refl in
    record { within = s.within; below = ap (λ (n : ℕ). pair_of_place t (place_before n)) one ∙ here; goes_on = goes_up t pc low high p lt s.within at le s.goes_on }

pub lowered : (t : PairTable) (pc low high : ℕ) (found : Option (ℕ × ℕ)) (p : ℕ × ℕ) → IsBetween t pc low high found → low < high → pair_at t (low + (high - low) / 2) ≡ Ok p → pc < p.0 →
    IsBetween t pc low (low + (high - low) / 2) found
lowered t pc low high found p s lt at above = let w = s.within in record { within = omega arith; below = s.below; goes_on = goes_down t pc low high p lt s.within at above s.goes_on }

pub faulted : (t : PairTable) (pc low high : ℕ) (found : Option (ℕ × ℕ)) (e : Fault) → IsBetween t pc low high found → low < high → pair_at t (low + (high - low) / 2) ≡ Err e → boundary_in t pc ≡ Err e
faulted t pc low high found e s lt at = faults t pc low high e lt s.within at s.goes_on

pub ended : (t : PairTable) (pc low high : ℕ) (found : Option (ℕ × ℕ)) → IsBetween t pc low high found → high ≤ low → boundary_in t pc ≡ Ok found
ended t pc low high found s le = answers t pc low high found le s.goes_on s.below

-- ---- how many steps

-- a number of digits is as large as the steps that were taken and those digits by which what is left can be spelled
pub record IsLeft (digits taken size : ℕ) : Type 0 where
  pub left : ℕ
  pub both : digits ≡ taken + left
  pub below : size < 2 ^ left

pub record IsHalved (count before now size : ℕ) : Type 0 where
  pub taken : ℕ
  pub counted : now ≡ before + taken
  pub digits : (digits : ℕ) → count < 2 ^ digits → IsLeft digits taken size

pub whole : (count n : ℕ) → IsHalved count n n count
whole count n = record { taken = 0; counted = omega arith; digits = λ d lt. record { left = d; both = omega arith; below = lt } }

half : (size new left : ℕ) → 0 < size → new ≤ size / 2 → size < 2 ^ left → (l : ℕ) × (left ≡ suc l) × (new < 2 ^ l)
half size new zero some le lt = absurd (omega arith)
half size new (suc l) some le lt = let double : 2 ^ suc l ≡ 2 * 2 ^ l = pow-succ' 2 l in (l, refl, omega arith)

pub halved : (count before now next size new : ℕ) → next ≡ now + 1 → IsHalved count before now size → 0 < size → new ≤ size / 2 → IsHalved count before next new
halved count before now next size new step h some le =
    let c = h.counted in
    record { taken = h.taken + 1; counted = omega arith; digits = λ d lt. fewer d (h.digits d lt) }
  where
    fewer : (d : ℕ) → IsLeft d h.taken size → IsLeft d (h.taken + 1) new
    fewer d k = let l = half size new k.left some le k.below in let more = l.1 in let both = k.both in record { left = l.0; both = omega arith; below = l.2 }

-- so many are left, and one was taken unless some are left
pub record AreLeft (count before now size : ℕ) : Type 0 where
  pub halved : IsHalved count before now size
  pub some : 0 < count → size ≡ 0 → before < now

pub all_left : (count now : ℕ) → AreLeft count now now count
all_left count now = record { halved = whole count now; some = λ listed none. absurd (omega arith) }

pub one_look : (count before now next size new : ℕ) → next ≡ now + 1 → AreLeft count before now size → 0 < size → new ≤ size / 2 → AreLeft count before next new
one_look count before now next size new step left some le =
    let counted = left.halved.counted in
    record { halved = halved count before now next size new step left.halved some le; some = λ listed none. omega arith }

-- none is left
pub counts : (count before now size : ℕ) → size ≡ 0 → AreLeft count before now size → (taken : ℕ) × (now ≡ before + taken) × SearchTakes count taken
counts count before now size none left =
    let h = left.halved in (
      h.taken,
      h.counted,
      record { some = λ listed. let more = left.some listed none in let counted = h.counted in omega arith; digits = λ d lt. few d (h.digits d lt) },
    )
  where
    few : (d : ℕ) → IsLeft d left.halved.taken size → left.halved.taken ≤ d
    few d k = let both = k.both in omega arith
