-- Where segments end in a file, one program header after another.
use Rattle.std.proofs.Common.{◌≡◌, ℕ, ◌+◌, ◌<◌, ◌≤◌, ◌^◌, Bool, true, false, cond, ltb, List, drop, max, slice_get, Some, None, refl, ap}
use Rattle.std.proofs.lemmas.Bool.{lt-ltb, le-ltb, ltb-true, ltb-false}
use Rattle.core_file.specs.declared.program_header.ProgramHeader.{ProgramHeader}
use Rattle.core_file.specs.Fronts.{end_of, last_end, fitting}
use Rattle.core_file.proofs.ListLemmas.{drop_at_get}

-- ---- numbers of 64 bits

pub fits_so : (n : ℕ) → n < 2 ^ 64 → fitting n ≡ Some n
fits_so n few = rw (lt-ltb n (2 ^ 64) few) refl

pub fits_not : (n : ℕ) → 2 ^ 64 ≤ n → fitting n ≡ None
fits_not n many = rw (le-ltb n (2 ^ 64) many) refl

pub fitted : (n m : ℕ) → Some m ≡ fitting n → (m ≡ n) × (n < 2 ^ 64)
fitted n m e = go (ltb n (2 ^ 64)) refl e
  where
    go : (b : Bool) → ltb n (2 ^ 64) ≡ b → Some m ≡ cond b (Some n) None → (m ≡ n) × (n < 2 ^ 64)
    go true is e = (cc, ltb-true n (2 ^ 64) is)
    go false is e = absurd cc

pub unfitted : (n : ℕ) → None ≡ fitting n → 2 ^ 64 ≤ n
unfitted n e = go (ltb n (2 ^ 64)) refl e
  where
    go : (b : Bool) → ltb n (2 ^ 64) ≡ b → None ≡ cond b (Some n) None → 2 ^ 64 ≤ n
    go true is e = absurd cc
    go false is e = ltb-false n (2 ^ 64) is

-- ---- the greatest end

pub last_step : (kind : ℕ) (hs : List ProgramHeader) (i : ℕ) (h : ProgramHeader) → slice_get hs i ≡ Some h → last_end kind (drop i hs) ≡ max (end_of kind h) (last_end kind (drop (i + 1) hs))
last_step kind hs i h at = ap (last_end kind) (drop_at_get hs i h at)
