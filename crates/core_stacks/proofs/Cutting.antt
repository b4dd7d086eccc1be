-- A core is read up to one byte past the most that are read as one.
use Rattle.std.proofs.Common.{◌≡◌, ℕ, ◌+◌, ◌≤◌, Bool, true, false, ltb, List, length, take, refl, ap, arith}
use Rattle.std.proofs.lemmas.Bool.{ltb-false, ltb-true, lt-ltb}
use Rattle.std.proofs.lemmas.List.{take_all}
use Rattle.std.proofs.Math.Seq.{length-take-le}
use Rattle.core_stacks.specs.Due.{bytes_due, most_bytes}

-- so what is due for these bytes is due for the file
pub cut_due : (names : Bool) (files : List ℕ → List ℕ) (whole : List ℕ) → bytes_due names files (take (most_bytes + 1) whole) ≡ bytes_due names files whole
cut_due names files whole = go (ltb most_bytes (length whole)) refl
  where
    go : (long : Bool) → ltb most_bytes (length whole) ≡ long → bytes_due names files (take (most_bytes + 1) whole) ≡ bytes_due names files whole
    go true is =
        let fits : most_bytes + 1 ≤ length whole = (let lt = ltb-true most_bytes (length whole) is in omega arith) in
        let size : length (take (most_bytes + 1) whole) ≡ most_bytes + 1 = length-take-le (most_bytes + 1) whole fits in
        let past : ltb most_bytes (length (take (most_bytes + 1) whole)) ≡ true = lt-ltb most_bytes (length (take (most_bytes + 1) whole)) (omega arith) in
        rw (past, is) refl
    go false is =
        let fits : length whole ≤ most_bytes + 1 = (let le = ltb-false most_bytes (length whole) is in omega arith) in
        ap (bytes_due names files) (take_all (most_bytes + 1) whole fits)
