-- Parts of lists, and what stays of a list to which more is added.
use Rattle.std.proofs.Common.{◌≡◌, ℕ, ◌-◌, ◌≤◌, List, [], ◌++◌, length, take, drop, sym, ap, ◌∙◌, arith, append_assoc, length-append, length-drop}
use Rattle.std.specs.Prelude.{slice_range}
use Rattle.std.proofs.lemmas.List.{take-append-le, drop-append-le, append-nil, length-take-le}
use Rattle.std.proofs.Math.Seq.{drop-append_seam, take-length}
use Rattle.frame_rows.specs.KeptRows.{Kept, IsLonger}

pub length-part : {X : Type 0} (xs : List X) (a b : ℕ) → a ≤ b → b ≤ length xs → length (slice_range xs a b) ≡ b - a
length-part xs a b le within = let n = length-drop a xs in length-take-le (b - a) (drop a xs) (omega arith)

pub part_stays : {X : Type 0} (xs ys : List X) (a b : ℕ) → a ≤ b → b ≤ length xs → slice_range (xs ++ ys) a b ≡ slice_range xs a b
part_stays xs ys a b le within =
    let n = length-drop a xs in
    ap (take (b - a)) (drop-append-le a xs ys (omega arith)) ∙ take-append-le (b - a) (drop a xs) ys (omega arith)

pub part_added : {X : Type 0} (xs ys : List X) → slice_range (xs ++ ys) (length xs) (length (xs ++ ys)) ≡ ys
part_added xs ys =
    let n = length-append xs ys in
    let m : length (xs ++ ys) - length xs ≡ length ys = omega arith in
    ap (take (length (xs ++ ys) - length xs)) (drop-append_seam xs ys) ∙ ap (λ n. take n ys) m ∙ take-length ys

pub longer_still : (a b c : List Kept) → IsLonger a b → IsLonger b c → IsLonger a c
longer_still a b c first second = record {
  more = first.more ++ second.more;
  grown = second.grown ∙ ap (λ l. l ++ second.more) first.grown ∙ append_assoc a first.more second.more;
}

pub as_long : (a : List Kept) → IsLonger a a
as_long a = record { more = []; grown = sym (append-nil a) }
