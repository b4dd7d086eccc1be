-- A line that is put together in one place.
use Rattle.std.proofs.Common.{◌≡◌, ℕ, ◌+◌, ◌≤◌, List, ◌++◌, ◌∙◌, ap, sym, length, take, drop, append_assoc}
use Rattle.std.proofs.Math.Seq.{take-append-add}
use Rattle.std.proofs.lemmas.List.{take-append-le, length-take-le}

-- The head of some bytes that were written where the text ends.
pub head_put : (room new bytes : List ℕ) (end count : ℕ) → end ≤ length room → count ≤ length bytes →
    new ≡ take end room ++ bytes ++ drop (end + length bytes) room → take (end + count) new ≡ take end room ++ take count bytes
head_put room new bytes end count inside few written =
    let size : length (take end room) ≡ end = length-take-le end room inside in
    let tail = drop (end + length bytes) room in
    let start : take (length (take end room) + count) (take end room ++ (bytes ++ tail)) ≡ take end room ++ take count (bytes ++ tail) = take-append-add (take end room) (bytes ++ tail) count in
    rw (written, append_assoc (take end room) bytes tail)
    (ap (λ n. take (n + count) (take end room ++ (bytes ++ tail))) (sym size) ∙ start ∙ ap (λ head. take end room ++ head) (take-append-le count bytes tail few))

-- a mark and digits that were put one after the other
pub number_put : (text one two mark head whole : List ℕ) → one ≡ text ++ mark → two ≡ one ++ head → head ≡ whole →
    two ≡ text ++ (mark ++ whole)
number_put text one two mark head whole first second same = rw (second, first, same) (append_assoc text mark whole)

-- a label and a number that were put one after the other
pub field_put : (text one two label number : List ℕ) → one ≡ text ++ label → two ≡ one ++ number → two ≡ text ++ label ++ number
field_put text one two label number first second = second ∙ ap (λ t. t ++ number) first
