-- The law of the words of parts: equal ones have equal bytes.
use Rattle.std.proofs.Common.{◌≡◌, ℕ, ◌≤◌, List, length, drop, ap, sym, subst, ◌∙◌, lit≤}
use Rattle.memory_image.specs.Words.{AreBytes, same_from_u64_at, same_end}
use Rattle.core_file.specs.declared.mapped.PartEntry.{PartEntry}
use Rattle.core_file.specs.MappedParts.{part_entry_of}

fits : (xs : List ℕ) (k : ℕ) → length xs ≡ 24 → k ≤ 24 → k ≤ length xs
fits xs k m le = subst (λ (l : ℕ). k ≤ l) (sym m) le

pub part_entry_keeps_all : (xs ys : List ℕ) → length xs ≡ 24 → length ys ≡ 24 → AreBytes xs → AreBytes ys → part_entry_of xs ≡ part_entry_of ys → xs ≡ ys
part_entry_keeps_all xs ys m n b c e =
    let same : length xs ≡ length ys = m ∙ sym n in
    let pages : drop 16 xs ≡ drop 16 ys = same_from_u64_at xs ys 16 same (fits xs 24 m (lit≤ tt)) b c (ap (λ (p : PartEntry). p.pages) e) (same_end 24 xs ys m n) in
    let stop : drop 8 xs ≡ drop 8 ys = same_from_u64_at xs ys 8 same (fits xs 16 m (lit≤ tt)) b c (ap (λ (p : PartEntry). p.end) e) pages in
    same_from_u64_at xs ys 0 same (fits xs 8 m (lit≤ tt)) b c (ap (λ (p : PartEntry). p.start) e) stop
