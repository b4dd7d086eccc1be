-- The laws of program headers and of dynamic entries: equal ones have equal bytes.
use Rattle.std.proofs.Common.{◌≡◌, ℕ, ◌≤◌, List, length, drop, ap, sym, subst, ◌∙◌, lit≤}
use Rattle.memory_image.specs.Words.{AreBytes, same_from_u32_at, same_from_u64_at, same_end}
use Rattle.fde_finders.specs.declared.phdr.Phdr.{Phdr}
use Rattle.fde_finders.specs.declared.phdr.DynamicEntry.{DynamicEntry}
use Rattle.fde_finders.specs.ProgramHeaders.{phdr_of, dynamic_entry_of}

fits : (xs : List ℕ) (n k : ℕ) → length xs ≡ n → k ≤ n → k ≤ length xs
fits xs n k m le = subst (λ (l : ℕ). k ≤ l) (sym m) le

pub phdr_keeps_all : (xs ys : List ℕ) → length xs ≡ 56 → length ys ≡ 56 → AreBytes xs → AreBytes ys → phdr_of xs ≡ phdr_of ys → xs ≡ ys
phdr_keeps_all xs ys m n b c e =
    let same : length xs ≡ length ys = m ∙ sym n in
    let align : drop 48 xs ≡ drop 48 ys = same_from_u64_at xs ys 48 same (fits xs 56 56 m (lit≤ tt)) b c (ap (λ (h : Phdr). h.p_align) e) (same_end 56 xs ys m n) in
    let memsz : drop 40 xs ≡ drop 40 ys = same_from_u64_at xs ys 40 same (fits xs 56 48 m (lit≤ tt)) b c (ap (λ (h : Phdr). h.p_memsz) e) align in
    let filesz : drop 32 xs ≡ drop 32 ys = same_from_u64_at xs ys 32 same (fits xs 56 40 m (lit≤ tt)) b c (ap (λ (h : Phdr). h.p_filesz) e) memsz in
    let paddr : drop 24 xs ≡ drop 24 ys = same_from_u64_at xs ys 24 same (fits xs 56 32 m (lit≤ tt)) b c (ap (λ (h : Phdr). h.p_paddr) e) filesz in
    let vaddr : drop 16 xs ≡ drop 16 ys = same_from_u64_at xs ys 16 same (fits xs 56 24 m (lit≤ tt)) b c (ap (λ (h : Phdr). h.p_vaddr) e) paddr in
    let offset : drop 8 xs ≡ drop 8 ys = same_from_u64_at xs ys 8 same (fits xs 56 16 m (lit≤ tt)) b c (ap (λ (h : Phdr). h.p_offset) e) vaddr in
    let flags : drop 4 xs ≡ drop 4 ys = same_from_u32_at xs ys 4 same (fits xs 56 8 m (lit≤ tt)) b c (ap (λ (h : Phdr). h.p_flags) e) offset in
    same_from_u32_at xs ys 0 same (fits xs 56 4 m (lit≤ tt)) b c (ap (λ (h : Phdr). h.p_type) e) flags

pub dynamic_entry_keeps_all : (xs ys : List ℕ) → length xs ≡ 16 → length ys ≡ 16 → AreBytes xs → AreBytes ys → dynamic_entry_of xs ≡ dynamic_entry_of ys → xs ≡ ys
dynamic_entry_keeps_all xs ys m n b c e =
    let same : length xs ≡ length ys = m ∙ sym n in
    let value : drop 8 xs ≡ drop 8 ys = same_from_u64_at xs ys 8 same (fits xs 16 16 m (lit≤ tt)) b c (ap (λ (d : DynamicEntry). d.value) e) (same_end 16 xs ys m n) in
    same_from_u64_at xs ys 0 same (fits xs 16 8 m (lit≤ tt)) b c (ap (λ (d : DynamicEntry). d.tag) e) value
