-- The law of program headers: equal ones have equal bytes.
use Rattle.std.proofs.Common.{◌≡◌, ℕ, ◌≤◌, List, length, drop, ap, sym, subst, ◌∙◌, lit≤}
use Rattle.memory_image.specs.Words.{AreBytes, same_from_u32_at, same_from_u64_at, same_end}
use Rattle.core_file.specs.declared.program_header.ProgramHeader.{ProgramHeader}
use Rattle.core_file.specs.ProgramHeaders.{program_header_of}

fits : (xs : List ℕ) (k : ℕ) → length xs ≡ 56 → k ≤ 56 → k ≤ length xs
fits xs k m le = subst (λ (l : ℕ). k ≤ l) (sym m) le

pub program_header_keeps_all : (xs ys : List ℕ) → length xs ≡ 56 → length ys ≡ 56 → AreBytes xs → AreBytes ys → program_header_of xs ≡ program_header_of ys → xs ≡ ys
program_header_keeps_all xs ys m n b c e =
    let same : length xs ≡ length ys = m ∙ sym n in
    let align : drop 48 xs ≡ drop 48 ys = same_from_u64_at xs ys 48 same (fits xs 56 m (lit≤ tt)) b c (ap (λ (h : ProgramHeader). h.p_align) e) (same_end 56 xs ys m n) in
    let memsz : drop 40 xs ≡ drop 40 ys = same_from_u64_at xs ys 40 same (fits xs 48 m (lit≤ tt)) b c (ap (λ (h : ProgramHeader). h.p_memsz) e) align in
    let filesz : drop 32 xs ≡ drop 32 ys = same_from_u64_at xs ys 32 same (fits xs 40 m (lit≤ tt)) b c (ap (λ (h : ProgramHeader). h.p_filesz) e) memsz in
    let paddr : drop 24 xs ≡ drop 24 ys = same_from_u64_at xs ys 24 same (fits xs 32 m (lit≤ tt)) b c (ap (λ (h : ProgramHeader). h.p_paddr) e) filesz in
    let vaddr : drop 16 xs ≡ drop 16 ys = same_from_u64_at xs ys 16 same (fits xs 24 m (lit≤ tt)) b c (ap (λ (h : ProgramHeader). h.p_vaddr) e) paddr in
    let offset : drop 8 xs ≡ drop 8 ys = same_from_u64_at xs ys 8 same (fits xs 16 m (lit≤ tt)) b c (ap (λ (h : ProgramHeader). h.p_offset) e) vaddr in
    let flags : drop 4 xs ≡ drop 4 ys = same_from_u32_at xs ys 4 same (fits xs 8 m (lit≤ tt)) b c (ap (λ (h : ProgramHeader). h.p_flags) e) offset in
    same_from_u32_at xs ys 0 same (fits xs 4 m (lit≤ tt)) b c (ap (λ (h : ProgramHeader). h.p_type) e) flags
