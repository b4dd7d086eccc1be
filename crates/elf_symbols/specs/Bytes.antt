-- The laws of section headers and of symbols: equal ones have equal bytes.
use Rattle.std.proofs.Common.{◌≡◌, ℕ, ◌+◌, ◌≤◌, ◌<◌, List, ◌∷◌, length, drop, get_or, ap, sym, subst, ◌∙◌, lit≤, arith, refl}
use Rattle.std.proofs.lemmas.List.{drop_more}
use Rattle.memory_image.specs.Words.{AreBytes, same_from_u16_at, same_from_u32_at, same_from_u64_at, same_end}
use Rattle.elf_symbols.specs.declared.section.SectionHeader.{SectionHeader}
use Rattle.elf_symbols.specs.declared.symbol.Symbol.{Symbol}
use Rattle.elf_symbols.specs.Sections.{section_header_of}
use Rattle.elf_symbols.specs.Symbols.{symbol_of}

fits : (xs : List ℕ) (n k : ℕ) → length xs ≡ n → k ≤ n → k ≤ length xs
fits xs n k m le = subst (λ (l : ℕ). k ≤ l) (sym m) le

-- the same from a byte on
same_from_byte : (xs ys : List ℕ) (k : ℕ) → k + 1 ≤ length xs → k + 1 ≤ length ys → get_or xs k 0 ≡ get_or ys k 0 → drop (k + 1) xs ≡ drop (k + 1) ys → drop k xs ≡ drop k ys
same_from_byte xs ys k fits fits' same rest =
    let here : drop k xs ≡ get_or xs k 0 ∷ drop (k + 1) xs = drop_more xs k 0 (omega arith) in
    let there : drop k ys ≡ get_or ys k 0 ∷ drop (k + 1) ys = drop_more ys k 0 (omega arith) in
    here ∙ rw (same, rest) (sym there)

pub section_header_keeps_all : (xs ys : List ℕ) → length xs ≡ 64 → length ys ≡ 64 → AreBytes xs → AreBytes ys → section_header_of xs ≡ section_header_of ys → xs ≡ ys
section_header_keeps_all xs ys m n b c e =
    let same : length xs ≡ length ys = m ∙ sym n in
    let entsize : drop 56 xs ≡ drop 56 ys = same_from_u64_at xs ys 56 same (fits xs 64 64 m (lit≤ tt)) b c (ap (λ (h : SectionHeader). h.sh_entsize) e) (same_end 64 xs ys m n) in
    let align : drop 48 xs ≡ drop 48 ys = same_from_u64_at xs ys 48 same (fits xs 64 56 m (lit≤ tt)) b c (ap (λ (h : SectionHeader). h.sh_addralign) e) entsize in
    let info : drop 44 xs ≡ drop 44 ys = same_from_u32_at xs ys 44 same (fits xs 64 48 m (lit≤ tt)) b c (ap (λ (h : SectionHeader). h.sh_info) e) align in
    let link : drop 40 xs ≡ drop 40 ys = same_from_u32_at xs ys 40 same (fits xs 64 44 m (lit≤ tt)) b c (ap (λ (h : SectionHeader). h.sh_link) e) info in
    let size : drop 32 xs ≡ drop 32 ys = same_from_u64_at xs ys 32 same (fits xs 64 40 m (lit≤ tt)) b c (ap (λ (h : SectionHeader). h.sh_size) e) link in
    let offset : drop 24 xs ≡ drop 24 ys = same_from_u64_at xs ys 24 same (fits xs 64 32 m (lit≤ tt)) b c (ap (λ (h : SectionHeader). h.sh_offset) e) size in
    let addr : drop 16 xs ≡ drop 16 ys = same_from_u64_at xs ys 16 same (fits xs 64 24 m (lit≤ tt)) b c (ap (λ (h : SectionHeader). h.sh_addr) e) offset in
    let flags : drop 8 xs ≡ drop 8 ys = same_from_u64_at xs ys 8 same (fits xs 64 16 m (lit≤ tt)) b c (ap (λ (h : SectionHeader). h.sh_flags) e) addr in
    let kind : drop 4 xs ≡ drop 4 ys = same_from_u32_at xs ys 4 same (fits xs 64 8 m (lit≤ tt)) b c (ap (λ (h : SectionHeader). h.sh_type) e) flags in
    same_from_u32_at xs ys 0 same (fits xs 64 4 m (lit≤ tt)) b c (ap (λ (h : SectionHeader). h.sh_name) e) kind

pub symbol_keeps_all : (xs ys : List ℕ) → length xs ≡ 24 → length ys ≡ 24 → AreBytes xs → AreBytes ys → symbol_of xs ≡ symbol_of ys → xs ≡ ys
symbol_keeps_all xs ys m n b c e =
    let same : length xs ≡ length ys = m ∙ sym n in
    let size : drop 16 xs ≡ drop 16 ys = same_from_u64_at xs ys 16 same (fits xs 24 24 m (lit≤ tt)) b c (ap (λ (s : Symbol). s.st_size) e) (same_end 24 xs ys m n) in
    let value : drop 8 xs ≡ drop 8 ys = same_from_u64_at xs ys 8 same (fits xs 24 16 m (lit≤ tt)) b c (ap (λ (s : Symbol). s.st_value) e) size in
    let shndx : drop 6 xs ≡ drop 6 ys = same_from_u16_at xs ys 6 same (fits xs 24 8 m (lit≤ tt)) b c (ap (λ (s : Symbol). s.st_shndx) e) value in
    let other : drop 5 xs ≡ drop 5 ys = same_from_byte xs ys 5 (fits xs 24 6 m (lit≤ tt)) (fits ys 24 6 n (lit≤ tt)) (ap (λ (s : Symbol). s.st_other) e) shndx in
    let info : drop 4 xs ≡ drop 4 ys = same_from_byte xs ys 4 (fits xs 24 5 m (lit≤ tt)) (fits ys 24 5 n (lit≤ tt)) (ap (λ (s : Symbol). s.st_info) e) other in
    same_from_u32_at xs ys 0 same (fits xs 24 4 m (lit≤ tt)) b c (ap (λ (s : Symbol). s.st_name) e) info
