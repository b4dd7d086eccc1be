-- The language table of a function: why it can't be read, and which it is on described parts of the list.
use Rattle.std.proofs.Common.{◌≡◌, ℕ, zero, suc, ◌+◌, ◌-◌, ◌*◌, ◌/◌, ◌%◌, ◌<◌, ◌≤◌, Bool, true, false, cond, leb, eqb, List, [], ◌∷◌, length, map, Option, Some, None, Result, Ok, Err, get_or, refl, arith, ap, sym, subst, ◌∙◌, inl, inr}
use Rattle.std.specs.Prelude.{slice_get, IsErr, IfErr, IsTrue, ◌&&◌}
use Rattle.std.proofs.lemmas.Bool.{eqb-true, leb-true, leb-false, lt-ltb, le-ltb, le-leb, lt-leb}
use Rattle.memory_image.specs.Halving.{boundary_of}
use Rattle.memory_image.specs.Results.{◌>>=◌}
use Rattle.macho_unwind_info.specs.Unaligned.{u32_number}
use Rattle.macho_unwind_info.specs.Bits.{bits}
use Rattle.macho_unwind_info.specs.Parts.{lsda_entries_between, lsda_entries_of}
use Rattle.macho_unwind_info.specs.Listing.{Section, part}
use Rattle.macho_unwind_info.specs.Lookup.{first_address, page_addresses, IsBoundary, Finds}
use Rattle.macho_unwind_info.specs.LanguageTables.{has_language_table, function_address, offset_at, offset_among, table_from, table_by, table_at, IsNoPart, LacksPart, AscendByAddress, ArePartsDescribed, HasDescribedTables, listed_among, listed_in, listed_table}
use Rattle.macho_unwind_info.specs.declared.error.Error.{Error}
use Rattle.macho_unwind_info.specs.declared.error.Error.TheVariants as errors
use Rattle.macho_unwind_info.specs.declared.error.ReadError.{ReadError}
use Rattle.macho_unwind_info.specs.declared.error.ReadError.TheVariants as parts
use Rattle.macho_unwind_info.specs.declared.raw.format.PageEntry.{PageEntry}
use Rattle.macho_unwind_info.specs.declared.raw.format.LsdaEntry.{LsdaEntry}
use Rattle.macho_unwind_info.proofs.LookupLemmas.{boundary_finds}

-- ---- a page's part
abbrev IsRead : List ℕ → ℕ → ℕ → Result (List LsdaEntry) ReadError → Type 0
IsRead bytes start end (Ok entries) = IsNoPart bytes start end → ⊥
IsRead bytes start end (Err e) = (e ≡ parts.Lsda) × IsNoPart bytes start end

is_part : (bytes : List ℕ) (start end : ℕ) → start ≤ end → (end - start) % 8 ≡ 0 → end ≤ length bytes → IsNoPart bytes start end → ⊥
is_part bytes start end le whole fits (inl h) = absurd (omega arith)
is_part bytes start end le whole fits (inr (inl h)) = absurd (omega arith)
is_part bytes start end le whole fits (inr (inr h)) = absurd (omega arith)

part_is : (bytes : List ℕ) (start end : ℕ) → IsRead bytes start end (lsda_entries_between bytes start end)
part_is bytes start end = go (leb start end) refl (eqb ((end - start) % 8) 0) refl (leb (start + (end - start) / 8 * 8) (length bytes)) refl
  where
    go : (a : Bool) → leb start end ≡ a → (b : Bool) → eqb ((end - start) % 8) 0 ≡ b → (c : Bool) → leb (start + (end - start) / 8 * 8) (length bytes) ≡ c → IsRead bytes start end (lsda_entries_between bytes start end)
    go false e b f c g = let h = leb-false start end e in rw e (refl, inl h)
    go true e false f c g = rw (e, f) (refl, inr (inl (positive ((end - start) % 8) f)))
      where
        positive : (n : ℕ) → eqb n 0 ≡ false → 0 < n
        positive zero f = absurd cc
        positive (suc n) f = omega arith
    go true e true f true g =
        let le = leb-true start end e in
        let whole = eqb-true ((end - start) % 8) 0 f in
        let fits = leb-true (start + (end - start) / 8 * 8) (length bytes) g in
        rw (e, f, g) (is_part bytes start end le whole (omega arith))
    go true e true f false g =
        let le = leb-true start end e in
        let whole = eqb-true ((end - start) % 8) 0 f in
        let fits = leb-false (start + (end - start) / 8 * 8) (length bytes) g in
        rw (e, f, g) (refl, inr (inr (omega arith)))

entries_are : (bytes : List ℕ) (page next : PageEntry) (r : Result (List LsdaEntry) ReadError) → lsda_entries_of page next bytes ≡ r → IsRead bytes (u32_number page.lsda_index_offset) (u32_number next.lsda_index_offset) r
entries_are bytes page next r e = subst (IsRead bytes (u32_number page.lsda_index_offset) (u32_number next.lsda_index_offset)) e (part_is bytes (u32_number page.lsda_index_offset) (u32_number next.lsda_index_offset))

-- ---- why a table can't be read
pub lacks_part : (info : Section) (start : ℕ) → IsErr (table_at info start) → LacksPart info start
unfolding table_at
lacks_part info start err = go (boundary_of (page_addresses info) start) refl err
  where
    read : (i : ℕ) → boundary_of (page_addresses info) start ≡ Some i → (page : PageEntry) → slice_get info.pages i ≡ Some page → (next : PageEntry) → slice_get info.pages (i + 1) ≡ Some next →
        (r : Result (List LsdaEntry) ReadError) → lsda_entries_of page next info.bytes ≡ r → IsErr (part r >>= (λ entries. Ok (offset_among entries start))) → LacksPart info start
    read i e page at next after (Ok entries) f err = absurd cc
    read i e page at next after (Err x) f err =
        record { place = i; searched = e; page = page; is = at; next = next; after = after; lacks = (entries_are info.bytes page next (Err x) f).1 }

    pages : (i : ℕ) → boundary_of (page_addresses info) start ≡ Some i → (page : Option PageEntry) → slice_get info.pages i ≡ page → (next : Option PageEntry) → slice_get info.pages (i + 1) ≡ next → IsErr (table_from info.bytes start page next) → LacksPart info start
    pages i e None at next after err = absurd cc
    pages i e (Some page) at None after err = absurd cc
    pages i e (Some page) at (Some next) after err = read i e page at next after (lsda_entries_of page next info.bytes) refl err

    go : (place : Option ℕ) → boundary_of (page_addresses info) start ≡ place → IsErr (table_by info.bytes info.pages start place) → LacksPart info start
    go None e err = absurd cc
    go (Some i) e err = pages i e (slice_get info.pages i) refl (slice_get info.pages (i + 1)) refl err

pub part_lacks : (info : Section) (start : ℕ) → LacksPart info start → table_at info start ≡ Err (errors.ReadError parts.Lsda)
unfolding table_at
part_lacks info start lacks = rw (lacks.searched, lacks.is, lacks.after) (read (lsda_entries_of lacks.page lacks.next info.bytes) refl)
  where
    read : (r : Result (List LsdaEntry) ReadError) → lsda_entries_of lacks.page lacks.next info.bytes ≡ r → table_from info.bytes start (Some lacks.page) (Some lacks.next) ≡ Err (errors.ReadError parts.Lsda)
    read (Ok entries) f = absurd (entries_are info.bytes lacks.page lacks.next (Ok entries) f lacks.lacks)
    read (Err x) f = rw (f, (entries_are info.bytes lacks.page lacks.next (Err x) f).0) refl

pub one_error : (info : Section) (start : ℕ) → IfErr (table_at info start) (λ e. e ≡ errors.ReadError parts.Lsda)
one_error info start = go (table_at info start) refl
  where
    go : (r : Result (Option ℕ) Error) → table_at info start ≡ r → IfErr r (λ e. e ≡ errors.ReadError parts.Lsda)
    go (Ok x) e = tt
    go (Err x) e =
        let same : ◌≡◌ {A = Result (Option ℕ) Error} (Err x) (Err (errors.ReadError parts.Lsda)) = sym e ∙ part_lacks info start (lacks_part info start (rw e refl)) in
        cc

-- ---- searches in keys that ascend
abbrev Rises : List ℕ → Type 0
Rises [] = Unit {0}
Rises (k ∷ []) = Unit {0}
Rises (k ∷ l ∷ ks) = (k < l) × Rises (l ∷ ks)

rises_after : (k : ℕ) (ks : List ℕ) → Rises (k ∷ ks) → Rises ks
rises_after k [] rises = tt
rises_after k (l ∷ ks) rises = rises.1

least : (k : ℕ) (ks : List ℕ) → Rises (k ∷ ks) → (i : ℕ) → i < length ks → k < get_or ks i 0
least k [] rises i h = absurd (omega arith)
least k (l ∷ ks) rises zero h = rises.0
least k (l ∷ ks) rises (suc i) h = let inner = least l ks rises.1 i (omega arith) in let here = rises.0 in omega arith

-- a search among a key and others, and one among the others
after_none : (k : ℕ) (ks : List ℕ) (p : ℕ) → Rises (k ∷ ks) → p < k → Finds ks p None
after_none k ks p rises before some = let here = least k ks rises 0 some in omega arith

after_first : (k : ℕ) (ks : List ℕ) (p : ℕ) → IsBoundary (k ∷ ks) p 0 → Finds ks p None
after_first k ks p is some = is.next_after (omega arith)

after_some : (k : ℕ) (ks : List ℕ) (p i : ℕ) → IsBoundary (k ∷ ks) p (suc i) → IsBoundary ks p i
after_some k ks p i is = record {
  within = (let h = is.within in omega arith);
  at_or_before = is.at_or_before;
  next_after = λ more. (let next : suc i + 1 ≡ suc (i + 1) = omega arith in subst (λ (j : ℕ). p < get_or (k ∷ ks) j 0) next (is.next_after (omega arith)));
}

-- ---- the entries of a part
entries_rise : (entries : List LsdaEntry) → AscendByAddress entries → Rises (map function_address entries)
entries_rise [] ascend = tt
entries_rise (e ∷ []) ascend = tt
entries_rise (e ∷ f ∷ es) ascend = (ascend.0, entries_rise (f ∷ es) ascend.1)

unequal : (a b : ℕ) → (a ≡ b → ⊥) → eqb a b ≡ false
unequal a b ne = go (eqb a b) refl
  where
    go : (c : Bool) → eqb a b ≡ c → eqb a b ≡ false
    go true e = absurd (ne (eqb-true a b e))
    go false e = e

found_among : (entries : List LsdaEntry) (start : ℕ) → Rises (map function_address entries) → (place : Option ℕ) → Finds (map function_address entries) start place → offset_at entries start place ≡ listed_among start (Ok entries)
found_among [] start rises None finds = refl
found_among [] start rises (Some i) finds = absurd (let h = finds.within in omega arith)
found_among (e ∷ es) start rises None finds =
    let before : start < function_address e = finds (omega arith) in
    rw (unequal (function_address e) start (λ same. absurd (omega arith)))
    (found_among es start (rises_after (function_address e) (map function_address es) rises) None (after_none (function_address e) (map function_address es) start rises before))
found_among (e ∷ es) start rises (Some zero) finds =
    go (eqb (function_address e) start) refl (found_among es start (rises_after (function_address e) (map function_address es) rises) None (after_first (function_address e) (map function_address es) start finds))
  where
    go : (c : Bool) → eqb (function_address e) start ≡ c → offset_at es start None ≡ listed_among start (Ok es) → offset_at (e ∷ es) start (Some zero) ≡ listed_among start (Ok (e ∷ es))
    go true is rest = rw is refl
    go false is rest = rw is rest
found_among (e ∷ es) start rises (Some (suc i)) finds =
    let here = least (function_address e) (map function_address es) rises i (let h = finds.within in omega arith) in
    let found = finds.at_or_before in
    rw (unequal (function_address e) start (λ same. absurd (omega arith)))
    (found_among es start (rises_after (function_address e) (map function_address es) rises) (Some i) (after_some (function_address e) (map function_address es) start i finds))

-- ---- the pages
pages_rise : (bytes : List ℕ) (pages : List PageEntry) → ArePartsDescribed bytes pages → Rises (map first_address pages)
pages_rise bytes [] are = tt
pages_rise bytes (p ∷ []) are = tt
pages_rise bytes (p ∷ q ∷ pages) are = (are.0, pages_rise bytes (q ∷ pages) are.2)

found_in : (bytes : List ℕ) (pages : List PageEntry) (start : ℕ) → ArePartsDescribed bytes pages → (place : Option ℕ) → Finds (map first_address pages) start place → table_by bytes pages start place ≡ Ok (listed_in bytes pages start)
found_in bytes [] start are None finds = refl
found_in bytes [] start are (Some i) finds = absurd (let h = finds.within in omega arith)
found_in bytes (p ∷ []) start are None finds = refl
found_in bytes (p ∷ []) start are (Some zero) finds = refl
found_in bytes (p ∷ []) start are (Some (suc i)) finds = absurd (let h = finds.within in omega arith)
found_in bytes (p ∷ q ∷ pages) start are None finds =
    let before : start < first_address p = finds (omega arith) in
    rw (lt-leb (first_address p) start before) (found_in bytes (q ∷ pages) start are.2 None (after_none (first_address p) (map first_address (q ∷ pages)) start (pages_rise bytes (p ∷ q ∷ pages) are) before))
found_in bytes (p ∷ q ∷ pages) start are (Some zero) finds =
    let described = are.1 in
    let here = le-leb (first_address p) start finds.at_or_before in
    let below = lt-ltb start (first_address q) (finds.next_after (omega arith)) in
    rw (here, below, described.reads)
    (ap Ok (found_among described.entries start (entries_rise described.entries described.ascend) (boundary_of (map function_address described.entries) start) (boundary_finds (map function_address described.entries) start)))
found_in bytes (p ∷ q ∷ pages) start are (Some (suc i)) finds =
    let rises = pages_rise bytes (p ∷ q ∷ pages) are in
    let next : suc i + 1 ≡ suc (i + 1) = omega arith in
    let inner = found_in bytes (q ∷ pages) start are.2 (Some i) (after_some (first_address p) (map first_address (q ∷ pages)) start i finds) in
    rw (le-ltb start (first_address q) (from_next i finds), next) (skipped (leb (first_address p) start) inner)
  where
    from_next : (i : ℕ) → IsBoundary (map first_address (p ∷ q ∷ pages)) start (suc i) → first_address q ≤ start
    from_next zero finds = finds.at_or_before
    from_next (suc i) finds =
        let rises = pages_rise bytes (p ∷ q ∷ pages) are in
        let above = least (first_address q) (map first_address pages) rises.1 i (let h = finds.within in omega arith) in
        let found = finds.at_or_before in
        omega arith

    skipped : (c : Bool) → table_by bytes (q ∷ pages) start (Some i) ≡ Ok (listed_in bytes (q ∷ pages) start) →
        table_by bytes (q ∷ pages) start (Some i) ≡ Ok (cond (c && false) (listed_among start (lsda_entries_of p q bytes)) (listed_in bytes (q ∷ pages) start))
    skipped true inner = inner
    skipped false inner = inner

pub finds_listed : (info : Section) (start : ℕ) → HasDescribedTables info → table_at info start ≡ Ok (listed_table info start)
unfolding table_at
finds_listed info start are = found_in info.bytes info.pages start are (boundary_of (page_addresses info) start) (boundary_finds (page_addresses info) start)

-- the bit of an opcode, as a test
pub is_set : (opcode : ℕ) → bits opcode 30 1 ≡ 1 → IsTrue (has_language_table opcode)
is_set opcode e = rw e refl
