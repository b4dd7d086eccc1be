-- A described module's header reads, and what a search of its table may answer is what a scan answers.
use Rattle.std.proofs.Common.{◌≡◌, ℕ, zero, suc, ◌+◌, ◌-◌, ◌*◌, ◌%◌, ◌^◌, ◌<◌, ◌≤◌, Bool, true, false, ltb, leb, List, [], ◌∷◌, ◌++◌, length, drop, map, Option, Some, None, Result, Ok, Err, refl, sym, ap, subst, ◌∙◌, arith, inl, inr}
use Rattle.std.specs.Prelude.{◌≢◌, ◌==◌, nat_lt, slice_get, MatchOption}
use Rattle.std.specs.Int.{w32}
use Rattle.std.proofs.lemmas.Bool.{le-ltb, le-leb, lt-leb, eqb-false}
use Rattle.std.proofs.lemmas.Bool.Decides.{leb_tells}
use Rattle.std.proofs.lemmas.List.{take-append-drop, drop-drop, length-drop, length-map}
use Rattle.std.specs.List.{Contains}
use Rattle.std.proofs.lemmas.List.Sorted.{Contains-permutation, IsPermutation-sym, length_permutation}
use Rattle.memory_image.specs.Image.{Span, table_at, IsLaidOut}
use Rattle.memory_image.specs.ImageLaws.{table_past, table_at-add}
use Rattle.unwind_definitions.specs.declared.error.Error.{Error as Fault}
use Rattle.unwind_definitions.specs.declared.error.Error.TheVariants.{NoUnwindInfoForAddress}
use Rattle.unwind_definitions.specs.Faults.{◌>>=◌}
use Rattle.unwind_definitions.specs.Input.{Input, address_of, number, signed_word, skip}
use Rattle.unwind_definitions.specs.Pointers.{Bases, Pointer, Direct, pointer, direct}
use Rattle.unwind_definitions.specs.Entries.{Fde, AFde, Found, entry_at}
use Rattle.unwind_definitions.specs.Row.{covers_pc}
use Rattle.unwind_definitions.specs.Scan.{fdes_of, scan}
use Rattle.unwind_definitions.specs.Function.{Function}
use Rattle.unwind_definitions.specs.LanguageTable.{input_at}
use Rattle.unwind_definitions.specs.Module.{Module, bases_of, no_bases, header_bases, header_form, ArePairs, pair_of, StartsAscend, IsHeaderTable, CoversNot, DescribesModule}
use Rattle.unwind_definitions.specs.Header.{FrameHeader, PairTable, bases_in, header, pair_from, pair_at, pair_count, table_by, table_in}
use Rattle.unwind_definitions.specs.HeaderSearch.{StartsAfter, Finds, IsTableAnswer, boundary_in, containing, found_by, fde_at_address, table_answer}
use Rattle.unwind_definitions.specs.HeaderSearchLaws.{boundary_in-finds}
use Rattle.unwind_definitions.specs.PointerEncodings.{datarel_sdata4, DW_EH_PE_udata4, pcrel_sdata4}
use Rattle.unwind_laws.specs.Found.{nothing_found}
use Rattle.unwind_laws.specs.ByHeader.{boundary, AnswersBy}
use Rattle.unwind_laws.specs.Listing.{listing}
use Rattle.unwind_laws.proofs.Signal.{ok_same}
use Rattle.unwind_laws.proofs.Leb.{one_byte}
use Rattle.unwind_laws.proofs.Booleans.{later, first, all_contains}
use Rattle.unwind_laws.proofs.ByHeader.{header_answers, mapped_from, placed}

abbrev pub input : ℕ → ℕ → List ℕ → Input
input base offset bytes = record { base = base; offset = offset; bytes = bytes }

-- ---- the header
abbrev pointed : Pointer → Input → Result (Pointer × Input) Fault
pointed p d = Ok (p, d)

-- a pointer that isn't indirect, and is relative to its own place, is read the same whatever the bases are
pointer_read : (bases : Bases) (c d : Input) (a : ℕ) → direct pcrel_sdata4 no_bases c ≡ Ok (a, d) → pointer pcrel_sdata4 bases c ≡ Ok (Direct a, d)
pointer_read bases c d a e = go (number w32 c) refl
  where
    go : (r : Result (ℕ × Input) Fault) → number w32 c ≡ r → pointer pcrel_sdata4 bases c ≡ Ok (Direct a, d)
    go (Err f) is = let h = rw is at e in absurd cc
    go (Ok n) is =
        let h = rw is at e in
        let same : ((address_of c + signed_word 32 n.0) % 2 ^ 64, n.1) ≡ (a, d) = ok_same _ _ h in
        rw is (ap (λ (p : ℕ × Input). pointed (Direct p.0) p.1) same)

abbrev pub after_head : Bases → ℕ → Pointer × Input → Result FrameHeader Fault
after_head bases base frame = pair_count DW_EH_PE_udata4 datarel_sdata4 frame.1 >>= λ count. Ok (record { frame = frame.0; count = count.0; encoding = datarel_sdata4; bases = bases_in base bases; pairs = count.1 })

pub head_read : (bases : Bases) (base : ℕ) (rest : List ℕ) → header bases (input base 0 (0x01 ∷ 0x1b ∷ 0x03 ∷ 0x3b ∷ rest)) ≡ (pointer pcrel_sdata4 (bases_in base bases) (input base 4 rest) >>= after_head bases base)
head_read bases base rest =
    rw (one_byte base 0 0x01 (0x1b ∷ 0x03 ∷ 0x3b ∷ rest), one_byte base 1 0x1b (0x03 ∷ 0x3b ∷ rest), one_byte base 2 0x03 (0x3b ∷ rest), one_byte base 3 0x3b rest) refl

module _ (image : List Span) (h frame : ℕ) (fdes : List Fde) (bases : Bases) (table : IsHeaderTable image h frame fdes) where
  bytes_are : table_at image h ≡ header_form ++ drop 4 (table_at image h)
  bytes_are = sym (take-append-drop 4 (table_at image h)) ∙ ap (λ (l : List ℕ). l ++ drop 4 (table_at image h)) table.form

  pub header_read : header bases (input_at image h) ≡ Ok (listing h bases frame fdes table.listed)
  header_read =
      let pointer_is : pointer pcrel_sdata4 (bases_in h bases) (input h 4 (drop 4 (table_at image h))) ≡ Ok (Direct frame, table.counted) = pointer_read (bases_in h bases) (skip 4 (input_at image h)) table.counted frame table.pointer in
      let counts : pair_count DW_EH_PE_udata4 datarel_sdata4 table.counted ≡ Ok (length fdes, table.listed) = table.count in
      ap (λ (l : List ℕ). header bases (input h 0 l)) bytes_are ∙ head_read bases h (drop 4 (table_at image h)) ∙ ap (λ (r : Result (Pointer × Input) Fault). r >>= after_head bases h) pointer_is
      ∙ ap (λ (r : Result (ℕ × Input) Fault). r >>= λ count. Ok (record { frame = Direct frame; count = count.0; encoding = datarel_sdata4; bases = bases_in h bases; pairs = count.1 })) counts

-- ---- the pairs
pub skip_none : (c : Input) → skip 0 c ≡ c
skip_none c = let zero_more : c.offset + 0 ≡ c.offset = omega arith in ap (λ o. input c.base o c.bytes) zero_more

pub skip_more : (m n k : ℕ) (c : Input) → k ≡ n + m → skip m (skip n c) ≡ skip k c
skip_more m n k c sum =
    let offset : c.offset + n + m ≡ c.offset + k = omega arith in
    ap (λ o. input c.base o (drop m (drop n c.bytes))) offset ∙ ap (λ (l : List ℕ). input c.base (c.offset + k) l) (drop-drop m n c.bytes ∙ ap (λ j. drop j c.bytes) (sym sum))

pub four_passed : (h a : ℕ) (c d : Input) → direct datarel_sdata4 (header_bases h) c ≡ Ok (a, d) → d ≡ skip 4 c
four_passed h a c d e = go (nat_lt (length c.bytes) 4) refl
  where
    go : (b : Bool) → nat_lt (length c.bytes) 4 ≡ b → d ≡ skip 4 c
    go true is = let h = rw is at e in absurd cc
    go false is = let h = rw is at e in sym (ap (λ (p : ℕ × Input). p.1) (ok_same _ (a, d) h))

pair_read : (h : ℕ) (bases : Bases) (c middle next : Input) (p : ℕ × ℕ) → direct datarel_sdata4 (header_bases h) c ≡ Ok (p.0, middle) → direct datarel_sdata4 (header_bases h) middle ≡ Ok (p.1, next) →
    pair_from datarel_sdata4 (bases_in h bases) c ≡ Ok p
pair_read h bases c middle next p first second =
    let one : direct datarel_sdata4 (bases_in h bases) c ≡ Ok (p.0, middle) = first in
    let two : direct datarel_sdata4 (bases_in h bases) middle ≡ Ok (p.1, next) = second in
    rw (one, two) refl

some_same : (p q : ℕ × ℕ) → ◌≡◌ {A = Option (ℕ × ℕ)} (Some p) (Some q) → p ≡ q
some_same p q e = cc

pub nth_pair : (h : ℕ) (bases : Bases) (c : Input) (ps : List (ℕ × ℕ)) → ArePairs h c ps → (i : ℕ) (p : ℕ × ℕ) → slice_get ps i ≡ Some p → pair_from datarel_sdata4 (bases_in h bases) (skip (i * 8) c) ≡ Ok p
nth_pair h bases c [] are i p e = absurd cc
nth_pair h bases c (q ∷ ps) are zero p e =
    let same : q ≡ p = some_same q p e in
    ap (pair_from datarel_sdata4 (bases_in h bases)) (skip_none c) ∙ pair_read h bases c are.0 are.1 q are.2 are.3 ∙ ap (λ (x : ℕ × ℕ). Ok x) same
nth_pair h bases c (q ∷ ps) are (suc i) p e =
    let middle : are.0 ≡ skip 4 c = four_passed h q.0 c are.0 are.2 in
    let next : are.1 ≡ skip 4 are.0 = four_passed h q.1 are.0 are.1 are.3 in
    let after : are.1 ≡ skip 8 c = next ∙ ap (skip 4) middle ∙ skip_more 4 4 8 c refl in
    let more : suc i * 8 ≡ 8 + i * 8 = omega arith in
    ap (pair_from datarel_sdata4 (bases_in h bases)) (sym (ap (skip (i * 8)) after ∙ skip_more (i * 8) 8 (suc i * 8) c more)) ∙ nth_pair h bases are.1 ps are.4 i p e

-- ---- the boundary
none_starts : (ps : List (ℕ × ℕ)) (a : ℕ) → StartsAscend ps → ((q : ℕ × ℕ) → slice_get ps 0 ≡ Some q → a < q.0) → boundary ps a ≡ None
none_starts [] a up above = refl
none_starts (q ∷ []) a up above = let lt : a < q.0 = above q refl in rw (lt-leb q.0 a lt) refl
none_starts (q ∷ r ∷ ps) a up above =
    let lt : a < q.0 = above q refl in
    let step = up.0 in
    let rest : boundary (r ∷ ps) a ≡ None = none_starts (r ∷ ps) a up.1 (λ x is. let same : r ≡ x = some_same r x is in subst (λ (y : ℕ × ℕ). a < y.0) same (omega arith)) in
    rw rest (rw (lt-leb q.0 a lt) refl)

tail_ascends : (p : ℕ × ℕ) (ps : List (ℕ × ℕ)) → StartsAscend (p ∷ ps) → StartsAscend ps
tail_ascends p [] up = tt
tail_ascends p (q ∷ ps) up = up.1

pub boundary_at : (ps : List (ℕ × ℕ)) (a i : ℕ) (p : ℕ × ℕ) → StartsAscend ps → slice_get ps i ≡ Some p → p.0 ≤ a → ((q : ℕ × ℕ) → slice_get ps (suc i) ≡ Some q → a < q.0) → boundary ps a ≡ Some p
boundary_at [] a i p up at le above = absurd cc
boundary_at (q ∷ ps) a zero p up at le above =
    let same : q ≡ p = some_same q p at in
    let rest : boundary ps a ≡ None = none_starts ps a (tail_ascends q ps up) above in
    let low : leb q.0 a ≡ true = le-leb q.0 a (subst (λ (x : ℕ × ℕ). x.0 ≤ a) (sym same) le) in
    rw rest (rw low (ap (λ (x : ℕ × ℕ). Some x) same))
boundary_at (q ∷ ps) a (suc i) p up at le above = rw (boundary_at ps a i p (tail_ascends q ps up) at le above) refl

within : {A : Type 0} (xs : List A) (i : ℕ) → i < length xs → (x : A) × (slice_get xs i ≡ Some x)
within [] i lt = absurd (omega arith)
within (x ∷ xs) zero lt = (x, refl)
within (x ∷ xs) (suc i) lt = within xs i (omega arith)

inside : {A : Type 0} (xs : List A) (i : ℕ) (x : A) → slice_get xs i ≡ Some x → i < length xs
inside [] i x e = absurd cc
inside (y ∷ ys) zero x e = omega arith
inside (y ∷ ys) (suc i) x e = let ih = inside ys i x e in omega arith

-- ---- where a description stands
no_wrap : (ss : List Span) (a k : ℕ) → IsLaidOut 0 ss → k < length (table_at ss a) → a + k < 2 ^ 64
no_wrap ss a k laid lt = elim (leb_tells (2 ^ 64) (a + k)) [
  | inl p ↦ (
      let cut : length (drop k (table_at ss a)) ≡ length (table_at ss a) - k = length-drop k (table_at ss a) in
      let none : drop k (table_at ss a) ≡ [] = sym (table_at-add ss 0 a k laid lt) ∙ table_past ss 0 (a + k) laid p.1 in
      let empty : length (drop k (table_at ss a)) ≡ 0 = ap length none in
      absurd (omega arith)
      )
  | inr p ↦ p.1
]

-- an entry has a byte at least
stands_inside : (bases : Bases) (table : Input) (o : ℕ) (found : Found) → entry_at bases table o ≡ Ok (Some found) → o < length table.bytes
unfolding entry_at
stands_inside bases table o found e = go (length (drop o table.bytes) == 0) refl
  where
    go : (b : Bool) → (length (drop o table.bytes) == 0) ≡ b → o < length table.bytes
    go true is = let h = rw is at e in absurd cc
    go false is =
        let cut : length (drop o table.bytes) ≡ length table.bytes - o = length-drop o table.bytes in
        let some : length (drop o table.bytes) ≢ 0 = eqb-false (length (drop o table.bytes)) 0 is in
        omega arith

-- a description that stands at its offset is found at its address
pub found_there : (image : List Span) (bases : Bases) (frame next : ℕ) (fde : Fde) → IsLaidOut 0 image → entry_at bases (input_at image frame) fde.offset ≡ Ok (Some (record { entry = AFde fde; next = next })) →
    fde_at_address bases (input_at image frame) ((frame + fde.offset) % 2 ^ 64) ≡ Ok fde
found_there image bases frame next fde laid e =
    let lt : fde.offset < length (table_at image frame) = stands_inside bases (input_at image frame) fde.offset _ e in
    let fits : frame + fde.offset < 2 ^ 64 = no_wrap image frame fde.offset laid lt in
    let whole : (frame + fde.offset) % 2 ^ 64 ≡ frame + fde.offset = omega arith in
    let above : ltb (frame + fde.offset) frame ≡ false = le-ltb (frame + fde.offset) frame (omega arith) in
    let back : frame + fde.offset - frame ≡ fde.offset = omega arith in
    let short : ltb (length (table_at image frame)) fde.offset ≡ false = le-ltb (length (table_at image frame)) fde.offset (omega arith) in
    rw whole (rw above (rw back (rw short (rw e refl))))

-- ---- the search
module _ (image : List Span) (m : Module) (functions : List Function) (d : DescribesModule image m functions) (h : ℕ) (bases : Bases) (table : IsHeaderTable image h d.frame (fdes_of d.entries)) (pc : ℕ) where
  abbrev listed : PairTable
  listed = table_by (listing h bases d.frame (fdes_of d.entries) table.listed) 4

  abbrev scanned : Result Fde Fault
  scanned = scan (bases_of m d.frame) (input_at image d.frame) pc

  as_many : length (fdes_of d.entries) ≡ length table.pairs
  as_many = sym (length-map (fdes_of d.entries) (pair_of d.frame)) ∙ sym (length_permutation (map (pair_of d.frame) (fdes_of d.entries)) table.pairs table.each)

  pair_is : (i : ℕ) (p : ℕ × ℕ) → slice_get table.pairs i ≡ Some p → pair_at listed i ≡ Ok p
  pair_is i p at = nth_pair h bases table.listed table.pairs table.reads i p at

  pair_there : (i : ℕ) → i < length (fdes_of d.entries) → (p : ℕ × ℕ) × (slice_get table.pairs i ≡ Some p)
  pair_there i lt = let many = as_many in within table.pairs i (omega arith)

  named : (p : ℕ × ℕ) → AnswersBy image m d.frame pc p → IsLaidOut 0 image → found_by (bases_of m d.frame) (input_at image d.frame) pc (Ok (Some p)) ≡ scanned
  named p by laid =
      let at : fde_at_address (bases_of m d.frame) (input_at image d.frame) p.1 ≡ Ok by.fde =
      ap (λ (q : ℕ × ℕ). fde_at_address (bases_of m d.frame) (input_at image d.frame) q.1) by.names.pair ∙ found_there image (bases_of m d.frame) d.frame by.names.next by.fde laid by.names.placed in
      ap (λ (r : Result Fde Fault). r >>= λ fde. containing pc fde) at ∙ sym by.answer

  after : (i : ℕ) (p : ℕ × ℕ) → slice_get table.pairs i ≡ Some p → StartsAfter listed pc i → pc < p.0
  after i p at later =
      let read : ◌≡◌ {A = Result (ℕ × ℕ) Fault} (Ok later.0) (Ok p) = sym later.1 ∙ pair_is i p at in
      let same : later.0 ≡ p = ok_same later.0 p read in
      subst (λ (q : ℕ × ℕ). pc < q.0) same later.2

  answers_at : (place : Result (Option (ℕ × ℕ)) Fault) → Finds listed pc place → IsLaidOut 0 image → found_by (bases_of m d.frame) (input_at image d.frame) pc place ≡ scanned
  answers_at (Err e) finds laid =
      let p = pair_there finds.0 finds.1 in
      let bad : ◌≡◌ {A = Result (ℕ × ℕ) Fault} (Err e) (Ok p.0) = sym finds.2 ∙ pair_is finds.0 p.0 p.1 in
      absurd cc
  answers_at (Ok None) finds laid =
      let none : boundary table.pairs pc ≡ None = none_starts table.pairs pc table.ascend (λ q at. after 0 q at (finds (let lt = inside table.pairs 0 q at in let many = as_many in omega arith))) in
      let by : MatchOption (boundary table.pairs pc) (scanned ≡ nothing_found) (AnswersBy image m d.frame pc) = header_answers image m functions d pc h table in
      sym (subst (λ (o : Option (ℕ × ℕ)). MatchOption o (scanned ≡ nothing_found) (AnswersBy image m d.frame pc)) none by)
  answers_at (Ok (Some p)) finds laid =
      let q = pair_there finds.index finds.within in
      let read : ◌≡◌ {A = Result (ℕ × ℕ) Fault} (Ok q.0) (Ok p) = sym (pair_is finds.index q.0 q.1) ∙ finds.reads in
      let same : q.0 ≡ p = ok_same q.0 p read in
      let at : slice_get table.pairs finds.index ≡ Some p = q.1 ∙ ap (λ (x : ℕ × ℕ). Some x) same in
      let is : boundary table.pairs pc ≡ Some p = boundary_at table.pairs pc finds.index p table.ascend at finds.at_or_before (λ r next.
      let lt = inside table.pairs (suc finds.index) r next in let many = as_many in
      let one : finds.index + 1 ≡ suc finds.index = omega arith in
      after (suc finds.index) r next (subst (StartsAfter listed pc) one (finds.next_after (omega arith)))) in
      let by : MatchOption (boundary table.pairs pc) (scanned ≡ nothing_found) (AnswersBy image m d.frame pc) = header_answers image m functions d pc h table in
      named p (subst (λ (o : Option (ℕ × ℕ)). MatchOption o (scanned ≡ nothing_found) (AnswersBy image m d.frame pc)) is by) laid

  table_is : (t : PairTable) → table_in (listing h bases d.frame (fdes_of d.entries) table.listed) ≡ Some t → listed ≡ t
  table_is t e = go (length (fdes_of d.entries) == 0) refl
    where
      go : (b : Bool) → (length (fdes_of d.entries) == 0) ≡ b → listed ≡ t
      go true is = let h = rw is at e in absurd cc
      go false is = let h = rw is at e in cc

  pub search_answers : (found : FrameHeader) (t : PairTable) (answer : Result Fde Fault) → IsLaidOut 0 image → header bases (input_at image h) ≡ Ok found → table_in found ≡ Some t →
      IsTableAnswer (bases_of m d.frame) (input_at image d.frame) t pc answer → answer ≡ scanned
  search_answers found t answer laid reads has by =
      let read : ◌≡◌ {A = Result FrameHeader Fault} (Ok (listing h bases d.frame (fdes_of d.entries) table.listed)) (Ok found) = sym (header_read image h d.frame (fdes_of d.entries) bases table) ∙ reads in
      let same : listing h bases d.frame (fdes_of d.entries) table.listed ≡ found = ok_same _ _ read in
      let is : listed ≡ t = table_is t (ap table_in same ∙ has) in
      by.is ∙ answers_at by.place (subst (λ (x : PairTable). Finds x pc by.place) (sym is) by.finds) laid

-- ---- an address that no description contains
contains_at : {A : Type 0} (xs : List A) (i : ℕ) (x : A) → slice_get xs i ≡ Some x → Contains xs x
contains_at [] i x e = absurd cc
contains_at (y ∷ ys) zero x e = let same : y ≡ x = cc in subst (Contains (y ∷ ys)) same (first y ys)
contains_at (y ∷ ys) (suc i) x e = later y ys x (contains_at ys i x e)

module _ (image : List Span) (m : Module) (a : ℕ) (u : CoversNot image m a) (h : ℕ) (bases : Bases) (table : IsHeaderTable image h u.frame (fdes_of u.entries)) (laid : IsLaidOut 0 image) where
  abbrev lists : PairTable
  lists = table_by (listing h bases u.frame (fdes_of u.entries) table.listed) 4

  abbrev due : Result (Option (ℕ × ℕ)) Fault → Result Fde Fault
  due place = found_by (bases_of m u.frame) (input_at image u.frame) a place

  -- what a pair names doesn't contain the address
  misses : (i : ℕ) (q : ℕ × ℕ) → slice_get table.pairs i ≡ Some q → due (Ok (Some q)) ≡ nothing_found
  misses i q at =
      let listed = Contains-permutation table.pairs (map (pair_of u.frame) (fdes_of u.entries)) q (IsPermutation-sym (map (pair_of u.frame) (fdes_of u.entries)) table.pairs table.each) (contains_at table.pairs i q at) in
      let named = mapped_from (pair_of u.frame) (fdes_of u.entries) q listed in
      let stands = placed (bases_of m u.frame) (input_at image u.frame) 0 u.entries named.0 u.reads named.1 in
      let out : covers_pc named.0 a ≡ false = all_contains (λ (g : Fde). covers_pc g a ≡ false) (fdes_of u.entries) named.0 u.uncovered named.1 in
      let there : fde_at_address (bases_of m u.frame) (input_at image u.frame) q.1 ≡ Ok named.0 =
      ap (λ (x : ℕ × ℕ). fde_at_address (bases_of m u.frame) (input_at image u.frame) x.1) named.2 ∙ found_there image (bases_of m u.frame) u.frame stands.next named.0 laid stands.is in
      rw there (rw out refl)

  many : length (fdes_of u.entries) ≡ length table.pairs
  many = sym (length-map (fdes_of u.entries) (pair_of u.frame)) ∙ sym (length_permutation (map (pair_of u.frame) (fdes_of u.entries)) table.pairs table.each)

  fails_at : (place : Result (Option (ℕ × ℕ)) Fault) → Finds lists a place → (e : Fault) × (due place ≡ Err e)
  fails_at (Err e) finds = (e, refl)
  fails_at (Ok None) finds = (NoUnwindInfoForAddress, refl)
  fails_at (Ok (Some p)) finds =
      let count = many in
      let lt = finds.within in
      let q = within table.pairs finds.index (omega arith) in
      let read : ◌≡◌ {A = Result (ℕ × ℕ) Fault} (Ok q.0) (Ok p) = sym (nth_pair h bases table.listed table.pairs table.reads finds.index q.0 q.1) ∙ finds.reads in
      let same : q.0 ≡ p = ok_same q.0 p read in
      (NoUnwindInfoForAddress, misses finds.index p (q.1 ∙ ap (λ (x : ℕ × ℕ). Some x) same))

  lists_are : (t : PairTable) → table_in (listing h bases u.frame (fdes_of u.entries) table.listed) ≡ Some t → lists ≡ t
  lists_are t e = go (length (fdes_of u.entries) == 0) refl
    where
      go : (b : Bool) → (length (fdes_of u.entries) == 0) ≡ b → lists ≡ t
      go true is = let h = rw is at e in absurd cc
      go false is = let h = rw is at e in cc

  -- a search of the header's table is an error
  pub uncovered_fails : (t : PairTable) → table_in (listing h bases u.frame (fdes_of u.entries) table.listed) ≡ Some t → (e : Fault) × (table_answer (bases_of m u.frame) (input_at image u.frame) t a ≡ Err e)
  uncovered_fails t has = fails_at (boundary_in t a) (subst (λ (x : PairTable). Finds x a (boundary_in t a)) (sym (lists_are t has)) (boundary_in-finds t a))
