-- A header of the form that linkers choose, and the table that is read by it.
use Rattle.std.proofs.Common.{◌≡◌, ℕ, zero, suc, ◌+◌, ◌*◌, ◌%◌, ◌^◌, ◌<◌, Bool, true, false, List, [], ◌∷◌, ◌++◌, length, drop, take, map, get_or, Some, Result, Ok, Err, refl, sym, ap, subst, ◌∙◌, arith}
use Rattle.std.specs.Prelude.{◌==◌, slice_get}
use Rattle.std.specs.Int.{w32}
use Rattle.std.specs.List.{AllByRecursion, Contains}
use Rattle.std.specs.List.Sorted.{IsPermutation}
use Rattle.std.proofs.lemmas.Bool.{eqb-true}
use Rattle.std.proofs.lemmas.List.{length-map, take-append-drop}
use Rattle.std.proofs.lemmas.List.Sorted.{Contains-permutation, IsPermutation-refl, length_permutation}
use Rattle.memory_image.specs.Image.{Span, table_at}
use Rattle.unwind_definitions.specs.declared.error.Error.{Error as Fault}
use Rattle.unwind_definitions.specs.Faults.{◌>>=◌}
use Rattle.unwind_definitions.specs.Input.{Input, address_of, number, signed_word, skip}
use Rattle.unwind_definitions.specs.Pointers.{Bases, Pointer, Direct, pointer, direct}
use Rattle.unwind_definitions.specs.Entries.{Fde}
use Rattle.unwind_definitions.specs.LanguageTable.{input_at}
use Rattle.unwind_definitions.specs.Module.{ArePairs, IsHeaderTable, header_bases, header_form, header_pointer, no_bases, pair_of}
use Rattle.unwind_definitions.specs.Header.{FrameHeader, bases_in, header, pair_from, pair_count, table_by, table_in}
use Rattle.unwind_definitions.specs.PointerEncodings.{datarel_sdata4, DW_EH_PE_udata4, pcrel_sdata4}
use Rattle.unwind_laws.specs.Listing.{listing}
use Rattle.unwind_laws.proofs.Booleans.{first, later}
use Rattle.unwind_laws.proofs.HeaderListed.{after_head, four_passed, head_read, header_read, input, nth_pair, skip_more, skip_none}
use Rattle.unwind_laws.proofs.Signal.{ok_same}
use Rattle.table_check.specs.AllEntries.{AllApart}
use Rattle.table_check.specs.Pairs.{HavePairs, ListsAll, ListsEach}
use Rattle.table_check.proofs.Permuted.{distinct_pairs, permutes}

-- what goes on to a value has one before it
before : {A B : Type 0} (r : Result A Fault) (f : A → Result B Fault) (y : B) → (r >>= f) ≡ Ok y → (x : A) × (r ≡ Ok x) × (f x ≡ Ok y)
before (Ok x) f y is = (x, refl, is)
before (Err e) f y is = absurd cc

-- ---- the header

-- a pointer that is relative to its own place is direct
record IsDirect (c : Input) (p : Pointer × Input) : Type 0 where
  target : ℕ
  pointed : p.0 ≡ Direct target
  reads : direct pcrel_sdata4 no_bases c ≡ Ok (target, p.1)

pointer_direct : (bases : Bases) (c : Input) (p : Pointer × Input) → pointer pcrel_sdata4 bases c ≡ Ok p → IsDirect c p
pointer_direct bases c p e = go (number w32 c) refl
  where
    go : (r : Result (ℕ × Input) Fault) → number w32 c ≡ r → IsDirect c p
    go (Err f) is = let h = rw is at e in absurd cc
    go (Ok n) is =
        let h = rw is at e in
        let a : ℕ = (address_of c + signed_word 32 n.0) % 2 ^ 64 in
        let same : (Direct a, n.1) ≡ p = ok_same _ _ h in
        record { target = a; pointed = sym (ap (λ (x : Pointer × Input). x.0) same); reads = rw is (ap (λ (x : Pointer × Input). Ok (a, x.1)) same) }

module _ (image : List Span) (h : ℕ) (bases : Bases) (hd : FrameHeader) (is : header bases (input_at image h) ≡ Ok hd) where
  -- a header of that form says where the frame table is, how many pairs there are, and where they begin
  record IsFormed : Type 0 where
    target : ℕ
    counted : Input
    reads : header_pointer image h ≡ Ok (target, counted)
    count : number w32 counted ≡ Ok (hd.count, hd.pairs)
    leads : hd.frame ≡ Direct target
    made : hd ≡ record { frame = hd.frame; count = hd.count; encoding = datarel_sdata4; bases = bases_in h bases; pairs = hd.pairs }

  formed : take 4 (table_at image h) ≡ header_form → IsFormed
  formed form =
      let rest = drop 4 (table_at image h) in
      let bytes_are : table_at image h ≡ header_form ++ rest = sym (take-append-drop 4 (table_at image h)) ∙ ap (λ (l : List ℕ). l ++ rest) form in
      let step : (pointer pcrel_sdata4 (bases_in h bases) (input h 4 rest) >>= after_head bases h) ≡ Ok hd = sym (ap (λ (l : List ℕ). header bases (input h 0 l)) bytes_are ∙ head_read bases h rest) ∙ is in
      let p = before (pointer pcrel_sdata4 (bases_in h bases) (input h 4 rest)) (after_head bases h) hd step in
      let d = pointer_direct (bases_in h bases) (input h 4 rest) p.0 p.1 in
      let n = before (pair_count DW_EH_PE_udata4 datarel_sdata4 p.0.1) _ hd p.2 in
      let same : record { frame = p.0.0; count = n.0.0; encoding = datarel_sdata4; bases = bases_in h bases; pairs = n.0.1 } ≡ hd = ok_same _ hd n.2 in
      let counts : number w32 p.0.1 ≡ Ok (n.0.0, n.0.1) = n.1 in
      record {
        target = d.target;
        counted = p.0.1;
        reads = d.reads;
        count = counts ∙ ap (λ (x : FrameHeader). Ok (x.count, x.pairs)) same;
        leads = ap (λ (x : FrameHeader). x.frame) (sym same) ∙ d.pointed;
        made = sym same ∙ ap (λ (x : FrameHeader). record { frame = x.frame; count = x.count; encoding = datarel_sdata4; bases = bases_in h bases; pairs = x.pairs }) same;
      }

  pub leads_directly : take 4 (table_at image h) ≡ header_form → (a : ℕ) × (hd.frame ≡ Direct a)
  leads_directly form = let f = formed form in (f.target, f.leads)

-- ---- the pairs

got : (ps : List (ℕ × ℕ)) (k : ℕ) (d : ℕ × ℕ) → k < length ps → slice_get ps k ≡ Some (get_or ps k d)
got [] k d lt = absurd (omega arith)
got (p ∷ ps) zero d lt = refl
got (p ∷ ps) (suc k) d lt = got ps k d (omega arith)

module _ (h : ℕ) (bases : Bases) where
  -- a pair is read as two addresses
  record AreTwo (c : Input) (p : ℕ × ℕ) : Type 0 where
    middle : Input
    next : Input
    one : direct datarel_sdata4 (header_bases h) c ≡ Ok (p.0, middle)
    two : direct datarel_sdata4 (header_bases h) middle ≡ Ok (p.1, next)
    passed : next ≡ skip 8 c

  two_of : (c : Input) (p : ℕ × ℕ) → pair_from datarel_sdata4 (bases_in h bases) c ≡ Ok p → AreTwo c p
  two_of c p e =
      let a = before (direct datarel_sdata4 (bases_in h bases) c) _ p e in
      let b = before (direct datarel_sdata4 (bases_in h bases) a.0.1) _ p a.2 in
      let same : (a.0.0, b.0.0) ≡ p = ok_same _ p b.2 in
      let one : direct datarel_sdata4 (header_bases h) c ≡ Ok (a.0.0, a.0.1) = a.1 in
      let two : direct datarel_sdata4 (header_bases h) a.0.1 ≡ Ok (b.0.0, b.0.1) = b.1 in
      record {
        middle = a.0.1;
        next = b.0.1;
        one = one ∙ ap (λ (x : ℕ × ℕ). Ok (x.0, a.0.1)) same;
        two = two ∙ ap (λ (x : ℕ × ℕ). Ok (x.1, b.0.1)) same;
        passed = four_passed h b.0.0 a.0.1 b.0.1 two ∙ ap (skip 4) (four_passed h a.0.0 c a.0.1 one) ∙ skip_more 4 4 8 c refl;
      }

  pairs_of : (c : Input) (ps : List (ℕ × ℕ)) → ((k : ℕ) (d : ℕ × ℕ) → k < length ps → pair_from datarel_sdata4 (bases_in h bases) (skip (k * 8) c) ≡ Ok (get_or ps k d)) → ArePairs h c ps
  pairs_of c [] reads = tt
  pairs_of c (p ∷ ps) reads =
      let t = two_of c p (ap (pair_from datarel_sdata4 (bases_in h bases)) (sym (skip_none c)) ∙ reads 0 p (omega arith)) in (
        t.middle,
        t.next,
        t.one,
        t.two,
        pairs_of t.next ps (λ k d lt.
            let more : suc k * 8 ≡ 8 + k * 8 = omega arith in
            ap (pair_from datarel_sdata4 (bases_in h bases)) (ap (skip (k * 8)) t.passed ∙ skip_more (k * 8) 8 (suc k * 8) c more) ∙ reads (suc k) d (omega arith)),
      )

-- ---- the table, as it is read and as it is defined

each_in : (frame : ℕ) (all pairs : List (ℕ × ℕ)) (fdes : List Fde) → IsPermutation all pairs → ((p : ℕ × ℕ) → Contains (map (pair_of frame) fdes) p → Contains all p) → HavePairs frame pairs fdes
each_in frame all pairs [] moved within = tt
each_in frame all pairs (x ∷ xs) moved within = (
  Contains-permutation all pairs (pair_of frame x) moved (within (pair_of frame x) (first (pair_of frame x) (map (pair_of frame) xs))),
  each_in frame all pairs xs moved (λ p has. within p (later (pair_of frame x) (map (pair_of frame) xs) p has)),
)

have_all : (frame : ℕ) (pairs : List (ℕ × ℕ)) (fdes : List Fde) → HavePairs frame pairs fdes → AllByRecursion (Contains pairs) (map (pair_of frame) fdes)
have_all frame pairs [] each = tt
have_all frame pairs (x ∷ xs) each = (each.0, have_all frame pairs xs each.1)

none_of : {A : Type 0} (xs : List A) → length xs ≡ 0 → xs ≡ []
none_of [] is = refl
none_of (x ∷ xs) is = absurd (omega arith)

module _ (image : List Span) (h : ℕ) (bases : Bases) (hd : FrameHeader) (is : header bases (input_at image h) ≡ Ok hd) (fdes : List Fde) (frame : ℕ) where
  pub lists_as_read : IsHeaderTable image h frame fdes → ListsAll (table_in hd) frame fdes
  lists_as_read t = subst (λ (x : FrameHeader). ListsAll (table_in x) frame fdes) same (go (length fdes == 0) refl)
    where
      same : listing h bases frame fdes t.listed ≡ hd
      same = ok_same _ hd (sym (header_read image h frame fdes bases t) ∙ is)

      go : (b : Bool) → (length fdes == 0) ≡ b → ListsAll (table_in (listing h bases frame fdes t.listed)) frame fdes
      go true none = rw none (eqb-true (length fdes) 0 none)
      go false some = rw some (record {
        count = refl;
        pairs = t.pairs;
        read = record {
          many = length_permutation (map (pair_of frame) fdes) t.pairs t.each ∙ length-map fdes (pair_of frame);
          reads = λ k d lt. nth_pair h bases t.listed t.pairs t.reads k (get_or t.pairs k d) (got t.pairs k d lt);
          ascend = t.ascend;
        };
        each = each_in frame (map (pair_of frame) fdes) t.pairs fdes t.each (λ p has. has);
      })

  abbrev as_made : FrameHeader
  as_made = record { frame = hd.frame; count = hd.count; encoding = datarel_sdata4; bases = bases_in h bases; pairs = hd.pairs }

  -- and the other way round
  pub lists_as_defined : AllApart fdes → take 4 (table_at image h) ≡ header_form → hd.frame ≡ Direct frame → ListsAll (table_in hd) frame fdes → IsHeaderTable image h frame fdes
  lists_as_defined apart form leads lists = go (hd.count == 0) refl (subst (λ (x : FrameHeader). ListsAll (table_in x) frame fdes) f.made lists)
    where
      f : IsFormed image h bases hd is
      f = formed image h bases hd is form

      direct_same : (a b : ℕ) → Direct a ≡ Direct b → a ≡ b
      direct_same a b e = cc

      points : header_pointer image h ≡ Ok (frame, f.counted)
      points = f.reads ∙ ap (λ a. Ok (a, f.counted)) (direct_same f.target frame (sym f.leads ∙ leads))

      go : (b : Bool) → (hd.count == 0) ≡ b → ListsAll (table_in as_made) frame fdes → IsHeaderTable image h frame fdes
      go true none lists =
          let empty : length fdes ≡ 0 = rw none at lists in
          record {
            form = form;
            counted = f.counted;
            pointer = points;
            listed = hd.pairs;
            count = f.count ∙ ap (λ n. Ok (n, hd.pairs)) (eqb-true hd.count 0 none ∙ sym empty);
            pairs = [];
            reads = tt;
            each = subst (λ (l : List Fde). IsPermutation (map (pair_of frame) l) []) (sym (none_of fdes empty)) (IsPermutation-refl []);
            ascend = tt;
          }
      go false some lists =
          let l : ListsEach (table_by as_made 4) frame fdes = rw some at lists in
          let many = l.read.many in let as_many = l.count in let mapped = length-map fdes (pair_of frame) in
          record {
            form = form;
            counted = f.counted;
            pointer = points;
            listed = hd.pairs;
            count = f.count ∙ ap (λ n. Ok (n, hd.pairs)) as_many;
            pairs = l.pairs;
            reads = pairs_of h bases hd.pairs l.pairs (λ k d lt. l.read.reads k d lt);
            each = permutes (map (pair_of frame) fdes) l.pairs (distinct_pairs frame fdes apart) (have_all frame l.pairs fdes l.each) (omega (arith, many, as_many, mapped));
            ascend = l.read.ascend;
          }
