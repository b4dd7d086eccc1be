-- A search of a header table finds what a scan finds.
use Rattle.std.proofs.Common.{◌≡◌, ℕ, ◌+◌, ◌-◌, ◌^◌, ◌<◌, ◌≤◌, Bool, true, false, cond, ltb, leb, List, [], ◌∷◌, map, Option, Some, None, Result, Ok, Err, refl, sym, ap, subst, ◌∙◌, arith, inl, inr}
use Rattle.std.specs.Prelude.{◌⊎◌, ◌==◌, nat_le, MatchOption}
use Rattle.std.specs.Int.{w32}
use Rattle.std.specs.Option.{option_map_or, option_or}
use Rattle.std.specs.List.{Contains, AllPairs}
use Rattle.std.proofs.lemmas.Bool.{leb-true, leb-false}
use Rattle.std.proofs.lemmas.List.Sorted.{Contains-permutation, IsPermutation-sym}
use Rattle.memory_image.specs.Image.{Span}
use Rattle.unwind_definitions.specs.declared.error.Error.{Error as Fault}
use Rattle.unwind_definitions.specs.declared.error.Error.TheVariants.{NoUnwindInfoForAddress, AddressOverflow, NotCie}
use Rattle.unwind_definitions.specs.Faults.{◌>>=◌, unless}
use Rattle.unwind_definitions.specs.Input.{Input, skip, number}
use Rattle.unwind_definitions.specs.Pointers.{Bases, direct, value, format_of}
use Rattle.unwind_definitions.specs.Entries.{Cie, Fde, Entry, ACie, AFde, Found, AreEntries, entry_at, entry_in, found_in, cie_at, cie_body, fde_body, fde_data, body, address_encoding}
use Rattle.unwind_definitions.specs.Row.{covers_pc}
use Rattle.unwind_definitions.specs.Scan.{fdes_of, first_covering, scan}
use Rattle.unwind_definitions.specs.Function.{Function}
use Rattle.unwind_definitions.specs.LanguageTable.{input_at}
use Rattle.unwind_definitions.specs.Module.{Module, bases_of, pair_of, StartsAscend, DescriptionsApart, IsHeaderTable, DescribesModule}
use Rattle.unwind_laws.specs.Found.{nothing_found}
use Rattle.unwind_laws.specs.ByHeader.{boundary, AnswersBy, BoundaryAnswers}
use Rattle.unwind_laws.proofs.Booleans.{here_or_later, none_in_nil, later, first, all_contains, contains_all, tail_pairs, head_pairs}
use Rattle.unwind_laws.proofs.Signal.{bound, ok_same}
use Rattle.unwind_laws.proofs.Scanned.{scan_is}
use Rattle.unwind_laws.proofs.Found.{covered, found_first, none_first}

-- ---- a description stands at its own offset
of_body : (bases : Bases) (cie : Cie) (o : ℕ) (c : Input) (fde : Fde) → fde_body bases cie o c ≡ Ok fde → fde.offset ≡ o
of_body bases cie o c fde e =
    let a = bound (direct (address_encoding cie) bases c) _ fde e in
    let b = bound (value (format_of (address_encoding cie)) a.0.1) _ fde a.2 in
    let d = bound (unless (nat_le (a.0.0 + b.0.0) (2 ^ 64 - 1)) AddressOverflow) _ fde b.2 in
    let f = bound (fde_data bases cie a.0.0 b.0.1) _ fde d.2 in
    sym (ap (λ (k : Fde). k.offset) (ok_same _ _ f.2))

after_id : (bases : Bases) (table : Input) (o id : ℕ) (b c : Input) (fde : Fde) (q q' : Bool) (e : Fault) →
    cond q (cie_body bases o c >>= λ cie. Ok (ACie cie)) (cond q' (Err e) (cie_at bases table (b.offset - id) >>= λ cie. fde_body bases cie o c >>= λ k. Ok (AFde k))) ≡ Ok (AFde fde) → fde.offset ≡ o
after_id bases table o id b c fde true q' e h = let a = bound (cie_body bases o c) _ (AFde fde) h in absurd cc
after_id bases table o id b c fde false true e h = absurd cc
after_id bases table o id b c fde false false e h =
    let a = bound (cie_at bases table (b.offset - id)) (λ cie. fde_body bases cie o c >>= λ k. Ok (AFde k)) (AFde fde) h in
    let d = bound (fde_body bases a.0 o c) (λ k. Ok (AFde k)) (AFde fde) a.2 in
    let same : d.0 ≡ fde = cc in
    ap (λ (k : Fde). k.offset) (sym same) ∙ of_body bases a.0 o c d.0 d.1

in_entry : (bases : Bases) (table : Input) (o : ℕ) (b : Input) (fde : Fde) → entry_in bases table o b ≡ Ok (AFde fde) → fde.offset ≡ o
in_entry bases table o b fde e = let a = bound (number w32 b) _ (AFde fde) e in after_id bases table o a.0.0 b a.0.1 fde (a.0.0 == 0) (ltb b.offset a.0.0) NotCie a.2

entry_same : (k k' : Entry) (n n' : ℕ) → ◌≡◌ {A = Result (Option Found) Fault} (Ok (Some (record { entry = k; next = n }))) (Ok (Some (record { entry = k'; next = n' }))) → k ≡ k'
entry_same k k' n n' e =
    let a : Found = record { entry = k; next = n } in
    let b : Found = record { entry = k'; next = n' } in
    let same : a ≡ b = cc in
    ap (λ (q : Found). q.entry) same

in_found : (bases : Bases) (table : Input) (o : ℕ) (b : Option Input) (n next : ℕ) (fde : Fde) → found_in bases table o b n ≡ Ok (Some (record { entry = AFde fde; next = next })) → fde.offset ≡ o
in_found bases table o None n next fde e = absurd cc
in_found bases table o (Some b) n next fde e =
    let a = bound (entry_in bases table o b) (λ k. Ok (Some (record { entry = k; next = n }))) (Some (record { entry = AFde fde; next = next })) e in
    let same : a.0 ≡ AFde fde = entry_same a.0 (AFde fde) n next a.2 in
    in_entry bases table o b fde (a.1 ∙ ap (λ (k : Entry). Ok k) same)

offset_is : (bases : Bases) (table : Input) (o next : ℕ) (fde : Fde) → entry_at bases table o ≡ Ok (Some (record { entry = AFde fde; next = next })) → fde.offset ≡ o
unfolding entry_at
offset_is bases table o next fde e = let a = bound (body (skip o table)) _ (Some (record { entry = AFde fde; next = next })) e in in_found bases table o a.0.0 _ next fde a.2

pub record Placed (bases : Bases) (table : Input) (fde : Fde) : Type 0 where
  pub next : ℕ
  pub is : entry_at bases table fde.offset ≡ Ok (Some (record { entry = AFde fde; next = next }))

-- each description of a table stands at its own offset
pub placed : (bases : Bases) (table : Input) (o : ℕ) (entries : List Entry) (fde : Fde) → AreEntries bases table o entries → Contains (fdes_of entries) fde → Placed bases table fde
placed bases table o [] fde reads has = absurd (none_in_nil fde has)
placed bases table o (ACie cie ∷ es) fde reads has = placed bases table reads.0 es fde reads.2 has
placed bases table o (AFde g ∷ es) fde reads has = elim (here_or_later g (fdes_of es) fde has) [
  | inl same ↦ subst (Placed bases table) same (record { next = reads.0; is = ap (entry_at bases table) (offset_is bases table o reads.0 g reads.1) ∙ reads.1 })
  | inr more ↦ placed bases table reads.0 es fde reads.2 more
]

-- ---- the boundary
pub record IsBoundary (pairs : List (ℕ × ℕ)) (a : ℕ) (p : ℕ × ℕ) : Type 0 where
  pub listed : Contains pairs p
  pub starts : p.0 ≤ a
  pub last : (q : ℕ × ℕ) → Contains pairs q → q.0 ≤ a → q.0 ≤ p.0

tail_ascends : (p : ℕ × ℕ) (ps : List (ℕ × ℕ)) → StartsAscend (p ∷ ps) → StartsAscend ps
tail_ascends p [] up = tt
tail_ascends p (q ∷ ps) up = up.1

above_first : (p : ℕ × ℕ) (ps : List (ℕ × ℕ)) → StartsAscend (p ∷ ps) → (q : ℕ × ℕ) → Contains ps q → p.0 < q.0
above_first p [] up q has = absurd (none_in_nil q has)
above_first p (r ∷ ps) up q has = elim (here_or_later r ps q has) [
  | inl same ↦ subst (λ (x : ℕ × ℕ). p.0 < x.0) same up.0
  | inr more ↦ let ih = above_first r ps up.1 q more in let lt = up.0 in omega arith
]

abbrev some_pair : ℕ × ℕ → Option (ℕ × ℕ)
some_pair p = Some p

pair_is : (p q : ℕ × ℕ) → some_pair p ≡ some_pair q → p ≡ q
pair_is p q e = cc

-- none of the pairs starts at or below the address
pub none_below : (pairs : List (ℕ × ℕ)) (a : ℕ) → boundary pairs a ≡ None → (q : ℕ × ℕ) → Contains pairs q → a < q.0
none_below [] a e q has = absurd (none_in_nil q has)
none_below (p ∷ ps) a e q has = go (boundary ps a) (leb p.0 a) refl refl e (none_below ps a)
  where
    go : (o : Option (ℕ × ℕ)) (b : Bool) → boundary ps a ≡ o → leb p.0 a ≡ b → option_or o (cond b (Some p) None) ≡ None → (boundary ps a ≡ None → (q : ℕ × ℕ) → Contains ps q → a < q.0) → a < q.0
    go (Some x) b at low h ih = absurd cc
    go None true at low h ih = absurd cc
    go None false at low h ih = elim (here_or_later p ps q has) [
      | inl same ↦ let lt = leb-false p.0 a low in subst (λ (x : ℕ × ℕ). a < x.0) same lt
      | inr more ↦ ih at q more
    ]

pub boundary_is : (pairs : List (ℕ × ℕ)) (a : ℕ) (p : ℕ × ℕ) → StartsAscend pairs → boundary pairs a ≡ Some p → IsBoundary pairs a p
boundary_is [] a p up e = absurd cc
boundary_is (r ∷ ps) a p up e = go (boundary ps a) (leb r.0 a) refl refl e (boundary_is ps a p (tail_ascends r ps up))
  where
    above : IsBoundary ps a p → (q : ℕ × ℕ) → (r ≡ q) ⊎ Contains ps q → q.0 ≤ a → q.0 ≤ p.0
    above b q (inl same) le = let lt = above_first r ps up p b.listed in subst (λ (x : ℕ × ℕ). x.0 ≤ p.0) same (omega arith)
    above b q (inr more) le = b.last q more le

    only : boundary ps a ≡ None → r ≡ p → (q : ℕ × ℕ) → (r ≡ q) ⊎ Contains ps q → q.0 ≤ a → q.0 ≤ p.0
    only at is q (inl same) le = subst (λ (x : ℕ × ℕ). q.0 ≤ x.0) (sym same ∙ is) (omega arith)
    only at is q (inr more) le = let lt = none_below ps a at q more in absurd (omega arith)

    go : (o : Option (ℕ × ℕ)) (b : Bool) → boundary ps a ≡ o → leb r.0 a ≡ b → option_or o (cond b (Some r) None) ≡ Some p → (boundary ps a ≡ Some p → IsBoundary ps a p) → IsBoundary (r ∷ ps) a p
    go (Some x) b at low h ih =
        let is : IsBoundary ps a p = ih (at ∙ h) in
        record { listed = later r ps p is.listed; starts = is.starts; last = λ q has le. above is q (here_or_later r ps q has) le }
    go None true at low h ih =
        let same : r ≡ p = pair_is r p h in
        record { listed = subst (λ x. Contains (r ∷ ps) x) same (first r ps); starts = subst (λ (x : ℕ × ℕ). x.0 ≤ a) same (leb-true r.0 a low); last = λ q has le. only at same q (here_or_later r ps q has) le }
    go None false at low h ih = absurd cc

-- ---- what the boundary names
pub mapped_from : {A B : Type 0} (f : A → B) (xs : List A) (y : B) → Contains (map f xs) y → (x : A) × Contains xs x × (y ≡ f x)
mapped_from f [] y has = absurd (none_in_nil y has)
mapped_from f (x ∷ xs) y has = elim (here_or_later (f x) (map f xs) y has) [
  | inl same ↦ (x, first x xs, sym same)
  | inr more ↦ let ih = mapped_from f xs y more in (ih.0, later x xs ih.0 ih.1, ih.2)
]

pub mapped_to : {A B : Type 0} (f : A → B) (xs : List A) (x : A) → Contains xs x → Contains (map f xs) (f x)
mapped_to f [] x has = absurd (none_in_nil x has)
mapped_to f (z ∷ xs) x has = elim (here_or_later z xs x has) [
  | inl same ↦ subst (λ y. Contains (f z ∷ map f xs) (f y)) same (first (f z) (map f xs))
  | inr more ↦ later (f z) (map f xs) (f x) (mapped_to f xs x more)
]

same_or_apart : (fdes : List Fde) (x y : Fde) → AllPairs DescriptionsApart fdes → Contains fdes x → Contains fdes y → (x ≡ y) ⊎ (DescriptionsApart x y ⊎ DescriptionsApart y x)
same_or_apart [] x y apart p q = absurd (none_in_nil x p)
same_or_apart (z ∷ zs) x y apart p q = go (here_or_later z zs x p) (here_or_later z zs y q) (same_or_apart zs x y (tail_pairs DescriptionsApart z zs apart))
  where
    go : (z ≡ x) ⊎ Contains zs x → (z ≡ y) ⊎ Contains zs y → (Contains zs x → Contains zs y → (x ≡ y) ⊎ (DescriptionsApart x y ⊎ DescriptionsApart y x)) → (x ≡ y) ⊎ (DescriptionsApart x y ⊎ DescriptionsApart y x)
    go (inl e) (inl f) ih = inl (sym e ∙ f)
    go (inl e) (inr q') ih = inr (inl (subst (λ w. DescriptionsApart w y) e (head_pairs DescriptionsApart z zs y apart q')))
    go (inr p') (inl f) ih = inr (inr (subst (λ w. DescriptionsApart w x) f (head_pairs DescriptionsApart z zs x apart p')))
    go (inr p') (inr q') ih = ih p' q'

-- of descriptions that lie apart, one that starts at or below another, and contains an address where that one starts at or below, is that one
pub alone : (fdes : List Fde) (x y : Fde) (a : ℕ) → AllPairs DescriptionsApart fdes → Contains fdes x → Contains fdes y → 0 < x.size → x.start ≤ a → y.start ≤ x.start → covers_pc y a ≡ true → x ≡ y
alone fdes x y a apart p q some from order covers = go (same_or_apart fdes x y apart p q)
  where
    c : (y.start ≤ a) × (a < y.start + y.size)
    c = covered y a covers

    go : (x ≡ y) ⊎ (DescriptionsApart x y ⊎ DescriptionsApart y x) → x ≡ y
    go (inl same) = same
    go (inr (inl (inl le))) = let below = c.1 in absurd (omega arith)
    go (inr (inl (inr le))) = let below = c.1 in absurd (omega arith)
    go (inr (inr (inl le))) = let below = c.1 in absurd (omega arith)
    go (inr (inr (inr le))) = let below = c.1 in absurd (omega arith)

module _ (image : List Span) (m : Module) (functions : List Function) (d : DescribesModule image m functions) (a : ℕ) where
  abbrev fdes : List Fde
  fdes = fdes_of d.entries

  abbrev answer : Option Fde → Result Fde Fault
  answer o = option_map_or (λ (x : Fde). Ok x) o (Err NoUnwindInfoForAddress)

  scanned : scan (bases_of m d.frame) (input_at image d.frame) a ≡ answer (first_covering fdes a)
  scanned = scan_is (bases_of m d.frame) (input_at image d.frame) a d.entries refl d.frames.reads

  not_covered : ((g : Fde) → Contains fdes g → covers_pc g a ≡ true → ⊥) → first_covering fdes a ≡ None
  not_covered none = none_first fdes a (contains_all (λ (g : Fde). covers_pc g a ≡ false) fdes (λ g has. go g has (covers_pc g a) refl))
    where
      go : (g : Fde) → Contains fdes g → (b : Bool) → covers_pc g a ≡ b → b ≡ false
      go g has true e = absurd (none g has e)
      go g has false e = refl

  module _ (h : ℕ) (table : IsHeaderTable image h d.frame fdes) where
    pair_listed : (g : Fde) → Contains fdes g → Contains table.pairs (pair_of d.frame g)
    pair_listed g has = Contains-permutation (map (pair_of d.frame) fdes) table.pairs (pair_of d.frame g) table.each (mapped_to (pair_of d.frame) fdes g has)

    at_none : boundary table.pairs a ≡ None → scan (bases_of m d.frame) (input_at image d.frame) a ≡ nothing_found
    at_none e = scanned ∙ ap answer (not_covered (λ g has c. let lies = covered g a c in let lt = none_below table.pairs a e (pair_of d.frame g) (pair_listed g has) in omega (arith, lies.0)))

    at_some : (p : ℕ × ℕ) → boundary table.pairs a ≡ Some p → AnswersBy image m d.frame a p
    at_some p e =
        let b : IsBoundary table.pairs a p = boundary_is table.pairs a p table.ascend e in
        let named = mapped_from (pair_of d.frame) fdes p (Contains-permutation table.pairs (map (pair_of d.frame) fdes) p (IsPermutation-sym (map (pair_of d.frame) fdes) table.pairs table.each) b.listed) in
        let fde : Fde = named.0 in
        let at : Placed (bases_of m d.frame) (input_at image d.frame) fde = placed (bases_of m d.frame) (input_at image d.frame) 0 d.entries fde d.frames.reads named.1 in
        record { fde = fde; names = record { pair = named.2; next = at.next; placed = at.is }; answer = go fde named.1 named.2 b (covers_pc fde a) refl }
      where
        go : (fde : Fde) → Contains fdes fde → p ≡ pair_of d.frame fde → IsBoundary table.pairs a p → (c : Bool) → covers_pc fde a ≡ c → scan (bases_of m d.frame) (input_at image d.frame) a ≡ cond c (Ok fde) nothing_found
        go fde has is b true c = scanned ∙ ap answer (found_first fdes fde a d.apart has c)
        go fde has is b false c = scanned ∙ ap answer (not_covered (λ g listed covers.
            let lies = covered g a covers in
            let start : p.0 ≡ fde.start = ap (λ (q : ℕ × ℕ). q.0) is in
            let from = b.starts in
            let order : g.start ≤ p.0 = b.last (pair_of d.frame g) (pair_listed g listed) lies.0 in
            let some = all_contains (λ (k : Fde). 0 < k.size) fdes fde d.nonempty has in
            let same : fde ≡ g = alone fdes fde g a d.apart has listed some (omega arith) (omega arith) covers in
            not_true (sym c ∙ ap (λ (k : Fde). covers_pc k a) same ∙ covers)))
          where
            not_true : false ≡ true → ⊥
            not_true h = absurd cc

    -- a search of the header table finds what a scan finds
    pub header_answers : BoundaryAnswers image m d.frame table.pairs a
    header_answers = go (boundary table.pairs a) refl
      where
        go : (o : Option (ℕ × ℕ)) → boundary table.pairs a ≡ o → MatchOption o (scan (bases_of m d.frame) (input_at image d.frame) a ≡ nothing_found) (AnswersBy image m d.frame a)
        go None e = at_none e
        go (Some p) e = at_some p e
