-- Descriptions that may stand beside those before them.
use Rattle.std.proofs.Common.{◌≡◌, ℕ, suc, ◌≤◌, List, [], ◌∷◌, ◌++◌, length, Option, Some, None, Result, Ok, Err, refl, sym, ap, subst, ◌∙◌, inl, arith, append_assoc}
use Rattle.std.specs.List.{AllByRecursion}
use Rattle.std.proofs.lemmas.List.{append-nil}
use Rattle.unwind_definitions.specs.declared.error.Error.{Error as Fault}
use Rattle.unwind_definitions.specs.Input.{Input}
use Rattle.unwind_definitions.specs.Pointers.{Bases}
use Rattle.unwind_definitions.specs.Entries.{Cie, Fde, Entry, ACie, AFde, Found, entry_at}
use Rattle.unwind_definitions.specs.Scan.{fdes_of}
use Rattle.unwind_definitions.specs.Function.{Function}
use Rattle.table_check.specs.Scanned.{AllMayStand, EndsBy, IsApartFrom, MayStand, ReadBefore}

abbrev pub found_in : Found → Result (Option Found) Fault → Found
found_in d (Ok (Some f)) = f
found_in d (Ok None) = d
found_in d (Err x) = d

-- ---- one more

pub fdes_cie : (before : List Entry) (cie : Cie) → fdes_of (before ++ ACie cie ∷ []) ≡ fdes_of before
fdes_cie [] cie = refl
fdes_cie (ACie x ∷ before) cie = fdes_cie before cie
fdes_cie (AFde x ∷ before) cie = ap (λ l. x ∷ l) (fdes_cie before cie)

pub fdes_fde : (before : List Entry) (fde : Fde) → fdes_of (before ++ AFde fde ∷ []) ≡ fdes_of before ++ fde ∷ []
fdes_fde [] fde = refl
fdes_fde (ACie x ∷ before) fde = fdes_fde before fde
fdes_fde (AFde x ∷ before) fde = ap (λ l. x ∷ l) (fdes_fde before fde)

stand_after : (functions : List Function) (first later : List Fde) (fde : Fde) → AllMayStand functions first later → MayStand functions (first ++ later) fde → AllMayStand functions first (later ++ fde ∷ [])
stand_after functions first [] fde all may = (subst (λ l. MayStand functions l fde) (append-nil first) may, tt)
stand_after functions first (x ∷ later) fde all may = (all.0, stand_after functions (first ++ x ∷ []) later fde all.1 (subst (λ l. MayStand functions l fde) (sym (append_assoc first (x ∷ []) later)) may))

pub stand_more : (functions : List Function) (fdes : List Fde) (fde : Fde) → AllMayStand functions [] fdes → MayStand functions fdes fde → AllMayStand functions [] (fdes ++ fde ∷ [])
stand_more functions fdes fde all may = stand_after functions [] fdes fde all may

pub ends_higher : (low high : ℕ) (fdes : List Fde) → low ≤ high → AllByRecursion (EndsBy low) fdes → AllByRecursion (EndsBy high) fdes
ends_higher low high [] le all = tt
ends_higher low high (x ∷ fdes) le all = (let a = all.0 in omega (arith, a, le), ends_higher low high fdes le all.1)

pub ends_more : (high : ℕ) (fdes : List Fde) (fde : Fde) → AllByRecursion (EndsBy high) fdes → EndsBy high fde → AllByRecursion (EndsBy high) (fdes ++ fde ∷ [])
ends_more high [] fde all by = (by, tt)
ends_more high (x ∷ fdes) fde all by = (all.0, ends_more high fdes fde all.1 by)

pub apart_after : (high : ℕ) (fdes : List Fde) (fde : Fde) → AllByRecursion (EndsBy high) fdes → high ≤ fde.start → AllByRecursion (IsApartFrom fde) fdes
apart_after high [] fde all le = tt
apart_after high (x ∷ fdes) fde all le = (inl (let a = all.0 in omega (arith, a, le)), apart_after high fdes fde all.1 le)

pub fdes_more : (before : List Entry) (e : Entry) → fdes_of (before ++ e ∷ []) ≡ fdes_of before ++ fdes_of (e ∷ [])
fdes_more before (ACie cie) = fdes_cie before cie ∙ sym (append-nil (fdes_of before))
fdes_more before (AFde fde) = fdes_fde before fde

pub stands_more : (functions : List Function) (before : List Entry) (e : Entry) → AllMayStand functions [] (fdes_of before) → AllMayStand functions (fdes_of before) (fdes_of (e ∷ [])) → AllMayStand functions [] (fdes_of (before ++ e ∷ []))
stands_more functions before (ACie cie) all one = subst (AllMayStand functions []) (sym (fdes_cie before cie)) all
stands_more functions before (AFde fde) all one = subst (AllMayStand functions []) (sym (fdes_fde before fde)) (stand_more functions (fdes_of before) fde all one.0)

pub ends_join : (low high : ℕ) (before : List Entry) (e : Entry) → low ≤ high → AllByRecursion (EndsBy low) (fdes_of before) → AllByRecursion (EndsBy high) (fdes_of (e ∷ [])) → AllByRecursion (EndsBy high) (fdes_of (before ++ e ∷ []))
ends_join low high before (ACie cie) le all one = subst (AllByRecursion (EndsBy high)) (sym (fdes_cie before cie)) (ends_higher low high (fdes_of before) le all)
ends_join low high before (AFde fde) le all one = subst (AllByRecursion (EndsBy high)) (sym (fdes_fde before fde)) (ends_more high (fdes_of before) fde (ends_higher low high (fdes_of before) le all) one.0)

module _ (bases : Bases) (table : Input) where
  pub read_more : (from : ℕ) (before : List Entry) (offset next : ℕ) (e : Entry) → ReadBefore bases table from before offset → entry_at bases table offset ≡ Ok (Some (record { entry = e; next = next })) → ReadBefore bases table from (before ++ e ∷ []) next
  read_more from [] offset next e stand at = (next, ap (entry_at bases table) stand ∙ at, refl)
  read_more from (x ∷ before) offset next e stand at = (stand.0, stand.1, read_more stand.0 before offset next e stand.2 at)

  module _ (fde : Fde) where
    -- of the entries before a description some are left, the others of which it is apart from
    pub record AreLeft (all : List Entry) (end cur left : ℕ) : Type 0 where
      pub rest : List Entry
      pub count : length rest ≡ left
      pub read : ReadBefore bases table cur rest end
      pub whole : AllByRecursion (IsApartFrom fde) (fdes_of rest) → AllByRecursion (IsApartFrom fde) (fdes_of all)
      pub part : AllByRecursion (IsApartFrom fde) (fdes_of all) → AllByRecursion (IsApartFrom fde) (fdes_of rest)

    pub all_left : (all : List Entry) (end : ℕ) → ReadBefore bases table 0 all end → AreLeft all end 0 (length all)
    all_left all end read = record { rest = all; count = refl; read = read; whole = λ h. h; part = λ h. h }

    pub none_left : (all : List Entry) (end cur : ℕ) → AreLeft all end cur 0 → AllByRecursion (IsApartFrom fde) (fdes_of all)
    none_left all end cur left = left.whole (empty left.rest left.count)
      where
        empty : (rest : List Entry) → length rest ≡ 0 → AllByRecursion (IsApartFrom fde) (fdes_of rest)
        empty [] is = tt
        empty (x ∷ rest) is = absurd (omega arith)

    -- one is left, and reads
    record IsFirstLeft (all : List Entry) (end cur left : ℕ) (e : Entry) (next : ℕ) : Type 0 where
      others : List Entry
      count : length others ≡ left
      read : ReadBefore bases table next others end
      whole : AllByRecursion (IsApartFrom fde) (fdes_of (e ∷ others)) → AllByRecursion (IsApartFrom fde) (fdes_of all)
      part : AllByRecursion (IsApartFrom fde) (fdes_of all) → AllByRecursion (IsApartFrom fde) (fdes_of (e ∷ others))

    first_left : (all : List Entry) (end cur left : ℕ) (e : Entry) (next : ℕ) → AreLeft all end cur (suc left) → entry_at bases table cur ≡ Ok (Some (record { entry = e; next = next })) → IsFirstLeft all end cur left e next
    first_left all end cur left e next l at = go l.rest l.count l.read l.whole l.part
      where
        go : (rest : List Entry) → length rest ≡ suc left → ReadBefore bases table cur rest end → (AllByRecursion (IsApartFrom fde) (fdes_of rest) → AllByRecursion (IsApartFrom fde) (fdes_of all)) → (AllByRecursion (IsApartFrom fde) (fdes_of all) → AllByRecursion (IsApartFrom fde) (fdes_of rest)) → IsFirstLeft all end cur left e next
        go [] count read whole part = absurd (omega arith)
        go (x ∷ rest) count read whole part =
            let f : Found = record { entry = e; next = next } in
            let g : Found = record { entry = x; next = read.0 } in
            let same : g ≡ f = ap (found_in g) (sym read.1 ∙ at) in record {
              others = rest;
              count = omega arith;
              read = subst (λ (h : Found). ReadBefore bases table h.next rest end) same read.2;
              whole = subst (λ (h : Found). AllByRecursion (IsApartFrom fde) (fdes_of (h.entry ∷ rest)) → AllByRecursion (IsApartFrom fde) (fdes_of all)) same whole;
              part = subst (λ (h : Found). AllByRecursion (IsApartFrom fde) (fdes_of all) → AllByRecursion (IsApartFrom fde) (fdes_of (h.entry ∷ rest))) same part;
            }

    joined : (e : Entry) (others : List Entry) → AllByRecursion (IsApartFrom fde) (fdes_of (e ∷ [])) → AllByRecursion (IsApartFrom fde) (fdes_of others) → AllByRecursion (IsApartFrom fde) (fdes_of (e ∷ others))
    joined (ACie cie) others one rest = rest
    joined (AFde x) others one rest = (one.0, rest)

    first_of : (e : Entry) (others : List Entry) → AllByRecursion (IsApartFrom fde) (fdes_of (e ∷ others)) → AllByRecursion (IsApartFrom fde) (fdes_of (e ∷ []))
    first_of (ACie cie) others all = tt
    first_of (AFde x) others all = (all.0, tt)

    others_of : (e : Entry) (others : List Entry) → AllByRecursion (IsApartFrom fde) (fdes_of (e ∷ others)) → AllByRecursion (IsApartFrom fde) (fdes_of others)
    others_of (ACie cie) others all = all
    others_of (AFde x) others all = all.1

    pub left_after : (all : List Entry) (end cur left next : ℕ) (e : Entry) → AreLeft all end cur (suc left) → entry_at bases table cur ≡ Ok (Some (record { entry = e; next = next })) → AllByRecursion (IsApartFrom fde) (fdes_of (e ∷ [])) → AreLeft all end next left
    left_after all end cur left next e l at apart = let f = first_left all end cur left e next l at in record { rest = f.others; count = f.count; read = f.read; whole = λ h. f.whole (joined e f.others apart h); part = λ h. others_of e f.others (f.part h) }

    pub not_apart : (all : List Entry) (end cur left next : ℕ) (e : Entry) → AreLeft all end cur (suc left) → entry_at bases table cur ≡ Ok (Some (record { entry = e; next = next })) → (AllByRecursion (IsApartFrom fde) (fdes_of (e ∷ [])) → ⊥) → AllByRecursion (IsApartFrom fde) (fdes_of all) → ⊥
    not_apart all end cur left next e l at meets h = let f = first_left all end cur left e next l at in meets (first_of e f.others (f.part h))

    pub not_over : (all : List Entry) (end cur left : ℕ) → AreLeft all end cur (suc left) → ((e : Entry) (next : ℕ) → entry_at bases table cur ≡ Ok (Some (record { entry = e; next = next })) → ⊥) → ⊥
    not_over all end cur left l over = go l.rest l.count l.read
      where
        go : (rest : List Entry) → length rest ≡ suc left → ReadBefore bases table cur rest end → ⊥
        go [] count read = omega arith
        go (x ∷ rest) count read = over x read.0 read.1
