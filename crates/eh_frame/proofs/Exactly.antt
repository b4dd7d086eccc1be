-- A table that is prepared is none that can't be.
use Rattle.std.proofs.Common.{◌≡◌, ℕ, ◌+◌, ◌≤◌, Bool, true, false, cond, List, [], ◌∷◌, length, map, Option, Some, None, Result, Ok, Err, refl, sym, ap, ◌∙◌, subst, inl, inr, arith}
use Rattle.std.specs.Prelude.{IfSome}
use Rattle.std.specs.List.{AllByRecursion, count_by}
use Rattle.std.proofs.lemmas.List.{length-map}
use Rattle.std.proofs.lemmas.List.Sums.{sum_by-cons}
use Rattle.std.proofs.lemmas.List.Sorted.{length_permutation, sum_by-IsPermutation}
use Rattle.unwind_definitions.specs.declared.error.Error.{Error as Fault}
use Rattle.unwind_definitions.specs.Input.{Input}
use Rattle.unwind_definitions.specs.Pointers.{Bases}
use Rattle.unwind_definitions.specs.Entries.{Fde, Entry, Found, AreEntries, entry_at}
use Rattle.unwind_definitions.specs.Row.{covers_pc}
use Rattle.eh_frame.specs.Index.{AscendApart, CannotBePrepared, Index, IsPreparedFrom, IsUnfit, Prepares, described_fde, end_of}
use Rattle.eh_frame.specs.Listed.{nonempty}
use Rattle.eh_frame.specs.Search.{Precede}
use Rattle.eh_frame.proofs.Ascending.{all_above, covered}

module _ (bases : Bases) (table : Input) where
  -- a table reads once
  same_entries : (from : ℕ) (es fs : List Entry) → AreEntries bases table from es → AreEntries bases table from fs → es ≡ fs
  same_entries from [] [] a b = refl
  same_entries from [] (f ∷ fs) a b = absurd (let c = sym a ∙ b.1 in cc)
  same_entries from (e ∷ es) [] a b = absurd (let c = sym a.1 ∙ b in cc)
  same_entries from (e ∷ es) (f ∷ fs) a b =
      let one : ◌≡◌ {A = Result (Option Found) Fault} (Ok (Some (record { entry = e; next = a.0 }))) (Ok (Some (record { entry = f; next = b.0 }))) = sym a.1 ∙ b.1 in
      let both : ◌≡◌ {A = Found} (record { entry = e; next = a.0 }) (record { entry = f; next = b.0 }) = cc in
      let same = ap (λ (g : Found). g.entry) both in
      let next = ap (λ (g : Found). g.next) both in
      ap (λ x. x ∷ es) same ∙ ap (λ (l : List Entry). f ∷ l) (same_entries b.0 es fs (subst (λ n. AreEntries bases table n es) next a.2) b.2)

  none_unread : (from : ℕ) (es before : List Entry) (offset : ℕ) (e : Fault) → AreEntries bases table from es → Precede bases table from before offset → entry_at bases table offset ≡ Err e → ⊥
  none_unread from [] [] offset e are precede unread = let c = sym are ∙ ap (entry_at bases table) precede ∙ unread in cc
  none_unread from (g ∷ es) [] offset e are precede unread = let c = sym are.1 ∙ ap (entry_at bases table) precede ∙ unread in cc
  none_unread from [] (b ∷ bs) offset e are precede unread = let c = sym are ∙ precede.1 in cc
  none_unread from (g ∷ es) (b ∷ bs) offset e are precede unread =
      let one : ◌≡◌ {A = Result (Option Found) Fault} (Ok (Some (record { entry = g; next = are.0 }))) (Ok (Some (record { entry = b; next = precede.0 }))) = sym are.1 ∙ precede.1 in
      let both : ◌≡◌ {A = Found} (record { entry = g; next = are.0 }) (record { entry = b; next = precede.0 }) = cc in
      let next = ap (λ (g : Found). g.next) both in
      none_unread precede.0 es bs offset e (subst (λ n. AreEntries bases table n es) next are.2) precede.2 unread

-- ---- of ranges that lie apart one at most contains an address

module _ {X : Type 0} (fde : X → Fde) (pc : ℕ) where
  count_none : (xs : List X) → AllByRecursion (λ x. covers_pc (fde x) pc ≡ false) xs → count_by (λ f. covers_pc f pc) (map fde xs) ≡ 0
  count_none [] all = refl
  count_none (x ∷ xs) all = sum_by-cons (λ f. cond (covers_pc f pc) 1 0) (fde x) (map fde xs) ∙ ap (λ b. cond b 1 0 + count_by (λ f. covers_pc f pc) (map fde xs)) all.0 ∙ (let n = count_none xs all.1 in omega arith)

  count_apart : (xs : List X) (low : ℕ) → AscendApart fde low xs → count_by (λ f. covers_pc f pc) (map fde xs) ≤ 1
  count_apart [] low apart = omega arith
  count_apart (x ∷ xs) low apart = go (covers_pc (fde x) pc) refl (count_apart xs (end_of (fde x)) apart.2)
    where
      go : (b : Bool) → covers_pc (fde x) pc ≡ b → count_by (λ f. covers_pc f pc) (map fde xs) ≤ 1 → count_by (λ f. covers_pc f pc) (map fde (x ∷ xs)) ≤ 1
      go true is rest =
          let s = sum_by-cons (λ f. cond (covers_pc f pc) 1 0) (fde x) (map fde xs) ∙ ap (λ b. cond b 1 0 + count_by (λ f. covers_pc f pc) (map fde xs)) is in
          let inside = (covered (fde x) pc is).1 in
          let n = count_none xs (all_above fde xs (end_of (fde x)) pc apart.2 inside) in omega arith
      go false is rest =
          let s = sum_by-cons (λ f. cond (covers_pc f pc) 1 0) (fde x) (map fde xs) ∙ ap (λ b. cond b 1 0 + count_by (λ f. covers_pc f pc) (map fde xs)) is in omega arith

pub can_be : (bases : Bases) (table : Input) (rows rules : ℕ) (index : Index) → IsPreparedFrom bases table index → index.row_count ≤ rows → index.rule_count ≤ rules → CannotBePrepared bases table rows rules → ⊥
can_be bases table rows rules index from rows_fit rules_fit (inl u) = none_unread bases table 0 from.entries u.before u.offset u.fault from.are u.precede u.unread
can_be bases table rows rules index from rows_fit rules_fit (inr h) =
    go (subst (λ (l : List Entry). IsUnfit bases rows rules (nonempty l)) (same_entries bases table 0 h.entries from.entries h.are from.are) h.unfit)
  where
    go : IsUnfit bases rows rules (nonempty from.entries) → ⊥
    go (inl none) =
        let n = length_permutation (nonempty from.entries) (map described_fde index.functions) from.each in
        let m = length-map index.functions described_fde in
        let z = ap length none in let s = from.some in omega arith
    go (inr (inl both)) =
        let n = sum_by-IsPermutation (λ f. cond (covers_pc f both.0) 1 0) (nonempty from.entries) (map described_fde index.functions) from.each in
        let one = count_apart described_fde both.0 index.functions 0 from.apart in
        let two = both.1 in omega arith
    go (inr (inr (inl more))) = let n = from.row_count in omega arith
    go (inr (inr (inr more))) = let n = from.rule_count in omega arith

pub fits : (bases : Bases) (table : Input) (rows rules : ℕ) (o : Option Index) → Prepares bases table rows rules o → IfSome o (λ _. ¬ CannotBePrepared bases table rows rules)
fits bases table rows rules (Some index) p = can_be bases table rows rules index p.0 p.1 p.2
fits bases table rows rules None p = tt
