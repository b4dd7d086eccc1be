-- A check has one answer.
use Rattle.std.proofs.Common.{◌≡◌, ℕ, zero, suc, List, [], ◌∷◌, ◌++◌, Some, Ok, refl, sym, ap, subst, ◌∙◌, inl, inr, append_assoc}
use Rattle.std.proofs.lemmas.List.{append-nil}
use Rattle.memory_image.specs.Image.{Span}
use Rattle.unwind_definitions.specs.Input.{Input}
use Rattle.unwind_definitions.specs.Pointers.{Bases}
use Rattle.unwind_definitions.specs.Prologue.{SystemV}
use Rattle.unwind_definitions.specs.Entries.{ACie, AFde, Entry, Fde, Found, entry_at}
use Rattle.unwind_definitions.specs.Scan.{fdes_of}
use Rattle.unwind_definitions.specs.Function.{Function, IsFunction, Range}
use Rattle.unwind_definitions.specs.Module.{Tables}
use Rattle.fde_finders.specs.declared.custom.FrameInfo.{FrameInfo}
use Rattle.fde_finders.specs.FrameTables.{FrameTable}
use Rattle.table_check.specs.declared.reason.Reason.{Reason}
use Rattle.table_check.specs.declared.reason.Reason.TheVariants as reason
use Rattle.table_check.specs.declared.verdict.Verdict.{Verdict}
use Rattle.table_check.specs.declared.verdict.Verdict.TheVariants as verdict
use Rattle.table_check.specs.AllEntries.{AreAll}
use Rattle.table_check.specs.Descriptions.{HasCode, HasLanguage}
use Rattle.table_check.specs.First.{FailsFirst}
use Rattle.table_check.specs.Modules.{AreDescribed, tables_of}
use Rattle.table_check.specs.Ranges.{LeavesFirst, extents_of}
use Rattle.table_check.specs.Reasons.{Refuses, StandsSoFar}
use Rattle.table_check.specs.Scanned.{AllMayStand, IsDescribedAmong, IsFirstExtra, IsFirstRefused, IsRefused, MayStand, ReadBefore, StandBefore}
use Rattle.table_check.specs.Verdicts.{IsVerdict, RefusesDescriptions}
use Rattle.table_check.proofs.Apart.{all_once}
use Rattle.table_check.proofs.Concluding.{descriptions_not, fdes_in, leaves_not, one_table, reads_not, refused_not, refuses_not, same_found, whole_of}
use Rattle.table_check.proofs.Whole.{among, fails_not, may_stand_all}

-- ---- the first place at which something fails

fails_once : {X : Type 0} (P : X → Type 0) (xs : List X) (i j : ℕ) → FailsFirst P xs i → FailsFirst P xs j → i ≡ j
fails_once P [] i j a b = absurd a
fails_once P (x ∷ xs) zero zero a b = refl
fails_once P (x ∷ xs) zero (suc j) a b = absurd (a b.0)
fails_once P (x ∷ xs) (suc i) zero a b = absurd (b a.0)
fails_once P (x ∷ xs) (suc i) (suc j) a b = ap suc (fails_once P xs i j a.1 b.1)

leaves_once : (low high : ℕ) (ranges : List Range) (i j : ℕ) → LeavesFirst low high ranges i → LeavesFirst low high ranges j → i ≡ j
leaves_once low high [] i j a b = absurd a
leaves_once low high (r ∷ ranges) zero zero a b = refl
leaves_once low high (r ∷ ranges) zero (suc j) a b = absurd (a b.0)
leaves_once low high (r ∷ ranges) (suc i) zero a b = absurd (b a.0)
leaves_once low high (r ∷ ranges) (suc i) (suc j) a b = ap suc (leaves_once r.to high ranges i j a.1 b.1)

fde_same : (x y : Fde) → AFde x ≡ AFde y → x ≡ y
fde_same x y e = cc

module _ (bases : Bases) (table : Input) where
  refused_once : (from : ℕ) (b c : List Entry) (i j : ℕ) → StandBefore bases table from b i → IsRefused bases table i → StandBefore bases table from c j → IsRefused bases table j → i ≡ j
  refused_once from [] [] i j s x t y = sym s ∙ t
  refused_once from [] (e ∷ c) i j s x t y = absurd (reads_not bases table from e t.0 t.1 t.2 (subst (IsRefused bases table) (sym s) x))
  refused_once from (e ∷ b) [] i j s x t y = absurd (reads_not bases table from e s.0 s.1 s.2 (subst (IsRefused bases table) (sym t) y))
  refused_once from (e ∷ b) (f ∷ c) i j s x t y =
      let same = same_found bases table (record { entry = f; next = t.0 }) (record { entry = e; next = s.0 }) (sym t.1 ∙ s.1) in
      refused_once s.0 b c i j s.3 x (subst (λ (g : Found). StandBefore bases table g.next c j) same t.3) y

  module _ (functions : List Function) (x y : Fde) where
    -- neither description may stand after those of a front and those before it, all of which may
    record AreExtra (front : List Fde) (b c : List Entry) : Type 0 where
      this : MayStand functions (front ++ fdes_of b) x → ⊥
      before : AllMayStand functions front (fdes_of b)
      that : MayStand functions (front ++ fdes_of c) y → ⊥
      before_that : AllMayStand functions front (fdes_of c)

    one_later : (e : Entry) (front : List Fde) (b c : List Entry) → AreExtra front (e ∷ b) (e ∷ c) → (ahead : List Fde) × AreExtra ahead b c
    one_later (ACie cie) front b c a = (front, record { this = a.this; before = a.before; that = a.that; before_that = a.before_that })
    one_later (AFde z) front b c a = (
      front ++ z ∷ [],
      record {
        this = λ may. a.this (subst (λ l. MayStand functions l x) (append_assoc front (z ∷ []) (fdes_of b)) may);
        before = a.before.1;
        that = λ may. a.that (subst (λ l. MayStand functions l y) (append_assoc front (z ∷ []) (fdes_of c)) may);
        before_that = a.before_that.1;
      },
    )

    extra_same : (from : ℕ) (front : List Fde) (b c : List Entry) (i j m n : ℕ) → ReadBefore bases table from b i → entry_at bases table i ≡ Ok (Some (record { entry = AFde x; next = m })) →
        ReadBefore bases table from c j → entry_at bases table j ≡ Ok (Some (record { entry = AFde y; next = n })) → AreExtra front b c → x ≡ y
    extra_same from front [] [] i j m n s at t there a =
        fde_same x y (ap (λ (f : Found). f.entry) (same_found bases table (record { entry = AFde x; next = m }) (record { entry = AFde y; next = n }) (sym at ∙ ap (entry_at bases table) (sym s ∙ t) ∙ there)))
    extra_same from front [] (e ∷ c) i j m n s at t there a =
        let same = same_found bases table (record { entry = e; next = t.0 }) (record { entry = AFde x; next = m }) (sym t.1 ∙ ap (entry_at bases table) s ∙ at) in
        let here : AllMayStand functions front (fdes_of (AFde x ∷ c)) = subst (λ (f : Found). AllMayStand functions front (fdes_of (f.entry ∷ c))) same a.before_that in
        absurd (a.this (subst (λ l. MayStand functions l x) (sym (append-nil front)) here.0))
    extra_same from front (e ∷ b) [] i j m n s at t there a =
        let same = same_found bases table (record { entry = e; next = s.0 }) (record { entry = AFde y; next = n }) (sym s.1 ∙ ap (entry_at bases table) t ∙ there) in
        let here : AllMayStand functions front (fdes_of (AFde y ∷ b)) = subst (λ (f : Found). AllMayStand functions front (fdes_of (f.entry ∷ b))) same a.before in
        absurd (a.that (subst (λ l. MayStand functions l y) (sym (append-nil front)) here.0))
    extra_same from front (e ∷ b) (f ∷ c) i j m n s at t there a =
        let same = same_found bases table (record { entry = f; next = t.0 }) (record { entry = e; next = s.0 }) (sym t.1 ∙ s.1) in
        let both : AreExtra front (e ∷ b) (e ∷ c) = subst (λ (g : Found). AreExtra front (e ∷ b) (g.entry ∷ c)) same a in
        let rest = one_later e front b c both in
        extra_same s.0 rest.0 b c i j m n s.2 at (subst (λ (g : Found). ReadBefore bases table g.next c j) same t.2) there rest.1

  extra_once : (functions : List Function) (i j : ℕ) → IsFirstExtra bases table functions i → IsFirstExtra bases table functions j → i ≡ j
  extra_once functions i j a b =
      let same = extra_same functions a.fde b.fde 0 [] a.before b.before a.offset b.offset a.next b.next a.read a.there b.read b.there (record { this = a.extra; before = a.stand; that = b.extra; before_that = b.stand }) in
      sym a.starts ∙ ap (λ (x : Fde). x.start) same ∙ b.starts

-- ---- reasons

module _ (image : List Span) (start end : ℕ) (frame : FrameInfo) (functions : List Function) where
  entry_once : (i j : ℕ) → Refuses image start end frame functions (reason.Entry i) → Refuses image start end frame functions (reason.Entry j) → i ≡ j
  entry_once i j a b =
      let same = one_table a.1 b.1 (sym a.2 ∙ b.2) in
      let x = subst (λ (t : FrameTable). IsFirstRefused t.bases t.entries i) same a.3 in
      refused_once b.1.bases b.1.entries 0 x.before b.3.before i j x.stand x.refused b.3.stand b.3.refused

  described_once : (i j : ℕ) → Refuses image start end frame functions (reason.Extra i) → Refuses image start end frame functions (reason.Extra j) → i ≡ j
  described_once i j a b =
      let same = one_table a.1 b.1 (sym a.2 ∙ b.2) in
      extra_once b.1.bases b.1.entries functions i j (subst (λ (t : FrameTable). IsFirstExtra t.bases t.entries functions i) same a.3.1) b.3.1

  entry_not : (i j : ℕ) → Refuses image start end frame functions (reason.Entry i) → Refuses image start end frame functions (reason.Extra j) → ⊥
  entry_not i j a b =
      let same = one_table a.1 b.1 (sym a.2 ∙ b.2) in
      refused_not b.1.bases b.1.entries i (subst (λ (t : FrameTable). IsFirstRefused t.bases t.entries i) same a.3) b.3.0

  refuses_once : (r q : Reason) → Refuses image start end frame functions r → Refuses image start end frame functions q → r ≡ q
  refuses_once (reason.Claim i) (reason.Claim j) a b = ap reason.Claim (fails_once (IsFunction SystemV) functions i j a b)
  refuses_once (reason.Claim i) (reason.Range j) a b = absurd (fails_not (IsFunction SystemV) functions i a b.0)
  refuses_once (reason.Claim i) reason.Header a b = absurd (fails_not (IsFunction SystemV) functions i a b.0.each)
  refuses_once (reason.Claim i) (reason.Entry j) a b = absurd (fails_not (IsFunction SystemV) functions i a b.0.each)
  refuses_once (reason.Claim i) (reason.Extra j) a b = absurd (fails_not (IsFunction SystemV) functions i a b.0.each)
  refuses_once (reason.Claim i) (reason.Missing j) a b = absurd b
  refuses_once (reason.Claim i) (reason.Program j) a b = absurd b
  refuses_once (reason.Claim i) (reason.Sites j) a b = absurd b
  refuses_once (reason.Claim i) reason.HeaderTable a b = absurd b
  refuses_once (reason.Range i) (reason.Claim j) a b = absurd (fails_not (IsFunction SystemV) functions j b a.0)
  refuses_once (reason.Range i) (reason.Range j) a b = ap reason.Range (leaves_once start end (extents_of functions) i j a.1 b.1)
  refuses_once (reason.Range i) reason.Header a b = absurd (leaves_not start end (extents_of functions) i a.1 b.0.ranges)
  refuses_once (reason.Range i) (reason.Entry j) a b = absurd (leaves_not start end (extents_of functions) i a.1 b.0.ranges)
  refuses_once (reason.Range i) (reason.Extra j) a b = absurd (leaves_not start end (extents_of functions) i a.1 b.0.ranges)
  refuses_once (reason.Range i) (reason.Missing j) a b = absurd b
  refuses_once (reason.Range i) (reason.Program j) a b = absurd b
  refuses_once (reason.Range i) (reason.Sites j) a b = absurd b
  refuses_once (reason.Range i) reason.HeaderTable a b = absurd b
  refuses_once reason.Header (reason.Claim j) a b = absurd (fails_not (IsFunction SystemV) functions j b a.0.each)
  refuses_once reason.Header (reason.Range j) a b = absurd (leaves_not start end (extents_of functions) j b.1 a.0.ranges)
  refuses_once reason.Header reason.Header a b = refl
  refuses_once reason.Header (reason.Entry j) a b = (let no = sym a.1 ∙ b.2 in absurd cc)
  refuses_once reason.Header (reason.Extra j) a b = (let no = sym a.1 ∙ b.2 in absurd cc)
  refuses_once reason.Header (reason.Missing j) a b = absurd b
  refuses_once reason.Header (reason.Program j) a b = absurd b
  refuses_once reason.Header (reason.Sites j) a b = absurd b
  refuses_once reason.Header reason.HeaderTable a b = absurd b
  refuses_once (reason.Entry i) (reason.Claim j) a b = absurd (fails_not (IsFunction SystemV) functions j b a.0.each)
  refuses_once (reason.Entry i) (reason.Range j) a b = absurd (leaves_not start end (extents_of functions) j b.1 a.0.ranges)
  refuses_once (reason.Entry i) reason.Header a b = (let no = sym b.1 ∙ a.2 in absurd cc)
  refuses_once (reason.Entry i) (reason.Entry j) a b = ap reason.Entry (entry_once i j a b)
  refuses_once (reason.Entry i) (reason.Extra j) a b = absurd (entry_not i j a b)
  refuses_once (reason.Entry i) (reason.Missing j) a b = absurd b
  refuses_once (reason.Entry i) (reason.Program j) a b = absurd b
  refuses_once (reason.Entry i) (reason.Sites j) a b = absurd b
  refuses_once (reason.Entry i) reason.HeaderTable a b = absurd b
  refuses_once (reason.Extra i) (reason.Claim j) a b = absurd (fails_not (IsFunction SystemV) functions j b a.0.each)
  refuses_once (reason.Extra i) (reason.Range j) a b = absurd (leaves_not start end (extents_of functions) j b.1 a.0.ranges)
  refuses_once (reason.Extra i) reason.Header a b = (let no = sym b.1 ∙ a.2 in absurd cc)
  refuses_once (reason.Extra i) (reason.Entry j) a b = absurd (entry_not j i b a)
  refuses_once (reason.Extra i) (reason.Extra j) a b = ap reason.Extra (described_once i j a b)
  refuses_once (reason.Extra i) (reason.Missing j) a b = absurd b
  refuses_once (reason.Extra i) (reason.Program j) a b = absurd b
  refuses_once (reason.Extra i) (reason.Sites j) a b = absurd b
  refuses_once (reason.Extra i) reason.HeaderTable a b = absurd b
  refuses_once (reason.Missing i) q a b = absurd a
  refuses_once (reason.Program i) q a b = absurd a
  refuses_once (reason.Sites i) q a b = absurd a
  refuses_once reason.HeaderTable q a b = absurd a

descriptions_once : (image : List Span) (bases : Bases) (fdes : List Fde) (tables : Tables) (frame : ℕ) (functions : List Function) (r q : Reason) → RefusesDescriptions image bases fdes tables frame functions r → RefusesDescriptions image bases fdes tables frame functions q → r ≡ q
descriptions_once image bases fdes tables frame functions (reason.Claim i) q a b = absurd a
descriptions_once image bases fdes tables frame functions (reason.Range i) q a b = absurd a
descriptions_once image bases fdes tables frame functions reason.Header q a b = absurd a
descriptions_once image bases fdes tables frame functions (reason.Entry i) q a b = absurd a
descriptions_once image bases fdes tables frame functions (reason.Extra i) q a b = absurd a
descriptions_once image bases fdes tables frame functions (reason.Missing i) (reason.Claim j) a b = absurd b
descriptions_once image bases fdes tables frame functions (reason.Missing i) (reason.Range j) a b = absurd b
descriptions_once image bases fdes tables frame functions (reason.Missing i) reason.Header a b = absurd b
descriptions_once image bases fdes tables frame functions (reason.Missing i) (reason.Entry j) a b = absurd b
descriptions_once image bases fdes tables frame functions (reason.Missing i) (reason.Extra j) a b = absurd b
descriptions_once image bases fdes tables frame functions (reason.Missing i) (reason.Missing j) a b = ap reason.Missing (fails_once (IsDescribedAmong fdes) functions i j a b)
descriptions_once image bases fdes tables frame functions (reason.Missing i) (reason.Program j) a b = absurd (fails_not (IsDescribedAmong fdes) functions i a b.0)
descriptions_once image bases fdes tables frame functions (reason.Missing i) (reason.Sites j) a b = absurd (fails_not (IsDescribedAmong fdes) functions i a (among image bases fdes functions b.0))
descriptions_once image bases fdes tables frame functions (reason.Missing i) reason.HeaderTable a b = absurd (fails_not (IsDescribedAmong fdes) functions i a (among image bases fdes functions b.0))
descriptions_once image bases fdes tables frame functions (reason.Program i) (reason.Claim j) a b = absurd b
descriptions_once image bases fdes tables frame functions (reason.Program i) (reason.Range j) a b = absurd b
descriptions_once image bases fdes tables frame functions (reason.Program i) reason.Header a b = absurd b
descriptions_once image bases fdes tables frame functions (reason.Program i) (reason.Entry j) a b = absurd b
descriptions_once image bases fdes tables frame functions (reason.Program i) (reason.Extra j) a b = absurd b
descriptions_once image bases fdes tables frame functions (reason.Program i) (reason.Missing j) a b = absurd (fails_not (IsDescribedAmong fdes) functions j b a.0)
descriptions_once image bases fdes tables frame functions (reason.Program i) (reason.Program j) a b = ap reason.Program (fails_once (HasCode image bases fdes) functions i j a.1 b.1)
descriptions_once image bases fdes tables frame functions (reason.Program i) (reason.Sites j) a b = absurd (fails_not (HasCode image bases fdes) functions i a.1 b.0)
descriptions_once image bases fdes tables frame functions (reason.Program i) reason.HeaderTable a b = absurd (fails_not (HasCode image bases fdes) functions i a.1 b.0)
descriptions_once image bases fdes tables frame functions (reason.Sites i) (reason.Claim j) a b = absurd b
descriptions_once image bases fdes tables frame functions (reason.Sites i) (reason.Range j) a b = absurd b
descriptions_once image bases fdes tables frame functions (reason.Sites i) reason.Header a b = absurd b
descriptions_once image bases fdes tables frame functions (reason.Sites i) (reason.Entry j) a b = absurd b
descriptions_once image bases fdes tables frame functions (reason.Sites i) (reason.Extra j) a b = absurd b
descriptions_once image bases fdes tables frame functions (reason.Sites i) (reason.Missing j) a b = absurd (fails_not (IsDescribedAmong fdes) functions j b (among image bases fdes functions a.0))
descriptions_once image bases fdes tables frame functions (reason.Sites i) (reason.Program j) a b = absurd (fails_not (HasCode image bases fdes) functions j b.1 a.0)
descriptions_once image bases fdes tables frame functions (reason.Sites i) (reason.Sites j) a b = ap reason.Sites (fails_once (HasLanguage image bases fdes) functions i j a.1 b.1)
descriptions_once image bases fdes tables frame functions (reason.Sites i) reason.HeaderTable a b = absurd (fails_not (HasLanguage image bases fdes) functions i a.1 b.1)
descriptions_once image bases fdes tables frame functions reason.HeaderTable (reason.Claim j) a b = absurd b
descriptions_once image bases fdes tables frame functions reason.HeaderTable (reason.Range j) a b = absurd b
descriptions_once image bases fdes tables frame functions reason.HeaderTable reason.Header a b = absurd b
descriptions_once image bases fdes tables frame functions reason.HeaderTable (reason.Entry j) a b = absurd b
descriptions_once image bases fdes tables frame functions reason.HeaderTable (reason.Extra j) a b = absurd b
descriptions_once image bases fdes tables frame functions reason.HeaderTable (reason.Missing j) a b = absurd (fails_not (IsDescribedAmong fdes) functions j b (among image bases fdes functions a.0))
descriptions_once image bases fdes tables frame functions reason.HeaderTable (reason.Program j) a b = absurd (fails_not (HasCode image bases fdes) functions j b.1 a.0)
descriptions_once image bases fdes tables frame functions reason.HeaderTable (reason.Sites j) a b = absurd (fails_not (HasLanguage image bases fdes) functions j b.1 a.1)
descriptions_once image bases fdes tables frame functions reason.HeaderTable reason.HeaderTable a b = refl

-- ---- the verdict

module _ (image : List Span) (start end : ℕ) (frame : FrameInfo) (functions : List Function) where
  abbrev IsRefusing : StandsSoFar image start end frame functions → Reason → Type 0
  IsRefusing s r = RefusesDescriptions image s.table.bases (fdes_in image start end frame functions s) (tables_of frame.kind) s.table.entries.base functions r

  -- what is refused beside one table that is named is refused beside the other, which is the same
  refuses_same : (s t : StandsSoFar image start end frame functions) (r : Reason) → IsRefusing s r → IsRefusing t r
  refuses_same s t r refuses =
      let same = one_table s.table t.table (sym s.named ∙ t.named) in
      let all : AreAll t.table.bases t.table.entries s.beside.descriptions.entries = subst (λ (x : FrameTable). AreAll x.bases x.entries s.beside.descriptions.entries) same (may_stand_all s.table.bases s.table.entries functions s.beside.descriptions) in
      let once = all_once t.table.bases t.table.entries s.beside.descriptions.entries t.beside.descriptions.entries all (may_stand_all t.table.bases t.table.entries functions t.beside.descriptions) in
      let there = subst (λ (x : FrameTable). RefusesDescriptions image x.bases (fdes_in image start end frame functions s) (tables_of frame.kind) x.entries.base functions r) same refuses in
      subst (λ (es : List Entry). RefusesDescriptions image t.table.bases (fdes_of es) (tables_of frame.kind) t.table.entries.base functions r) once there

  no_not : (r : Reason) → IsVerdict image start end frame functions (verdict.No r) → AreDescribed image start end frame functions → ⊥
  no_not r (inl refuses) described = refuses_not image start end frame functions r refuses (whole_of image start end frame functions described).stand
  no_not r (inr refuses) described =
      let whole = whole_of image start end frame functions described in
      let s = whole.stand in
      descriptions_not image s.table.bases (fdes_in image start end frame functions s) (tables_of frame.kind) s.table.entries.base functions r (refuses_same refuses.stand s r refuses.refuses) whole.all

  reason_once : (r q : Reason) → IsVerdict image start end frame functions (verdict.No r) → IsVerdict image start end frame functions (verdict.No q) → r ≡ q
  reason_once r q (inl a) (inl b) = refuses_once image start end frame functions r q a b
  reason_once r q (inl a) (inr b) = absurd (refuses_not image start end frame functions r a b.stand)
  reason_once r q (inr a) (inl b) = absurd (refuses_not image start end frame functions q b a.stand)
  reason_once r q (inr a) (inr b) =
      let s = b.stand in
      descriptions_once image s.table.bases (fdes_in image start end frame functions s) (tables_of frame.kind) s.table.entries.base functions r q (refuses_same a.stand s r a.refuses) b.refuses

  pub verdict_once : (v w : Verdict) → IsVerdict image start end frame functions v → IsVerdict image start end frame functions w → v ≡ w
  verdict_once verdict.Yes verdict.Yes a b = refl
  verdict_once verdict.Yes (verdict.No r) a b = absurd (no_not r b a)
  verdict_once (verdict.No r) verdict.Yes a b = absurd (no_not r a b)
  verdict_once (verdict.No r) (verdict.No q) a b = ap verdict.No (reason_once r q a b)
