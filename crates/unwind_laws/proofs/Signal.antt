-- An emitted common description has no mark of a signal's frame.
use Rattle.std.proofs.Common.{◌≡◌, ℕ, ◌+◌, ◌-◌, Bool, true, false, cond, ltb, List, [], ◌∷◌, ◌^◌, Option, Some, None, Result, Ok, Err, refl, sym, ap, subst, ◌∙◌, inl, inr}
use Rattle.std.specs.Prelude.{◌⊎◌, ◌==◌, nat_le}
use Rattle.std.specs.List.{Contains}
use Rattle.std.specs.Int.{w8, w32}
use Rattle.memory_image.specs.Image.{Span}
use Rattle.unwind_definitions.specs.declared.error.Error.{Error as Fault}
use Rattle.unwind_definitions.specs.declared.error.Error.TheVariants.{NotCie, UnknownVersion, UnknownAugmentation, AddressOverflow}
use Rattle.unwind_definitions.specs.Faults.{◌>>=◌, unless}
use Rattle.unwind_definitions.specs.Augmentation.{is_version, is_augmentation}
use Rattle.unwind_definitions.specs.Input.{Input, skip, number, uleb, sleb, split, text}
use Rattle.unwind_definitions.specs.Pointers.{Bases, encoding, pointer, direct, value, format_of}
use Rattle.unwind_definitions.specs.Entries.{Letters, letter, letters_from, no_letters, augmentation_data, Cie, Fde, Entry, ACie, AFde, Found, AreEntries, entry_at, entry_in, found_in, cie_at, cie_in, cie_body, fde_body, fde_data, sizes, return_column, body, address_encoding}
use Rattle.unwind_definitions.specs.Scan.{fdes_of}
use Rattle.unwind_definitions.specs.FrameTable.{IsEmittedAugmentation, IsEmittedCie}
use Rattle.unwind_laws.specs.Found.{CieRead, FdeRead}
use Rattle.unwind_laws.proofs.Booleans.{here_or_later, none_in_nil}

-- what a reading that succeeded read first
pub bound : {A B : Type 0} (r : Result A Fault) (f : A → Result B Fault) (y : B) → (r >>= f) ≡ Ok y → (x : A) × (r ≡ Ok x) × (f x ≡ Ok y)
bound (Ok x) f y e = (x, refl, e)
bound (Err d) f y e = absurd cc

pub ok_same : {A : Type 0} (x y : A) → ◌≡◌ {A = Result A Fault} (Ok x) (Ok y) → x ≡ y
ok_same x y e = cc

keeps_R : (bases : Bases) (before : Letters) (c : Input) (r : Letters × Input) → letter bases 0x52 before c ≡ Ok r → r.0.signal ≡ before.signal
keeps_R bases before c r e = let b = bound (encoding c) _ r e in ap (λ (q : Letters × Input). q.0.signal) (sym (ok_same _ _ b.2))

keeps_L : (bases : Bases) (before : Letters) (c : Input) (r : Letters × Input) → letter bases 0x4c before c ≡ Ok r → r.0.signal ≡ before.signal
keeps_L bases before c r e = let b = bound (encoding c) _ r e in ap (λ (q : Letters × Input). q.0.signal) (sym (ok_same _ _ b.2))

keeps_P : (bases : Bases) (before : Letters) (c : Input) (r : Letters × Input) → letter bases 0x50 before c ≡ Ok r → r.0.signal ≡ before.signal
keeps_P bases before c r e = let b = bound (encoding c) _ r e in let d = bound (pointer b.0.0 bases b.0.1) _ r b.2 in ap (λ (q : Letters × Input). q.0.signal) (sym (ok_same _ _ d.2))

keeps : (bases : Bases) (l : ℕ) (ls : List ℕ) (before : Letters) (c : Input) (got : Letters) → ((r : Letters × Input) → letter bases l before c ≡ Ok r → r.0.signal ≡ before.signal) →
    ((r : Letters × Input) → letters_from bases ls r.0 r.1 ≡ Ok got → got.signal ≡ r.0.signal) → letters_from bases (l ∷ ls) before c ≡ Ok got → got.signal ≡ before.signal
keeps bases l ls before c got one rest e = let b = bound (letter bases l before c) (λ r. letters_from bases ls r.0 r.1) got e in rest b.0 b.2 ∙ one b.0 b.1

after_R : (bases : Bases) (before : Letters) (c : Input) (got : Letters) → letters_from bases (0x52 ∷ []) before c ≡ Ok got → got.signal ≡ before.signal
after_R bases before c got e = keeps bases 0x52 [] before c got (keeps_R bases before c) (λ r h. ap (λ (q : Letters). q.signal) (sym (ok_same _ _ h))) e

after_LR : (bases : Bases) (before : Letters) (c : Input) (got : Letters) → letters_from bases (0x4c ∷ 0x52 ∷ []) before c ≡ Ok got → got.signal ≡ before.signal
after_LR bases before c got e = keeps bases 0x4c (0x52 ∷ []) before c got (keeps_L bases before c) (λ r h. after_R bases r.0 r.1 got h) e

of_data : (bases : Bases) (ls : List ℕ) (c : Input) (r : Letters × Input) → ((block : Input) (got : Letters) → letters_from bases ls no_letters block ≡ Ok got → got.signal ≡ false) → augmentation_data bases (0x7a ∷ ls) c ≡ Ok r → r.0.signal ≡ false
of_data bases ls c r h e =
    let a = bound (uleb c) _ r e in
    let b = bound (split a.0.0 a.0.1) _ r a.2 in
    let d = bound (letters_from bases ls no_letters b.0.0) _ r b.2 in
    ap (λ (q : Letters × Input). q.0.signal) (sym (ok_same _ _ d.2)) ∙ h _ _ d.1

of_text : (bases : Bases) (letters : List ℕ) (c : Input) (r : Letters × Input) → (letters ≡ 0x7a ∷ 0x52 ∷ []) ⊎ (letters ≡ 0x7a ∷ 0x50 ∷ 0x52 ∷ []) ⊎ (letters ≡ 0x7a ∷ 0x50 ∷ 0x4c ∷ 0x52 ∷ []) → augmentation_data bases letters c ≡ Ok r → r.0.signal ≡ false
of_text bases letters c r (inl is) e = of_data bases (0x52 ∷ []) c r (λ block got h. after_R bases no_letters block got h) (subst (λ t. augmentation_data bases t c ≡ Ok r) is e)
of_text bases letters c r (inr (inl is)) e = of_data bases (0x50 ∷ 0x52 ∷ []) c r (λ block got h. keeps bases 0x50 (0x52 ∷ []) no_letters block got (keeps_P bases no_letters block) (λ q i. after_R bases q.0 q.1 got i) h) (subst (λ t. augmentation_data bases t c ≡ Ok r) is e)
of_text bases letters c r (inr (inr is)) e = of_data bases (0x50 ∷ 0x4c ∷ 0x52 ∷ []) c r (λ block got h. keeps bases 0x50 (0x4c ∷ 0x52 ∷ []) no_letters block got (keeps_P bases no_letters block) (λ q i. after_LR bases q.0 q.1 got i) h) (subst (λ t. augmentation_data bases t c ≡ Ok r) is e)

-- what a description says of its augmentation, and of a signal's frame
augmentation_in : {made : Cie} (cie : Cie) → ◌≡◌ {A = Result Cie Fault} (Ok made) (Ok cie) → made.augmentation ≡ cie.augmentation
augmentation_in {made} cie e = ap (λ (k : Cie). k.augmentation) (ok_same made cie e)

letters_in : {made : Cie} (cie : Cie) → ◌≡◌ {A = Result Cie Fault} (Ok made) (Ok cie) → cie.letters.signal ≡ made.letters.signal
letters_in {made} cie e = sym (ap (λ (k : Cie). k.letters.signal) (ok_same made cie e))

abbrev some_fde : Fde → Result Fde Fault
some_fde k = Ok k

of_cie : (bases : Bases) (o : ℕ) (c : Input) (cie : Cie) (image : List Span) → cie_body bases o c ≡ Ok cie → IsEmittedCie image cie → cie.letters.signal ≡ false
of_cie bases o c cie image e emitted =
    let a = bound (number w8 c) _ cie e in
    let b = bound (unless (is_version a.0.0) UnknownVersion) _ cie a.2 in
    let d = bound (text a.0.1) _ cie b.2 in
    let k = bound (unless (is_augmentation d.0.0) UnknownAugmentation) _ cie d.2 in
    let f = bound (sizes a.0.0 d.0.1) _ cie k.2 in
    let g = bound (uleb f.0.1) _ cie f.2 in
    let h = bound (sleb g.0.1) _ cie g.2 in
    let i = bound (return_column a.0.0 h.0.1) _ cie h.2 in
    let j = bound (augmentation_data bases d.0.0 i.0.1) _ cie i.2 in
    let text_is : d.0.0 ≡ cie.augmentation = augmentation_in cie j.2 in
    letters_in cie j.2 ∙ of_text bases d.0.0 _ j.0 (subst IsEmittedAugmentation (sym text_is) emitted.augmentation) j.1

-- a description's common description is one that reads
of_fde : (bases : Bases) (cie : Cie) (o : ℕ) (c : Input) (fde : Fde) → fde_body bases cie o c ≡ Ok fde → fde.cie ≡ cie
of_fde bases cie o c fde e =
    let a = bound (direct (address_encoding cie) bases c) _ fde e in
    let b = bound (value (format_of (address_encoding cie)) a.0.1) _ fde a.2 in
    let d = bound (unless (nat_le (a.0.0 + b.0.0) (2 ^ 64 - 1)) AddressOverflow) _ fde b.2 in
    let f = bound (fde_data bases cie a.0.0 b.0.1) _ fde d.2 in
    sym (ap (λ (k : Fde). k.cie) (ok_same _ _ f.2))

picked : (bases : Bases) (o : ℕ) (c : Input) (cie : Cie) (q : Bool) (e : Fault) → cond q (cie_body bases o c) (Err e) ≡ Ok cie → CieRead bases cie
picked bases o c cie true e h = record { offset = o; from = c; is = h }
picked bases o c cie false e h = absurd cc

cie_read_in : (bases : Bases) (o : ℕ) (b : Option Input) (cie : Cie) → cie_in bases o b ≡ Ok cie → CieRead bases cie
cie_read_in bases o None cie e = absurd cc
cie_read_in bases o (Some b) cie e = let a = bound (number w32 b) _ cie e in picked bases o a.0.1 cie (a.0.0 == 0) NotCie a.2

pub cie_read : (bases : Bases) (table : Input) (o : ℕ) (cie : Cie) → cie_at bases table o ≡ Ok cie → CieRead bases cie
cie_read bases table o cie e = let a = bound (body (skip o table)) _ cie e in cie_read_in bases o a.0.0 cie a.2

-- what an entry that is a frame description says of its common description
after_id : (bases : Bases) (table : Input) (o id : ℕ) (b c : Input) (fde : Fde) (q q' : Bool) (e : Fault) →
    cond q (cie_body bases o c >>= λ cie. Ok (ACie cie)) (cond q' (Err e) (cie_at bases table (b.offset - id) >>= λ cie. fde_body bases cie o c >>= λ k. Ok (AFde k))) ≡ Ok (AFde fde) → FdeRead bases fde
after_id bases table o id b c fde true q' e h = let a = bound (cie_body bases o c) _ (AFde fde) h in absurd cc
after_id bases table o id b c fde false true e h = absurd cc
after_id bases table o id b c fde false false e h =
    let a = bound (cie_at bases table (b.offset - id)) (λ cie. fde_body bases cie o c >>= λ k. Ok (AFde k)) (AFde fde) h in
    let d = bound (fde_body bases a.0 o c) (λ k. Ok (AFde k)) (AFde fde) a.2 in
    let same : d.0 ≡ fde = cc in
    let is : fde.cie ≡ a.0 = ap (λ (k : Fde). k.cie) (sym same) ∙ of_fde bases a.0 o c d.0 d.1 in
    record {
      common = subst (CieRead bases) (sym is) (cie_read bases table (b.offset - id) a.0 a.1);
      offset = o;
      from = c;
      is = ap (λ (k : Cie). fde_body bases k o c) is ∙ d.1 ∙ ap (λ (k : Fde). some_fde k) same;
    }

fde_read_in : (bases : Bases) (table : Input) (o : ℕ) (b : Input) (fde : Fde) → entry_in bases table o b ≡ Ok (AFde fde) → FdeRead bases fde
fde_read_in bases table o b fde e = let a = bound (number w32 b) _ (AFde fde) e in after_id bases table o a.0.0 b a.0.1 fde (a.0.0 == 0) (ltb b.offset a.0.0) NotCie a.2

entry_same : (k k' : Entry) (n n' : ℕ) → ◌≡◌ {A = Result (Option Found) Fault} (Ok (Some (record { entry = k; next = n }))) (Ok (Some (record { entry = k'; next = n' }))) → k ≡ k'
entry_same k k' n n' e =
    let a : Found = record { entry = k; next = n } in
    let b : Found = record { entry = k'; next = n' } in
    let same : a ≡ b = cc in
    ap (λ (q : Found). q.entry) same

fde_read_at : (bases : Bases) (table : Input) (o : ℕ) (b : Option Input) (n next : ℕ) (fde : Fde) → found_in bases table o b n ≡ Ok (Some (record { entry = AFde fde; next = next })) → FdeRead bases fde
fde_read_at bases table o None n next fde e = absurd cc
fde_read_at bases table o (Some b) n next fde e =
    let a = bound (entry_in bases table o b) (λ k. Ok (Some (record { entry = k; next = n }))) (Some (record { entry = AFde fde; next = next })) e in
    let same : a.0 ≡ AFde fde = entry_same a.0 (AFde fde) n next a.2 in
    fde_read_in bases table o b fde (a.1 ∙ ap (λ (k : Entry). Ok k) same)

pub one_read : (bases : Bases) (table : Input) (o next : ℕ) (fde : Fde) → entry_at bases table o ≡ Ok (Some (record { entry = AFde fde; next = next })) → FdeRead bases fde
unfolding entry_at
one_read bases table o next fde e = let a = bound (body (skip o table)) _ (Some (record { entry = AFde fde; next = next })) e in fde_read_at bases table o a.0.0 _ next fde a.2

pub fde_read : (bases : Bases) (table : Input) (o : ℕ) (entries : List Entry) (fde : Fde) → AreEntries bases table o entries → Contains (fdes_of entries) fde → FdeRead bases fde
fde_read bases table o [] fde reads has = absurd (none_in_nil fde has)
fde_read bases table o (ACie cie ∷ es) fde reads has = fde_read bases table reads.0 es fde reads.2 has
fde_read bases table o (AFde g ∷ es) fde reads has = elim (here_or_later g (fdes_of es) fde has) [
  | inl same ↦ subst (λ (k : Fde). FdeRead bases k) same (one_read bases table o reads.0 g reads.1)
  | inr later ↦ fde_read bases table reads.0 es fde reads.2 later
]

-- a description of emitted form is of no signal's frame
pub no_signal : (bases : Bases) (table : Input) (o : ℕ) (entries : List Entry) (fde : Fde) (image : List Span) → AreEntries bases table o entries → Contains (fdes_of entries) fde → IsEmittedCie image fde.cie → fde.cie.letters.signal ≡ false
no_signal bases table o entries fde image reads has emitted = let r = fde_read bases table o entries fde reads has in of_cie bases r.common.offset r.common.from fde.cie image r.common.is emitted

-- the same of the entry at an offset
pub no_signal_at : (bases : Bases) (table : Input) (o next : ℕ) (fde : Fde) (image : List Span) → entry_at bases table o ≡ Ok (Some (record { entry = AFde fde; next = next })) → IsEmittedCie image fde.cie → fde.cie.letters.signal ≡ false
no_signal_at bases table o next fde image reads emitted = let r = one_read bases table o next fde reads in of_cie bases r.common.offset r.common.from fde.cie image r.common.is emitted
