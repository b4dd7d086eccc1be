-- A described function's description asks what the function does.
use Rattle.std.proofs.Common.{inl, inr, ◌≡◌, ◌≢◌, ℕ, ◌+◌, ◌-◌, ◌^◌, ◌<◌, ◌≤◌, Bool, true, false, cond, eqb, List, [], ◌∷◌, length, Option, Some, None, Result, Ok, Err, refl, sym, ap, subst, ◌∙◌, arith}
use Rattle.std.specs.Prelude.{◌==◌, is_some, nat_le, MatchOption, IfSome}
use Rattle.std.specs.Int.{w8}
use Rattle.std.proofs.lemmas.Bool.{eqb-true, leb-true}
use Rattle.std.proofs.lemmas.Bool.Decides.{nat_tests}
use Rattle.memory_image.specs.Image.{Span, word_at}
use Rattle.unwind_definitions.specs.declared.error.Error.{Error as Fault}
use Rattle.unwind_definitions.specs.declared.error.Error.TheVariants.{UnknownVersion, UnknownAugmentation, AddressOverflow}
use Rattle.unwind_definitions.specs.Faults.{◌>>=◌, unless}
use Rattle.unwind_definitions.specs.Augmentation.{is_version, is_augmentation}
use Rattle.unwind_definitions.specs.Input.{Input, number, split, text, uleb, sleb}
use Rattle.unwind_definitions.specs.Pointers.{Bases, Pointer, Direct, Indirect, encoding, pointer, direct, value, format_of}
use Rattle.unwind_definitions.specs.Entries.{Letters, letter, letters_from, no_letters, augmentation_data, Cie, Fde, fde_data, language_pointer, sizes, return_column, address_encoding}
use Rattle.unwind_definitions.specs.Prologue.{SystemV}
use Rattle.unwind_definitions.specs.Function.{Function, Site, AreSitesOf, IsFunction, action_at}
use Rattle.unwind_definitions.specs.LanguageTable.{LeadsToLanguage}
use Rattle.unwind_definitions.specs.LanguageSearch as tables
use Rattle.unwind_definitions.specs.Caller.{StepFault}
use Rattle.unwind_definitions.specs.FrameTable.{IsEmittedPersonality, IsEmittedAugmentation, DescribesFunction}
use Rattle.unwind_definitions.specs.PointerEncodings.{pcrel_sdata4}
use Rattle.unwind_laws.specs.Found.{CieRead, FdeRead, AsksAs}
use Rattle.unwind_laws.proofs.Signal.{bound, ok_same}
use Rattle.unwind_laws.proofs.Letters.{personality_said, language_said}
use Rattle.unwind_laws.proofs.LanguageSites.{described_asks}

-- ---- what a description that reads says

unless_true : (b : Bool) (e : Fault) (u : Unit {0}) → unless b e ≡ Ok u → b ≡ true
unless_true true e u is = refl
unless_true false e u is = absurd cc

abbrev pointed : Option Pointer → Input → Result (Option Pointer × Input) Fault
pointed p c = Ok (p, c)

pair_first : (p q : Option Pointer) (c d : Input) → pointed p c ≡ pointed q d → p ≡ q
pair_first p q c d e = ap first e
  where
    first : Result (Option Pointer × Input) Fault → Option Pointer
    first (Ok x) = x.0
    first (Err f) = p

-- without an encoding there is no pointer
no_pointer : (bases : Bases) (cie : Cie) (start : ℕ) (c : Input) (r : Option Pointer × Input) → cie.letters.language ≡ None → fde_data bases cie start c ≡ Ok r → r.0 ≡ None
no_pointer bases cie start c r none e = go (eqb (length cie.augmentation) 0) e
  where
    go : (b : Bool) → cond b (pointed None c) (uleb c >>= λ n. split n.0 n.1 >>= λ block. language_pointer bases start cie.letters.language block.0 >>= λ p. Ok (p, block.1)) ≡ Ok r → r.0 ≡ None
    go true h = sym (pair_first None r.0 c r.1 h)
    go false h =
        let n = bound (uleb c) _ r h in
        let block = bound (split n.0.0 n.0.1) _ r n.2 in
        let p = bound (language_pointer bases start cie.letters.language block.0.0) _ r block.2 in
        let absent : language_pointer bases start cie.letters.language block.0.0 ≡ Ok None = ap (λ (o : Option ℕ). language_pointer bases start o block.0.0) none in
        let same : p.0 ≡ None = ok_same p.0 None (sym p.1 ∙ absent) in
        sym (pair_first p.0 r.0 block.0.1 r.1 p.2) ∙ same

module _ (bases : Bases) (fde : Fde) (read : FdeRead bases fde) where
  -- its end is an address
  pub ends_below : fde.start + fde.size < 2 ^ 64
  ends_below =
      let a = bound (direct (address_encoding fde.cie) bases read.from) _ fde read.is in
      let b = bound (value (format_of (address_encoding fde.cie)) a.0.1) _ fde a.2 in
      let d = bound (unless (nat_le (a.0.0 + b.0.0) (2 ^ 64 - 1)) AddressOverflow) _ fde b.2 in
      let f = bound (fde_data bases fde.cie a.0.0 b.0.1) _ fde d.2 in
      let le : a.0.0 + b.0.0 ≤ 2 ^ 64 - 1 = leb-true (a.0.0 + b.0.0) (2 ^ 64 - 1) (unless_true (nat_le (a.0.0 + b.0.0) (2 ^ 64 - 1)) AddressOverflow d.0 d.1) in
      let start : a.0.0 ≡ fde.start = ap (λ (k : Fde). k.start) (ok_same _ _ f.2) in
      let size : b.0.0 ≡ fde.size = ap (λ (k : Fde). k.size) (ok_same _ _ f.2) in
      omega arith

  pub without_language : fde.cie.letters.language ≡ None → fde.language ≡ None
  without_language none =
      let a = bound (direct (address_encoding fde.cie) bases read.from) _ fde read.is in
      let b = bound (value (format_of (address_encoding fde.cie)) a.0.1) _ fde a.2 in
      let d = bound (unless (nat_le (a.0.0 + b.0.0) (2 ^ 64 - 1)) AddressOverflow) _ fde b.2 in
      let f = bound (fde_data bases fde.cie a.0.0 b.0.1) _ fde d.2 in
      let same : f.0.0 ≡ fde.language = ap (λ (k : Fde). k.language) (ok_same _ _ f.2) in
      sym same ∙ no_pointer bases fde.cie a.0.0 b.0.1 f.0 none f.1

-- ---- what an augmentation that reads says

-- the augmentation's bytes
pub record DataRead (bases : Bases) (cie : Cie) : Type 0 where
  pub from : Input
  pub rest : Input
  pub is : augmentation_data bases cie.augmentation from ≡ Ok (cie.letters, rest)

abbrev lettered : Letters → Input → Result (Letters × Input) Fault
lettered l c = Ok (l, c)

data_read : (bases : Bases) (cie : Cie) → CieRead bases cie → DataRead bases cie
data_read bases cie read =
    let a = bound (number w8 read.from) _ cie read.is in
    let b = bound (unless (is_version a.0.0) UnknownVersion) _ cie a.2 in
    let d = bound (text a.0.1) _ cie b.2 in
    let k = bound (unless (is_augmentation d.0.0) UnknownAugmentation) _ cie d.2 in
    let f = bound (sizes a.0.0 d.0.1) _ cie k.2 in
    let g = bound (uleb f.0.1) _ cie f.2 in
    let h = bound (sleb g.0.1) _ cie g.2 in
    let i = bound (return_column a.0.0 h.0.1) _ cie h.2 in
    let j = bound (augmentation_data bases d.0.0 i.0.1) _ cie i.2 in
    let text_is : d.0.0 ≡ cie.augmentation = ap (λ (k : Cie). k.augmentation) (ok_same _ _ j.2) in
    let letters_are : j.0.0 ≡ cie.letters = ap (λ (k : Cie). k.letters) (ok_same _ _ j.2) in
    record {
      from = i.0.1;
      rest = j.0.1;
      is = ap (λ (t : List ℕ). augmentation_data bases t i.0.1) (sym text_is) ∙ j.1 ∙ ap (λ (l : Letters). lettered l j.0.1) letters_are;
    }

none_there : {A : Type 0} (o : Option A) → is_some o ≡ false → o ≡ None
none_there None e = refl
none_there (Some x) e = absurd cc

some_there : {A : Type 0} (o : Option A) → is_some o ≡ true → o ≡ None → ⊥
some_there o e none = let h : is_some o ≡ false = ap is_some none in absurd cc

-- without a personality no language tables are named
no_encoding : (bases : Bases) (cie : Cie) → DataRead bases cie → IsEmittedAugmentation cie.augmentation → cie.letters.personality ≡ None → cie.letters.language ≡ None
no_encoding bases cie read (inl is) none =
    none_there cie.letters.language (language_said bases 0x7a (0x52 ∷ []) read.from read.rest cie.letters (subst (λ (t : List ℕ). augmentation_data bases t read.from ≡ Ok (cie.letters, read.rest)) is read.is))
no_encoding bases cie read (inr (inl is)) none =
    absurd (some_there cie.letters.personality (personality_said bases 0x7a (0x50 ∷ 0x52 ∷ []) read.from read.rest cie.letters (subst (λ (t : List ℕ). augmentation_data bases t read.from ≡ Ok (cie.letters, read.rest)) is read.is)) none)
no_encoding bases cie read (inr (inr is)) none =
    absurd (some_there cie.letters.personality (personality_said bases 0x7a (0x50 ∷ 0x4c ∷ 0x52 ∷ []) read.from read.rest cie.letters (subst (λ (t : List ℕ). augmentation_data bases t read.from ≡ Ok (cie.letters, read.rest)) is read.is)) none)

-- ---- a personality's pointer is read by its encoding

abbrev PointerReads : Bases → Option (ℕ × Pointer) → Type 0
PointerReads bases None = Unit {0}
PointerReads bases (Some p) = (c : Input) × (d : Input) × (pointer p.0 bases c ≡ Ok (p.1, d))

letters_same : (a b : Letters) (c d : Input) → lettered a c ≡ lettered b d → a ≡ b
letters_same a b c d e = ap (λ (q : Letters × Input). q.0) (ok_same (a, c) (b, d) e)

abbrev Reads : Bases → Letters → Type 0
Reads bases l = PointerReads bases l.personality

module _ (bases : Bases) (before after : Letters) (c d : Input) (known : Reads bases before) where
  by_language : letter bases 0x4c before c ≡ Ok (after, d) → Reads bases after
  by_language e = let r = bound (encoding c) _ (after, d) e in subst (Reads bases) (letters_same _ after _ d r.2) known

  by_personality : letter bases 0x50 before c ≡ Ok (after, d) → Reads bases after
  by_personality e =
      let r = bound (encoding c) _ (after, d) e in
      let s = bound (pointer r.0.0 bases r.0.1) _ (after, d) r.2 in
      subst (Reads bases) (letters_same _ after _ d s.2) (r.0.1, s.0.1, s.1)

  by_address : letter bases 0x52 before c ≡ Ok (after, d) → Reads bases after
  by_address e = let r = bound (encoding c) _ (after, d) e in subst (Reads bases) (letters_same _ after _ d r.2) known

  by_signal : letter bases 0x53 before c ≡ Ok (after, d) → Reads bases after
  by_signal e = subst (Reads bases) (letters_same _ after _ d e) known

  by_letter : (l : ℕ) → letter bases l before c ≡ Ok (after, d) → Reads bases after
  by_letter l e = go (l == 0x4c) (l == 0x50) (l == 0x52) (l == 0x53) refl refl refl refl
    where
      at : (n : ℕ) → (letter bases n before c ≡ Ok (after, d) → Reads bases after) → (l == n) ≡ true → Reads bases after
      at n says is = says (subst (λ (k : ℕ). letter bases k before c ≡ Ok (after, d)) (eqb-true l n is) e)

      go : (a b f g : Bool) → (l == 0x4c) ≡ a → (l == 0x50) ≡ b → (l == 0x52) ≡ f → (l == 0x53) ≡ g → Reads bases after
      go true b f g is _ _ _ = at 0x4c by_language is
      go false true f g _ is _ _ = at 0x50 by_personality is
      go false false true g _ _ is _ = at 0x52 by_address is
      go false false false true _ _ _ is = at 0x53 by_signal is
      go false false false false no_l no_p no_r no_s = let none : letter bases l before c ≡ Err UnknownAugmentation = rw (no_l, no_p, no_r, no_s) refl in let both = sym none ∙ e in absurd cc

by_letters : (bases : Bases) (ls : List ℕ) (before after : Letters) (c : Input) → Reads bases before → letters_from bases ls before c ≡ Ok after → Reads bases after
by_letters bases [] before after c known e = subst (Reads bases) (ok_same before after e) known
by_letters bases (l ∷ ls) before after c known e =
    let r = bound (letter bases l before c) _ after e in
    by_letters bases ls r.0.0 after r.0.1 (by_letter bases before r.0.0 c r.0.1 known l r.1) r.2

personality_reads : (bases : Bases) (text : List ℕ) (c d : Input) (found : Letters) → augmentation_data bases text c ≡ Ok (found, d) → Reads bases found
personality_reads bases [] c d found e = subst (Reads bases) (letters_same no_letters found c d e) tt
personality_reads bases (z ∷ ls) c d found e =
    let n = bound (uleb c) _ (found, d) e in
    let block = bound (split n.0.0 n.0.1) _ (found, d) n.2 in
    let letters = bound (letters_from bases ls no_letters block.0.0) _ (found, d) block.2 in
    subst (Reads bases) (letters_same _ found _ d letters.2) (by_letters bases ls no_letters letters.0 block.0.0 tt letters.1)

abbrev some_pointer : Pointer → Input → Result (Pointer × Input) Fault
some_pointer p c = Ok (p, c)

-- an encoding that isn't indirect gives an address
is_direct : (bases : Bases) (c d : Input) (p : Pointer) → pointer pcrel_sdata4 bases c ≡ Ok (p, d) → (a : ℕ) × (p ≡ Direct a)
is_direct bases c d p e =
    let n = bound (value 11 c) _ (p, d) e in
    let same = ok_same _ (p, d) n.2 in
    (_, sym (ap (λ (q : Pointer × Input). q.0) same))

-- ---- what is asked

abbrev some_routine : ℕ → Result (Option ℕ) StepFault
some_routine a = Ok (Some a)

cell_target : (image : List Span) (a : ℕ) → word_at image a ≢ None → (w : ℕ) × (tables.target image (Indirect a) ≡ Ok w)
cell_target image a mapped = go (word_at image a) refl
  where
    go : (o : Option ℕ) → word_at image a ≡ o → (w : ℕ) × (tables.target image (Indirect a) ≡ Ok w)
    go None is = absurd (mapped is)
    go (Some w) is = (w, rw is refl)

target_of : (image : List Span) (bases : Bases) (e : ℕ) (p : Pointer) (c d : Input) → pointer e bases c ≡ Ok (p, d) → IsEmittedPersonality image (e, p) → (w : ℕ) × (tables.target image p ≡ Ok w)
target_of image bases e p c d reads (inl is) =
    let r = is_direct bases c d p (subst (λ (k : ℕ). pointer k bases c ≡ Ok (p, d)) is reads) in
    (r.0, ap (tables.target image) r.1)
target_of image bases e (Direct a) c d reads (inr cell) = absurd cell.1
target_of image bases e (Indirect a) c d reads (inr cell) = cell_target image a cell.1

record Named (image : List Span) (fde : Fde) : Type 0 where
  routine : Option ℕ
  personality : tables.personality_address image fde ≡ Ok routine
  silent : routine ≡ None → fde.cie.letters.personality ≡ None

named : (image : List Span) (bases : Bases) (fde : Fde) → Reads bases fde.cie.letters → MatchOption fde.cie.letters.personality (Unit {0}) (IsEmittedPersonality image) → Named image fde
named image bases fde reads emitted = go fde.cie.letters.personality refl reads emitted
  where
    go : (o : Option (ℕ × Pointer)) → fde.cie.letters.personality ≡ o → PointerReads bases o → MatchOption o (Unit {0}) (IsEmittedPersonality image) → Named image fde
    go None is reads emitted = record { routine = None; personality = rw is refl; silent = λ e. is }
    go (Some p) is reads emitted =
        let w = target_of image bases p.0 p.1 reads.0 reads.1 reads.2 emitted in
        record { routine = Some w.0; personality = rw (is, w.1) refl; silent = λ e. absurd cc }

language_asked : (image : List Span) (bases : Bases) (f : Function) (fde : Fde) → IfSome f.sites (AreSitesOf f) → fde.start ≡ f.start → f.end < 2 ^ 64 → LeadsToLanguage image f fde.language → (a : ℕ) → tables.language_action image bases fde a ≡ Ok (action_at f a)
language_asked image bases f fde are start small leads a = go fde.language refl leads
  where
    go : (o : Option Pointer) → fde.language ≡ o → LeadsToLanguage image f o → tables.language_action image bases fde a ≡ Ok (action_at f a)
    go None is none = rw (is, none) refl
    go (Some (Indirect t)) is leads = absurd leads
    go (Some (Direct t)) is leads =
        let sites : f.sites ≡ Some leads.0 = leads.1 in
        let some : t ≢ 0 = leads.2.nonzero in
        let nonzero : eqb t 0 ≡ false = grind (arith, nat_tests) in
        let are_sites : AreSitesOf f leads.0 = subst (λ (o : Option (List Site)). IfSome o (AreSitesOf f)) sites are in
        rw (is, nonzero, start, sites) (described_asks image (record bases { func = Some f.start }) f t leads.0 a are_sites small leads.2)

-- A described function's description asks what the function does.
pub asks_as : (image : List Span) (bases : Bases) (f : Function) (fde : Fde) → IsFunction SystemV f → FdeRead bases fde → DescribesFunction image bases f fde → AsksAs image bases f fde
asks_as image bases f fde is read describes =
    let data_is = data_read bases fde.cie read.common in
    let reads = personality_reads bases fde.cie.augmentation data_is.from data_is.rest fde.cie.letters data_is.is in
    let n : Named image fde = named image bases fde reads describes.code.cie.personality in
    let below = ends_below bases fde read in
    let end = describes.code.end in
    record {
      routine = n.routine;
      personality = n.personality;
      silent = λ none. subst (LeadsToLanguage image f) (without_language bases fde read (no_encoding bases fde.cie data_is describes.code.cie.augmentation (n.silent none))) describes.language;
      action = language_asked image bases f fde is.sites describes.code.start (omega arith) describes.language;
    }

-- A description that leads to a language table with a function's sites, and names a personality where the function has any, asks
-- what the function does.
pub sites_asked : (image : List Span) (bases : Bases) (f : Function) (fde : Fde) → FdeRead bases fde → fde.start ≡ f.start → fde.start + fde.size ≡ f.end → IfSome f.sites (AreSitesOf f) → LeadsToLanguage image f fde.language →
    MatchOption fde.cie.letters.personality (f.sites ≡ None) (IsEmittedPersonality image) → AsksAs image bases f fde
sites_asked image bases f fde read start end are leads names =
    let data_is = data_read bases fde.cie read.common in
    let reads = personality_reads bases fde.cie.augmentation data_is.from data_is.rest fde.cie.letters data_is.is in
    let n : Named image fde = named image bases fde reads (weaker fde.cie.letters.personality names) in
    let below = ends_below bases fde read in
    record {
      routine = n.routine;
      personality = n.personality;
      silent = λ none. no_sites fde.cie.letters.personality (n.silent none) names;
      action = language_asked image bases f fde are start (omega arith) leads;
    }
  where
    weaker : (o : Option (ℕ × Pointer)) → MatchOption o (f.sites ≡ None) (IsEmittedPersonality image) → MatchOption o (Unit {0}) (IsEmittedPersonality image)
    weaker None h = tt
    weaker (Some p) h = h

    no_sites : (o : Option (ℕ × Pointer)) → o ≡ None → MatchOption o (f.sites ≡ None) (IsEmittedPersonality image) → f.sites ≡ None
    no_sites None e h = h
    no_sites (Some p) e h = absurd cc
