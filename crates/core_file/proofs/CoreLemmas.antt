-- What is read as a core file is what the grammar says, and each error comes for its cause.
use Rattle.std.proofs.Common.{◌≡◌, ◌≢◌, ℕ, Bool, true, false, eqb, List, [], ◌∷◌, ◌++◌, length, Result, Ok, Err, if◌then◌else◌, refl, sym, ap, ◌∙◌, subst, arith}
use Rattle.std.specs.Prelude.{◌↔◌, IsTrue, IsFalse}
use Rattle.std.specs.List.{filter_map, flat_map}
use Rattle.std.proofs.lemmas.Bool.{eqb-true, eq-eqb, ne_eqb, and_parts, both_ways}
use Rattle.std.proofs.lemmas.List.Elements.{filter_map-append}
use Rattle.memory_image.specs.Image.{Span}
use Rattle.unwind_arch.specs.declared.x86_64.Context.{Context}
use Rattle.core_file.specs.declared.errors.CoreError.{CoreError}
use Rattle.core_file.specs.declared.errors.CoreError.TheVariants as faults
use Rattle.core_file.specs.declared.program_header.ProgramHeader.{ProgramHeader}
use Rattle.core_file.specs.ElfHeader.{has_core_header, header_count, PN_XNUM}
use Rattle.core_file.specs.ProgramHeaders.{headers_of}
use Rattle.core_file.specs.Notes.{Note, notes_of, are_whole_notes}
use Rattle.core_file.specs.ThreadStatus.{thread_of}
use Rattle.core_file.specs.CoreValue.{CoreValue, note_bytes, threads_in_notes, threads_in, core_with, notes_are_whole, segments_fit, core_of}
use Rattle.core_file.specs.CoreGrammar.{SpellNotes, IsCore}
use Rattle.core_file.proofs.GrammarLemmas.{whole-spelled, spelled-whole}

-- ---- the notes of all segments of notes

abbrev notes_in : List ℕ → List ProgramHeader → List Note
notes_in bytes hs = flat_map (λ h. notes_of (note_bytes bytes h)) hs

whole_all : (bytes : List ℕ) (hs : List ProgramHeader) → notes_are_whole bytes hs ≡ true → SpellNotes bytes hs (notes_in bytes hs)
whole_all bytes [] whole = refl
whole_all bytes (h ∷ hs) whole =
    let both = and_parts (are_whole_notes (note_bytes bytes h)) (notes_are_whole bytes hs) whole in
    (notes_of (note_bytes bytes h), notes_in bytes hs, whole-spelled (length (note_bytes bytes h)) (note_bytes bytes h) (omega arith) both.0, whole_all bytes hs both.1, refl)

record AreReadAll (bytes : List ℕ) (hs : List ProgramHeader) (notes : List Note) : Type 0 where
  whole : notes_are_whole bytes hs ≡ true
  same : notes ≡ notes_in bytes hs

all_whole : (bytes : List ℕ) (hs : List ProgramHeader) (notes : List Note) → SpellNotes bytes hs notes → AreReadAll bytes hs notes
all_whole bytes [] notes none = record { whole = refl; same = none }
all_whole bytes (h ∷ hs) notes (first, others, spelled, later, joined) =
    let here = spelled-whole first (note_bytes bytes h) spelled in
    let rest = all_whole bytes hs others later in
    record { whole = rw (here.whole, rest.whole) refl; same = joined ∙ rw (here.notes, ← rest.same) refl }

-- the threads are those of which the notes tell
threads_by_notes : (bytes : List ℕ) (hs : List ProgramHeader) → threads_in bytes hs ≡ filter_map thread_of (notes_in bytes hs)
unfolding threads_in_notes
threads_by_notes bytes [] = refl
threads_by_notes bytes (h ∷ hs) =
    ap (λ (cs : List Context). filter_map thread_of (notes_of (note_bytes bytes h)) ++ cs) (threads_by_notes bytes hs)
    ∙ sym (filter_map-append thread_of (notes_of (note_bytes bytes h)) (notes_in bytes hs))

-- ---- the order of the errors

abbrev answer : Bool → Bool → Bool → Bool → CoreValue → Result CoreValue CoreError
answer header many fit whole value = if header then (if many then Err faults.ManySegments else (if fit then (if whole then Ok value else Err faults.Notes) else Err faults.Segments)) else Err faults.Header

pub record AreGood (header many fit whole : Bool) : Type 0 where
  pub is_header : header ≡ true
  pub is_few : many ≡ false
  pub is_fit : fit ≡ true
  pub is_whole : whole ≡ true

good : (header many fit whole : Bool) (value core : CoreValue) → answer header many fit whole value ≡ Ok core → AreGood header many fit whole × (value ≡ core)
good false many fit whole value core e = absurd cc
good true true fit whole value core e = absurd cc
good true false false whole value core e = absurd cc
good true false true false value core e = absurd cc
good true false true true value core e = (record { is_header = refl; is_few = refl; is_fit = refl; is_whole = refl }, cc)

header_fault : (header many fit whole : Bool) (value : CoreValue) → (answer header many fit whole value ≡ Err faults.Header) ↔ (header ≡ false)
header_fault false many fit whole value = (λ _. refl, λ _. refl)
header_fault true true fit whole value = (λ e. absurd cc, λ e. absurd cc)
header_fault true false false whole value = (λ e. absurd cc, λ e. absurd cc)
header_fault true false true false value = (λ e. absurd cc, λ e. absurd cc)
header_fault true false true true value = (λ e. absurd cc, λ e. absurd cc)

many_fault : (header many fit whole : Bool) (value : CoreValue) → (answer header many fit whole value ≡ Err faults.ManySegments) ↔ ((header ≡ true) × (many ≡ true))
many_fault false many fit whole value = (λ e. absurd cc, λ p. let q = p.0 in absurd cc)
many_fault true true fit whole value = (λ e. (refl, refl), λ p. refl)
many_fault true false false whole value = (λ e. absurd cc, λ p. let q = p.1 in absurd cc)
many_fault true false true false value = (λ e. absurd cc, λ p. let q = p.1 in absurd cc)
many_fault true false true true value = (λ e. absurd cc, λ p. let q = p.1 in absurd cc)

segments_fault : (header many fit whole : Bool) (value : CoreValue) → (answer header many fit whole value ≡ Err faults.Segments) ↔ ((header ≡ true) × (many ≡ false) × (fit ≡ false))
segments_fault false many fit whole value = (λ e. absurd cc, λ p. let q = p.0 in absurd cc)
segments_fault true true fit whole value = (λ e. absurd cc, λ p. let q = p.1 in absurd cc)
segments_fault true false false whole value = (λ e. (refl, refl, refl), λ p. refl)
segments_fault true false true false value = (λ e. absurd cc, λ p. let q = p.2 in absurd cc)
segments_fault true false true true value = (λ e. absurd cc, λ p. let q = p.2 in absurd cc)

notes_fault : (header many fit whole : Bool) (value : CoreValue) → (answer header many fit whole value ≡ Err faults.Notes) ↔ ((header ≡ true) × (many ≡ false) × (fit ≡ true) × (whole ≡ false))
notes_fault false many fit whole value = (λ e. absurd cc, λ p. let q = p.0 in absurd cc)
notes_fault true true fit whole value = (λ e. absurd cc, λ p. let q = p.1 in absurd cc)
notes_fault true false false whole value = (λ e. absurd cc, λ p. let q = p.2 in absurd cc)
notes_fault true false true false value = (λ e. (refl, refl, refl, refl), λ p. refl)
notes_fault true false true true value = (λ e. absurd cc, λ p. let q = p.3 in absurd cc)

-- ---- a core file

few : (bytes : List ℕ) → header_count bytes ≢ PN_XNUM → eqb (header_count bytes) PN_XNUM ≡ false
few bytes other = ne_eqb (header_count bytes) PN_XNUM other

other : (bytes : List ℕ) → eqb (header_count bytes) PN_XNUM ≡ false → header_count bytes ≢ PN_XNUM
other bytes differs is = both_ways (eqb (header_count bytes) PN_XNUM) differs (eq-eqb (header_count bytes) PN_XNUM is)

-- the parts of a core file are what they have to be, and so they are one
abbrev pub IsGood : List ℕ → Type 0
IsGood bytes = AreGood (has_core_header bytes) (eqb (header_count bytes) PN_XNUM) (segments_fit bytes) (notes_are_whole bytes (headers_of bytes))

pub core_is_good : (bytes : List ℕ) (core : CoreValue) → core_of bytes ≡ Ok core → IsGood bytes
unfolding core_of
core_is_good bytes core e =
    let hs = headers_of bytes in
    (good (has_core_header bytes) (eqb (header_count bytes) PN_XNUM) (segments_fit bytes) (notes_are_whole bytes hs) (core_with bytes hs) core e).0

pub good_is_core : (bytes : List ℕ) → IsGood bytes → core_of bytes ≡ Ok (core_with bytes (headers_of bytes))
unfolding core_of
good_is_core bytes g =
    let header = g.is_header in let counted = g.is_few in let fit = g.is_fit in let whole = g.is_whole in
    rw (header, counted, fit, whole) refl

-- what is read is what the program headers say
pub core-held : (bytes : List ℕ) (core : CoreValue) → core_of bytes ≡ Ok core → core_with bytes (headers_of bytes) ≡ core
unfolding core_of
core-held bytes core e =
    let hs = headers_of bytes in
    (good (has_core_header bytes) (eqb (header_count bytes) PN_XNUM) (segments_fit bytes) (notes_are_whole bytes hs) (core_with bytes hs) core e).1

pub read-core : (bytes : List ℕ) (core : CoreValue) → core_of bytes ≡ Ok core → IsCore bytes core
unfolding core_of
read-core bytes core e =
    let hs = headers_of bytes in
    let g = good (has_core_header bytes) (eqb (header_count bytes) PN_XNUM) (segments_fit bytes) (notes_are_whole bytes hs) (core_with bytes hs) core e in
    subst (IsCore bytes) g.1 (record {
      header = g.0.is_header;
      counted = other bytes g.0.is_few;
      within = g.0.is_fit;
      segments = refl;
      notes = notes_in bytes hs;
      spelled = whole_all bytes hs g.0.is_whole;
      threads = threads_by_notes bytes hs;
    })

pub core-read : (bytes : List ℕ) (core : CoreValue) → IsCore bytes core → core_of bytes ≡ Ok core
unfolding core_of
core-read bytes core is =
    let hs = headers_of bytes in
    let read = all_whole bytes hs is.notes is.spelled in
    let threads : core.threads ≡ threads_in bytes hs = is.threads ∙ rw read.same (sym (threads_by_notes bytes hs)) in
    let header = is.header in let within = is.within in
    rw (header, few bytes is.counted, within, read.whole) (ap Ok (same core (core_with bytes hs) (sym is.segments) (sym threads)))
  where
    same : (core other : CoreValue) → other.segments ≡ core.segments → other.threads ≡ core.threads → other ≡ core
    same core other s t = ap (λ (x : List Span). record { segments = x; threads = other.threads }) s ∙ ap (λ (y : List Context). record { segments = core.segments; threads = y }) t

-- ---- each error

pub header_cause : (bytes : List ℕ) → (core_of bytes ≡ Err faults.Header) ↔ IsFalse (has_core_header bytes)
unfolding core_of
header_cause bytes = header_fault (has_core_header bytes) (eqb (header_count bytes) PN_XNUM) (segments_fit bytes) (notes_are_whole bytes (headers_of bytes)) (core_with bytes (headers_of bytes))

pub many_cause : (bytes : List ℕ) → (core_of bytes ≡ Err faults.ManySegments) ↔ (IsTrue (has_core_header bytes) × (header_count bytes ≡ PN_XNUM))
unfolding core_of
many_cause bytes =
    let f = many_fault (has_core_header bytes) (eqb (header_count bytes) PN_XNUM) (segments_fit bytes) (notes_are_whole bytes (headers_of bytes)) (core_with bytes (headers_of bytes)) in
    (λ e. let p = f.0 e in (p.0, eqb-true (header_count bytes) PN_XNUM p.1), λ p. f.1 (p.0, eq-eqb (header_count bytes) PN_XNUM p.1))

pub segments_cause : (bytes : List ℕ) → (core_of bytes ≡ Err faults.Segments) ↔ (IsTrue (has_core_header bytes) × (header_count bytes ≢ PN_XNUM) × IsFalse (segments_fit bytes))
unfolding core_of
segments_cause bytes =
    let f = segments_fault (has_core_header bytes) (eqb (header_count bytes) PN_XNUM) (segments_fit bytes) (notes_are_whole bytes (headers_of bytes)) (core_with bytes (headers_of bytes)) in
    (λ e. let p = f.0 e in (p.0, other bytes p.1, p.2), λ p. f.1 (p.0, few bytes p.1, p.2))

pub notes_cause : (bytes : List ℕ) → (core_of bytes ≡ Err faults.Notes) ↔ (IsTrue (has_core_header bytes) × (header_count bytes ≢ PN_XNUM) × IsTrue (segments_fit bytes) × ((notes : List Note) → SpellNotes bytes (headers_of bytes) notes → ⊥))
unfolding core_of
notes_cause bytes =
    let hs = headers_of bytes in
    let f = notes_fault (has_core_header bytes) (eqb (header_count bytes) PN_XNUM) (segments_fit bytes) (notes_are_whole bytes hs) (core_with bytes hs) in (
      λ e. let p = f.0 e in (p.0, other bytes p.1, p.2, λ notes spelled. both_ways (notes_are_whole bytes hs) p.3 (all_whole bytes hs notes spelled).whole),
      λ p. f.1 (p.0, few bytes p.1, p.2, unspelled hs p.3),
    )
  where
    unspelled : (hs : List ProgramHeader) → ((notes : List Note) → SpellNotes bytes hs notes → ⊥) → notes_are_whole bytes hs ≡ false
    unspelled hs none = go (notes_are_whole bytes hs) refl
      where
        go : (whole : Bool) → notes_are_whole bytes hs ≡ whole → notes_are_whole bytes hs ≡ false
        go true is = absurd (none (notes_in bytes hs) (whole_all bytes hs is))
        go false is = is

-- equal answers hold equal cores
abbrev read_as : CoreValue → Result CoreValue CoreError
read_as core = Ok core

pub same_core : (a b : CoreValue) → read_as a ≡ read_as b → a ≡ b
same_core a b e = cc
