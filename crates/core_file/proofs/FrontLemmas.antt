-- A file that begins with a front is the core file that the front says, and a front of a core file is read.
use Rattle.std.proofs.Common.{◌≡◌, ◌≢◌, ℕ, ◌+◌, ◌<◌, ◌≤◌, ◌^◌, ◌&&◌, ◌||◌, Bool, true, false, eqb, leb, ltb, cond, List, [], ◌∷◌, length, take, map, Option, Some, None, Result, Ok, Err, refl, sym, ap, ◌∙◌, subst, arith}
use Rattle.std.specs.Prelude.{IsSome, IsOk, nat_eq}
use Rattle.std.specs.Option.{option_and_then, option_map}
use Rattle.std.specs.List.{list_all, cons_option, starts_with}
use Rattle.std.proofs.lemmas.Bool.{le-leb, leb-true, lt-ltb, eqb-false, false_from_ne_true, cond_both, and_parts, and_from}
use Rattle.memory_image.specs.Image.{Span}
use Rattle.core_file.specs.declared.errors.CoreError.{CoreError}
use Rattle.core_file.specs.declared.errors.CoreError.TheVariants.{Segments}
use Rattle.core_file.specs.declared.places.SegmentPlace.{SegmentPlace}
use Rattle.core_file.specs.declared.program_header.ProgramHeader.{ProgramHeader}
use Rattle.core_file.specs.ElfHeader.{has_core_header, header_count, PN_XNUM, ET_CORE, EM_X86_64, identification, type_of, machine_of, header_entry_size, program_header_size}
use Rattle.core_file.specs.ProgramHeaders.{PT_LOAD, PT_NOTE, headers_of, headers_fit, is_within, are_within, segment_in, segments_in, file_bytes}
use Rattle.core_file.specs.CoreValue.{CoreValue, core_of, notes_are_whole, segments_fit}
use Rattle.core_file.specs.MappedParts.{mapped_parts}
use Rattle.core_file.specs.Fronts.{segment_by, FrontValue, IsFrontOf, IsCoreWithFront, place_in, places_in, end_of, last_end, segments_end, has_notes, front_to, front_by, front_of, headers_end, notes_end, front_end, front_size}
use Rattle.core_file.proofs.CoreLemmas.{segments_cause, IsGood, core_is_good, good_is_core}
use Rattle.core_file.proofs.EndLemmas.{fits_so}
use Rattle.core_file.proofs.BeginLemmas.{begins_long, header_same, count_same, headers_end_same, headers_same, threads_same, whole_same, files_same}

-- ---- the segments of program headers

-- the segments of memory are those that lie where the program headers say
segment_by_place : (bytes : List ℕ) (h : ProgramHeader) → segment_in bytes h ≡ option_map (segment_by bytes) (place_in h)
segment_by_place bytes h = go (eqb h.p_type PT_LOAD && ltb 0 h.p_filesz)
  where
    go : (b : Bool) → cond b (Some (record { start = h.p_vaddr; bytes = file_bytes bytes h })) None ≡ option_map (segment_by bytes) (cond b (Some (record { address = h.p_vaddr; offset = h.p_offset; size = h.p_filesz })) None)
    go true = refl
    go false = refl

cons_map : (f : SegmentPlace → Span) (o : Option SegmentPlace) (ps : List SegmentPlace) → cons_option (option_map f o) (map f ps) ≡ map f (cons_option o ps)
cons_map f None ps = refl
cons_map f (Some p) ps = refl

pub segments_by : (bytes : List ℕ) (hs : List ProgramHeader) → segments_in bytes hs ≡ map (segment_by bytes) (places_in hs)
segments_by bytes [] = refl
segments_by bytes (h ∷ hs) = rw (segment_by_place bytes h, segments_by bytes hs) (cons_map (segment_by bytes) (place_in h) (places_in hs))

-- segments lie within a file that reaches up to their ends, and no others do
one_within : (size : ℕ) (h : ProgramHeader) → end_of PT_LOAD h ≤ size → end_of PT_NOTE h ≤ size → is_within size h ≡ true
one_within size h = go (eqb h.p_type PT_LOAD) (eqb h.p_type PT_NOTE)
  where
    go : (memory notes : Bool) → cond memory (h.p_offset + h.p_filesz) 0 ≤ size → cond notes (h.p_offset + h.p_filesz) 0 ≤ size → cond (memory || notes) (leb (h.p_offset + h.p_filesz) size) true ≡ true
    go true notes m n = le-leb (h.p_offset + h.p_filesz) size m
    go false true m n = le-leb (h.p_offset + h.p_filesz) size n
    go false false m n = refl

pub all_within : (size : ℕ) (hs : List ProgramHeader) → segments_end hs ≤ size → list_all (is_within size) hs ≡ true
all_within size [] fits = refl
all_within size (h ∷ hs) fits = and_from (is_within size h) (list_all (is_within size) hs) (one_within size h (omega arith) (omega arith)) (all_within size hs (omega arith))

one_end : (size : ℕ) (h : ProgramHeader) → is_within size h ≡ true → (end_of PT_LOAD h ≤ size) × (end_of PT_NOTE h ≤ size)
one_end size h = go (eqb h.p_type PT_LOAD) (eqb h.p_type PT_NOTE)
  where
    go : (memory notes : Bool) → cond (memory || notes) (leb (h.p_offset + h.p_filesz) size) true ≡ true → (cond memory (h.p_offset + h.p_filesz) 0 ≤ size) × (cond notes (h.p_offset + h.p_filesz) 0 ≤ size)
    go true true is = let within = leb-true (h.p_offset + h.p_filesz) size is in (within, within)
    go true false is = (leb-true (h.p_offset + h.p_filesz) size is, omega arith)
    go false true is = (omega arith, leb-true (h.p_offset + h.p_filesz) size is)
    go false false is = (omega arith, omega arith)

pub ends_within : (size : ℕ) (hs : List ProgramHeader) → list_all (is_within size) hs ≡ true → segments_end hs ≤ size
ends_within size [] is = omega arith
ends_within size (h ∷ hs) is =
    let both = and_parts (is_within size h) (list_all (is_within size) hs) is in
    let here = one_end size h both.0 in
    let memory : end_of PT_LOAD h ≤ size = here.0 in
    let notes : end_of PT_NOTE h ≤ size = here.1 in
    let later : segments_end hs ≤ size = ends_within size hs both.1 in
    omega arith

-- ---- what a front has that is read

pub record IsRead (front : List ℕ) (value : FrontValue) : Type 0 where
  pub header : has_core_header front ≡ true
  pub counted : eqb (header_count front) PN_XNUM ≡ false
  pub fits : headers_fit front ≡ true
  pub notes : has_notes front (headers_of front) ≡ true
  pub value_is : front_to front (headers_of front) (segments_end (headers_of front)) ≡ value

pub read-front : (front : List ℕ) (value : FrontValue) → front_of front ≡ Some value → IsRead front value
unfolding front_of
read-front front value e = go (has_core_header front) (eqb (header_count front) PN_XNUM) (headers_fit front) refl refl refl e
  where
    last : has_core_header front ≡ true → eqb (header_count front) PN_XNUM ≡ false → headers_fit front ≡ true → (b : Bool) → has_notes front (headers_of front) ≡ b
        → cond b (Some (front_to front (headers_of front) (segments_end (headers_of front)))) None ≡ Some value → IsRead front value
    last header counted fits true is e = record { header = header; counted = counted; fits = fits; notes = is; value_is = cc }
    last header counted fits false is e = absurd cc

    go : (header many fits : Bool) → has_core_header front ≡ header → eqb (header_count front) PN_XNUM ≡ many → headers_fit front ≡ fits
        → cond (cond header (cond many false true) false) (option_and_then (front_by front) (cond fits (Some (headers_of front)) None)) None ≡ Some value → IsRead front value
    go false many fits a b c e = absurd cc
    go true true fits a b c e = absurd cc
    go true false false a b c e = absurd cc
    go true false true a b c e = last a b c (has_notes front (headers_of front)) refl e

-- ---- a file that begins so

pub record IsBegun (front bytes : List ℕ) : Type 0 where
  pub headers : headers_of bytes ≡ headers_of front
  pub notes_fit : last_end PT_NOTE (headers_of front) ≤ length front
  pub good : IsGood bytes

has_size : (front : List ℕ) → has_core_header front ≡ true → 64 ≤ length front
has_size front is =
    let long : Bool = leb 64 (length front) in
    let named : Bool = starts_with nat_eq front identification in
    let kind : Bool = eqb (type_of front) ET_CORE in
    let machine : Bool = eqb (machine_of front) EM_X86_64 in
    let entry : Bool = eqb (header_entry_size front) program_header_size in
    let four = and_parts (long && named && kind && machine) entry is in
    let three = and_parts (long && named && kind) machine four.0 in
    let two = and_parts (long && named) kind three.0 in
    leb-true 64 (length front) (and_parts long named two.0).0

begun : (front bytes : List ℕ) (value : FrontValue) → IsRead front value → take (length front) bytes ≡ front → value.end ≤ length bytes → IsBegun front bytes
begun front bytes value r e long =
    let hs = headers_of front in
    let header = r.header in
    let size : 64 ≤ length front = has_size front header in
    let within = begins_long front bytes e in
    let fits : headers_end front ≤ length front = leb-true (headers_end front) (length front) r.fits in
    let same : headers_of bytes ≡ hs = headers_same front bytes e size fits in
    let ends : headers_end bytes ≡ headers_end front = headers_end_same front bytes e size in
    let notes = and_parts (ltb (segments_end hs) (2 ^ 64) && leb (last_end PT_NOTE hs) (length front)) (notes_are_whole front hs) r.notes in
    let first = and_parts (ltb (segments_end hs) (2 ^ 64)) (leb (last_end PT_NOTE hs) (length front)) notes.0 in
    let notes_fit : last_end PT_NOTE hs ≤ length front = leb-true (last_end PT_NOTE hs) (length front) first.1 in
    let reaches : segments_end hs ≡ value.end = ap (λ (v : FrontValue). v.end) r.value_is in
    let headers_there : headers_fit bytes ≡ true = le-leb (headers_end bytes) (length bytes) (omega arith) in
    let segments_there : are_within bytes (headers_of bytes) ≡ true = rw same (all_within (length bytes) hs (omega arith)) in
    record {
      headers = same;
      notes_fit = notes_fit;
      good = record {
        is_header = header_same front bytes e size ∙ header;
        is_few = rw (count_same front bytes e size) r.counted;
        is_fit = rw (headers_there, segments_there) refl;
        is_whole = rw same (whole_same front bytes hs e notes_fit ∙ notes.1);
      };
    }

pub front-core : (front bytes : List ℕ) (value : FrontValue) → IsRead front value → take (length front) bytes ≡ front → value.end ≤ length bytes
    → core_of bytes ≡ Ok (record { segments = map (segment_by bytes) value.places; threads = value.threads })
front-core front bytes value r e long =
    let hs = headers_of front in
    let b = begun front bytes value r e long in
    let same : headers_of bytes ≡ hs = b.headers in
    let value_is = r.value_is in
    good_is_core bytes b.good ∙ rw (same, segments_by bytes hs, threads_same front bytes hs e b.notes_fit, ← value_is) refl

pub front-parts : (front bytes : List ℕ) (value : FrontValue) → IsRead front value → take (length front) bytes ≡ front → value.end ≤ length bytes → mapped_parts bytes ≡ value.parts
front-parts front bytes value r e long =
    let hs = headers_of front in
    let b = begun front bytes value r e long in
    let same : headers_of bytes ≡ hs = b.headers in
    let header = b.good.is_header in
    let fit = b.good.is_fit in
    rw (header, fit, same, files_same front bytes hs e b.notes_fit) (ap (λ (v : FrontValue). v.parts) r.value_is)

-- a file that doesn't reach up to the end has a segment that passes its end
pub front-short : (front bytes : List ℕ) (value : FrontValue) → IsRead front value → take (length front) bytes ≡ front → length bytes < value.end → core_of bytes ≡ Err Segments
front-short front bytes value r e short =
    let hs = headers_of front in
    let header = r.header in
    let size : 64 ≤ length front = has_size front header in
    let fits : headers_end front ≤ length front = leb-true (headers_end front) (length front) r.fits in
    let same : headers_of bytes ≡ hs = headers_same front bytes e size fits in
    let reaches : segments_end hs ≡ value.end = ap (λ (v : FrontValue). v.end) r.value_is in
    let passes : are_within bytes (headers_of bytes) ≡ false = rw same (false_from_ne_true (are_within bytes hs) (λ is. let within = ends_within (length bytes) hs is in omega arith)) in
    let other : header_count bytes ≢ PN_XNUM = eqb-false (header_count bytes) PN_XNUM (rw (count_same front bytes e size) r.counted) in
    (segments_cause bytes).1 (header_same front bytes e size ∙ header, other, cond_both (headers_fit bytes) (are_within bytes (headers_of bytes)) false (λ (b : Bool). b ≡ false) (λ _. passes) (λ _. refl))

pub front_is : (front : List ℕ) (value : FrontValue) → front_of front ≡ Some value → IsFrontOf front value
front_is front value e =
    let r = read-front front value e in
    record {
      core = λ bytes begins long. front-core front bytes value r begins long;
      parts = λ bytes begins long. front-parts front bytes value r begins long;
      short = λ bytes begins short. front-short front bytes value r begins short;
    }

-- ---- a front of a core file

pub record IsEnough (bytes : List ℕ) (n : ℕ) : Type 0 where
  pub size : 64 ≤ n
  pub headers : headers_end bytes ≤ n
  pub notes : notes_end bytes ≤ n

pub enough_so : (bytes : List ℕ) (n : ℕ) → front_end bytes ≤ n → IsEnough bytes n
unfolding front_end
enough_so bytes n fits = record { size = omega arith; headers = omega arith; notes = omega arith }

-- the program headers and the segments lie within the file
fit_parts : (bytes : List ℕ) → segments_fit bytes ≡ true → (headers_fit bytes ≡ true) × (are_within bytes (headers_of bytes) ≡ true)
fit_parts bytes is = go (headers_fit bytes) refl is
  where
    go : (b : Bool) → headers_fit bytes ≡ b → cond b (are_within bytes (headers_of bytes)) false ≡ true → (b ≡ true) × (are_within bytes (headers_of bytes) ≡ true)
    go true fits is = (refl, is)
    go false fits is = absurd cc

pub front_made : (front : List ℕ) → has_core_header front ≡ true → eqb (header_count front) PN_XNUM ≡ false → headers_fit front ≡ true → has_notes front (headers_of front) ≡ true
    → front_of front ≡ Some (front_to front (headers_of front) (segments_end (headers_of front)))
unfolding front_of
front_made front header counted fits notes = rw (header, counted, fits, notes) refl

-- what a core file's first bytes have, where all program headers are among them
record IsMet (front bytes : List ℕ) : Type 0 where
  size : 64 ≤ length front
  header : has_core_header front ≡ true
  counted : eqb (header_count front) PN_XNUM ≡ false
  fits : headers_fit front ≡ true
  headers : headers_of bytes ≡ headers_of front
  notes : notes_end front ≡ notes_end bytes
  notes_are : last_end PT_NOTE (headers_of front) ≡ notes_end bytes
  reach : segments_end (headers_of front) ≤ length bytes
  whole : notes_are_whole bytes (headers_of front) ≡ true

met : (front bytes : List ℕ) → IsGood bytes → take (length front) bytes ≡ front → 64 ≤ length front → headers_end bytes ≤ length front → IsMet front bytes
met front bytes g e size headers =
    let hs = headers_of front in
    let fit = fit_parts bytes g.is_fit in
    let ends : headers_end bytes ≡ headers_end front = headers_end_same front bytes e size in
    let there : headers_end front ≤ length front = omega arith in
    let same : headers_of bytes ≡ hs = headers_same front bytes e size there in
    let all_there : headers_fit bytes ≡ true = fit.0 in
    let first : headers_fit front ≡ true = le-leb (headers_end front) (length front) there in
    record {
      size = size;
      header = sym (header_same front bytes e size) ∙ g.is_header;
      counted = rw (← count_same front bytes e size) g.is_few;
      fits = first;
      headers = same;
      notes = rw (first, all_there, same) refl;
      notes_are = rw (all_there, same) refl;
      reach = ends_within (length bytes) hs (rw (← same) fit.1);
      whole = rw (← same) g.is_whole;
    }

is_good : (bytes : List ℕ) → IsOk (core_of bytes) → IsGood bytes
is_good bytes ok = go (core_of bytes) refl ok
  where
    go : (r : Result CoreValue CoreError) → core_of bytes ≡ r → IsOk r → IsGood bytes
    go (Ok core) is ok = core_is_good bytes core is
    go (Err e) is ok = absurd cc

pub front_is_read : (front bytes : List ℕ) → IsCoreWithFront front bytes → front_end bytes ≤ length front → IsSome (front_of front)
front_is_read front bytes c fits =
    let n = enough_so bytes (length front) fits in
    let hs = headers_of front in
    let e : take (length front) bytes ≡ front = c.begins in
    let m = met front bytes (is_good bytes c.core) e n.size n.headers in
    let notes_there : notes_end bytes ≤ length front = n.notes in
    let notes_are = m.notes_are in
    let notes_fit : last_end PT_NOTE hs ≤ length front = omega arith in
    let reach = m.reach in
    let few = c.few in
    let word : ltb (segments_end hs) (2 ^ 64) ≡ true = lt-ltb (segments_end hs) (2 ^ 64) (omega arith) in
    let within : leb (last_end PT_NOTE hs) (length front) ≡ true = le-leb (last_end PT_NOTE hs) (length front) notes_fit in
    let whole : notes_are_whole front hs ≡ true = sym (whole_same front bytes hs e notes_fit) ∙ m.whole in
    let notes : has_notes front hs ≡ true = rw (word, within, whole) refl in
    subst (λ (o : Option FrontValue). IsSome o) (sym (front_made front m.header m.counted m.fits notes)) refl

-- ---- how long a front is
file_reach : (file : List ℕ) → IsGood file → 64 ≤ length file → front_end file ≤ length file
unfolding front_end
file_reach file g size =
    let fit = fit_parts file g.is_fit in
    let first : headers_fit file ≡ true = fit.0 in
    let headers : headers_end file ≤ length file = leb-true (headers_end file) (length file) first in
    let reach : segments_end (headers_of file) ≤ length file = ends_within (length file) (headers_of file) fit.1 in
    let notes_are : notes_end file ≡ last_end PT_NOTE (headers_of file) = rw first refl in
    omega arith

record IsSized (front file : List ℕ) : Type 0 where
  header : has_core_header front ≡ true
  counted : eqb (header_count front) PN_XNUM ≡ false
  headers : headers_end file ≤ front_end front
  reach : front_end front ≤ length file

-- the fronts' ends are one where all program headers are there
same_end : (front file : List ℕ) → IsGood file → take (length front) file ≡ front → 64 ≤ length front → headers_end file ≤ length front → front_end front ≡ front_end file
unfolding front_end
same_end front file g e size headers =
    let ends : headers_end file ≡ headers_end front = headers_end_same front file e size in
    let m = met front file g e size headers in
    let notes = m.notes in
    omega arith

sized : (front file : List ℕ) → IsCoreWithFront front file → 64 ≤ length front → IsSized front file
unfolding front_end
sized front file c size =
    let e : take (length front) file ≡ front = c.begins in
    let g = is_good file c.core in
    let ends : headers_end file ≡ headers_end front = headers_end_same front file e size in
    record {
      header = sym (header_same front file e size) ∙ g.is_header;
      counted = rw (← count_same front file e size) g.is_few;
      headers = omega arith;
      reach = go e g (headers_fit front) refl;
    }
  where
    go : take (length front) file ≡ front → IsGood file → (b : Bool) → headers_fit front ≡ b → front_end front ≤ length file
    go e g true is =
        let long = begins_long front file e in
        let ends : headers_end file ≡ headers_end front = headers_end_same front file e size in
        let there : headers_end front ≤ length front = leb-true (headers_end front) (length front) is in
        let same : front_end front ≡ front_end file = same_end front file g e size (omega arith) in
        rw same (file_reach file g (omega arith))
    go e g false is =
        let long = begins_long front file e in
        let ends : headers_end file ≡ headers_end front = headers_end_same front file e size in
        let fit = fit_parts file g.is_fit in
        let headers : headers_end file ≤ length file = leb-true (headers_end file) (length file) fit.0 in
        let none : notes_end front ≡ 0 = rw is refl in
        omega arith

size_is : (front file : List ℕ) → IsSized front file → length file < 2 ^ 64 → front_size front ≡ Some (front_end front)
size_is front file s few =
    let header = s.header in let counted = s.counted in let reach = s.reach in
    rw (header, counted, fits_so (front_end front) (omega arith)) refl

pub size_by_headers : (front file : List ℕ) → IsCoreWithFront front file → 64 ≤ length front → (n : ℕ) × (front_size front ≡ Some n) × (headers_end file ≤ n) × (n ≤ length file)
size_by_headers front file c size =
    let s = sized front file c size in
    (front_end front, size_is front file s c.few, s.headers, s.reach)

pub size_by_all : (front file : List ℕ) → IsCoreWithFront front file → 64 ≤ length front → headers_end file ≤ length front → (front_size front ≡ Some (front_end file)) × (front_end file ≤ length file)
size_by_all front file c size headers =
    let s = sized front file c size in
    let same : front_end front ≡ front_end file = same_end front file (is_good file c.core) c.begins size headers in
    (size_is front file s c.few ∙ ap (λ (n : ℕ). Some n) same, rw (← same) s.reach)
