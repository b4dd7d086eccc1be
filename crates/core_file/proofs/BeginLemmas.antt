-- What a file says by its first bytes is what these say.
use Rattle.std.proofs.Common.{◌≡◌, ℕ, zero, suc, ◌+◌, ◌-◌, ◌*◌, ◌≤◌, Bool, true, false, eqb, cond, List, [], ◌∷◌, length, take, drop, min, refl, sym, ap, ◌∙◌, arith}
use Rattle.std.specs.Prelude.{nat_eq}
use Rattle.std.specs.Cmp.Lexicographic.{pointwise}
use Rattle.std.specs.List.{starts_with}
use Rattle.std.proofs.lemmas.Bool.{le-leb}
use Rattle.std.proofs.lemmas.List.{drop-take, take-take, length-take}
use Rattle.memory_image.specs.Words.{u16_at, u64_at, u16_at-take, u64_at-take}
use Rattle.memory_image.specs.Records.{records_in}
use Rattle.core_file.specs.declared.program_header.ProgramHeader.{ProgramHeader}
use Rattle.core_file.specs.ElfHeader.{identification, has_core_header, header_count, headers_offset, program_header_size}
use Rattle.core_file.specs.ProgramHeaders.{PT_NOTE, program_header_of, headers_of, file_bytes}
use Rattle.core_file.specs.CoreValue.{note_bytes, threads_in, notes_are_whole}
use Rattle.core_file.specs.MappedParts.{files_in}
use Rattle.core_file.specs.Fronts.{end_of, last_end, headers_end}

pub begins_long : (front bytes : List ℕ) → take (length front) bytes ≡ front → length front ≤ length bytes
begins_long front bytes e =
    let shorter : min (length front) (length bytes) ≡ length front = sym (length-take (length front) bytes) ∙ ap length e in
    omega arith

-- what stands at an offset within the front stands there in the file
drop_front : {A : Type 0} (k m : ℕ) (xs : List A) → k ≤ m → drop k (take m xs) ≡ take (m - k) (drop k xs)
drop_front k m xs h =
    let whole : k + (m - k) ≡ m = omega arith in
    rw (sym whole) (drop-take k (m - k) xs ∙ rw whole refl)

-- ---- the header

u16_same : (front bytes : List ℕ) (k : ℕ) → take (length front) bytes ≡ front → k + 2 ≤ length front → u16_at bytes k ≡ u16_at front k
u16_same front bytes k e fits = sym (u16_at-take bytes (length front) k fits) ∙ ap (λ (xs : List ℕ). u16_at xs k) e

u64_same : (front bytes : List ℕ) (k : ℕ) → take (length front) bytes ≡ front → k + 8 ≤ length front → u64_at bytes k ≡ u64_at front k
u64_same front bytes k e fits = sym (u64_at-take bytes (length front) k fits) ∙ ap (λ (xs : List ℕ). u64_at xs k) e

starts_same : (front bytes : List ℕ) → take (length front) bytes ≡ front → 6 ≤ length front → starts_with nat_eq bytes identification ≡ starts_with nat_eq front identification
starts_same front bytes e fits = ap (λ (xs : List ℕ). pointwise nat_eq identification xs) (sym (take-take 6 (length front) bytes fits) ∙ ap (take 6) e)

pub header_same : (front bytes : List ℕ) → take (length front) bytes ≡ front → 64 ≤ length front → has_core_header bytes ≡ has_core_header front
header_same front bytes e long =
    let within = begins_long front bytes e in
    let here : 64 ≤ length bytes = omega arith in
    rw (
      le-leb 64 (length bytes) here,
      le-leb 64 (length front) long,
      starts_same front bytes e (omega arith),
      u16_same front bytes 16 e (omega arith),
      u16_same front bytes 18 e (omega arith),
      u16_same front bytes 54 e (omega arith),
    ) refl

pub count_same : (front bytes : List ℕ) → take (length front) bytes ≡ front → 64 ≤ length front → header_count bytes ≡ header_count front
count_same front bytes e long = u16_same front bytes 56 e (omega arith)

pub offset_same : (front bytes : List ℕ) → take (length front) bytes ≡ front → 64 ≤ length front → headers_offset bytes ≡ headers_offset front
offset_same front bytes e long = u64_same front bytes 32 e (omega arith)

pub headers_end_same : (front bytes : List ℕ) → take (length front) bytes ≡ front → 64 ≤ length front → headers_end bytes ≡ headers_end front
headers_end_same front bytes e long = rw (count_same front bytes e long, offset_same front bytes e long) refl

-- ---- the program headers

records_front : {T : Type 0} (size : ℕ) (value_of : List ℕ → T) (xs : List ℕ) (m n : ℕ) → n * size ≤ m → records_in size value_of (take m xs) n ≡ records_in size value_of xs n
records_front size value_of xs m zero fits = refl
records_front size value_of xs m (suc n) fits =
    let one : size ≤ m = omega arith in
    let others : n * size ≤ m - size = omega arith in
    let first : take size (take m xs) ≡ take size xs = take-take size m xs one in
    let rest : drop size (take m xs) ≡ take (m - size) (drop size xs) = drop_front size m xs one in
    rw (first, rest, records_front size value_of (drop size xs) (m - size) n others) refl

pub headers_same : (front bytes : List ℕ) → take (length front) bytes ≡ front → 64 ≤ length front → headers_end front ≤ length front → headers_of bytes ≡ headers_of front
headers_same front bytes e long fits =
    let offset = headers_offset front in
    let count = header_count front in
    let cut : drop offset front ≡ take (length front - offset) (drop offset bytes) = ap (drop offset) (sym e) ∙ drop_front offset (length front) bytes (omega arith) in
    let within : count * program_header_size ≤ length front - offset = omega arith in
    rw (count_same front bytes e long, offset_same front bytes e long)
    (sym (ap (λ (xs : List ℕ). records_in program_header_size program_header_of xs count) cut ∙ records_front program_header_size program_header_of (drop offset bytes) (length front - offset) count within))

-- ---- the notes

file_same : (front bytes : List ℕ) (h : ProgramHeader) → take (length front) bytes ≡ front → h.p_offset + h.p_filesz ≤ length front → file_bytes bytes h ≡ file_bytes front h
file_same front bytes h e fits =
    let cut : drop h.p_offset front ≡ take (length front - h.p_offset) (drop h.p_offset bytes) = ap (drop h.p_offset) (sym e) ∙ drop_front h.p_offset (length front) bytes (omega arith) in
    sym (ap (take h.p_filesz) cut ∙ take-take h.p_filesz (length front - h.p_offset) (drop h.p_offset bytes) (omega arith))

note_same : (front bytes : List ℕ) (h : ProgramHeader) → take (length front) bytes ≡ front → end_of PT_NOTE h ≤ length front → note_bytes bytes h ≡ note_bytes front h
note_same front bytes h e fits = go (eqb h.p_type PT_NOTE) refl fits
  where
    go : (b : Bool) → eqb h.p_type PT_NOTE ≡ b → cond b (h.p_offset + h.p_filesz) 0 ≤ length front → cond b (file_bytes bytes h) [] ≡ cond b (file_bytes front h) []
    go true is fits = file_same front bytes h e fits
    go false is fits = refl

pub threads_same : (front bytes : List ℕ) (hs : List ProgramHeader) → take (length front) bytes ≡ front → last_end PT_NOTE hs ≤ length front → threads_in bytes hs ≡ threads_in front hs
threads_same front bytes [] e fits = refl
threads_same front bytes (h ∷ hs) e fits =
    rw (note_same front bytes h e (omega arith), threads_same front bytes hs e (omega arith)) refl

pub whole_same : (front bytes : List ℕ) (hs : List ProgramHeader) → take (length front) bytes ≡ front → last_end PT_NOTE hs ≤ length front → notes_are_whole bytes hs ≡ notes_are_whole front hs
whole_same front bytes [] e fits = refl
whole_same front bytes (h ∷ hs) e fits =
    rw (note_same front bytes h e (omega arith), whole_same front bytes hs e (omega arith)) refl

pub files_same : (front bytes : List ℕ) (hs : List ProgramHeader) → take (length front) bytes ≡ front → last_end PT_NOTE hs ≤ length front → files_in bytes hs ≡ files_in front hs
files_same front bytes [] e fits = refl
files_same front bytes (h ∷ hs) e fits =
    rw (note_same front bytes h e (omega arith), files_same front bytes hs e (omega arith)) refl
