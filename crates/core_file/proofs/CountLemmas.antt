-- How many threads a file of a size has at most.
use Rattle.std.proofs.Common.{◌≡◌, ℕ, zero, suc, ◌+◌, ◌*◌, ◌<◌, ◌≤◌, ◌^◌, List, [], ◌∷◌, ◌==◌, if◌then◌else◌, length, take, drop, get_or, Option, Some, None, Bool, true, false, Ok, refl, ap, subst, arith}
use Rattle.std.specs.List.{cons_option, filter_map}
use Rattle.std.proofs.Math.Nat.{mul-le-mul_right}
use Rattle.std.proofs.lemmas.List.{length-append, length-drop, length-take}
use Rattle.memory_image.specs.Words.{number_of, u16_at}
use Rattle.memory_image.specs.Records.{records_in}
use Rattle.unwind_arch.specs.declared.x86_64.Context.{Context}
use Rattle.core_file.specs.declared.program_header.ProgramHeader.{ProgramHeader}
use Rattle.core_file.specs.ElfHeader.{header_count, headers_offset, program_header_size}
use Rattle.core_file.specs.ProgramHeaders.{PT_NOTE, file_bytes, headers_of, program_header_of}
use Rattle.core_file.specs.Notes.{Note, first_note, note_then, notes_from, notes_of}
use Rattle.core_file.specs.ThreadStatus.{thread_of}
use Rattle.core_file.proofs.CoreLemmas.{core-held}
use Rattle.core_file.specs.CoreValue.{CoreValue, core_of, note_bytes, threads_in_notes, threads_in}

-- ---- numbers of two bytes

small : (xs : List ℕ) (k : ℕ) → ((i : ℕ) → get_or xs i 0 < 256) → number_of (take 2 (drop k xs)) < 65536
small [] zero are = omega arith
small [] (suc k) are = omega arith
small (a ∷ []) zero are = let first = are 0 in omega arith
small (a ∷ b ∷ xs) zero are = let first = are 0 in let second = are 1 in omega arith
small (a ∷ xs) (suc k) are = small xs k (λ i. are (suc i))

pub u16_small : (xs : List ℕ) (k : ℕ) → ((i : ℕ) → get_or xs i 0 < 256) → u16_at xs k < 65536
unfolding u16_at
u16_small xs k are = small xs k are

-- ---- notes and threads

notes_from_few : (most : ℕ) (bytes : List ℕ) → length (notes_from most bytes) ≤ most
notes_from_few zero bytes = omega arith
notes_from_few (suc most) bytes = go (first_note bytes) (notes_from_few most)
  where
    go : (o : Option (Note × List ℕ)) → ((rest : List ℕ) → length (notes_from most rest) ≤ most) → length (note_then o (notes_from most)) ≤ suc most
    go None few = omega arith
    go (Some p) few = let later = few p.1 in omega arith

notes_few : (bytes : List ℕ) → length (notes_of bytes) ≤ length bytes
unfolding notes_of
notes_few bytes = notes_from_few (length bytes) bytes

given_few : (notes : List Note) → length (filter_map thread_of notes) ≤ length notes
given_few [] = omega arith
given_few (n ∷ notes) = let later = given_few notes in go (thread_of n) later
  where
    go : (o : Option Context) → length (filter_map thread_of notes) ≤ length notes → length (cons_option o (filter_map thread_of notes)) ≤ length (n ∷ notes)
    go None later = omega arith
    go (Some c) later = omega arith

in_notes_few : (bytes : List ℕ) → length (threads_in_notes bytes) ≤ length bytes
unfolding threads_in_notes
in_notes_few bytes = let given = given_few (notes_of bytes) in let notes = notes_few bytes in omega arith

file_bytes_few : (bytes : List ℕ) (h : ProgramHeader) → length (file_bytes bytes h) ≤ length bytes
file_bytes_few bytes h =
    let front = length-take h.p_filesz (drop h.p_offset bytes) in
    let rest = length-drop h.p_offset bytes in
    omega arith

note_bytes_few : (bytes : List ℕ) (h : ProgramHeader) → length (note_bytes bytes h) ≤ length bytes
note_bytes_few bytes h = go (h.p_type == PT_NOTE)
  where
    go : (b : Bool) → length (if b then file_bytes bytes h else []) ≤ length bytes
    go true = file_bytes_few bytes h
    go false = omega arith

-- each segment has as many threads as the file has bytes, or fewer
pub threads_few : (bytes : List ℕ) (hs : List ProgramHeader) → length (threads_in bytes hs) ≤ length hs * length bytes
threads_few bytes [] = omega arith
threads_few bytes (h ∷ hs) =
    let here = in_notes_few (note_bytes bytes h) in
    let size = note_bytes_few bytes h in
    let later = threads_few bytes hs in
    let both = length-append (threads_in_notes (note_bytes bytes h)) (threads_in bytes hs) in
    product (length bytes) (length hs) _ _ _ both (omega arith) later
  where
    product : (n k here later all : ℕ) → all ≡ here + later → here ≤ n → later ≤ k * n → all ≤ suc k * n
    product n k here later all is first rest = omega arith

-- ---- program headers

records_count : (size : ℕ) (bytes : List ℕ) (n : ℕ) → length (records_in size program_header_of bytes n) ≡ n
records_count size bytes zero = refl
records_count size bytes (suc n) = ap suc (records_count size (drop size bytes) n)

-- the threads of up to 2^48 bytes: there are fewer than 2^16 program headers
pub threads_countable : (bytes : List ℕ) → ((i : ℕ) → get_or bytes i 0 < 256) → length bytes ≤ 2 ^ 48 → length (threads_in bytes (headers_of bytes)) < 2 ^ 64
threads_countable bytes are fits =
    let hs = headers_of bytes in
    let few = threads_few bytes hs in
    let headers : length hs ≡ header_count bytes = records_count program_header_size (drop (headers_offset bytes) bytes) (header_count bytes) in
    let count : header_count bytes < 65536 = u16_small bytes 56 are in
    product (length hs) (length bytes) _ few (omega arith) fits
  where
    product : (k n all : ℕ) → all ≤ k * n → k < 65536 → n ≤ 281474976710656 → all < 18446744073709551616
    product k n all few count fits = let most : k * n ≤ 65535 * n = mul-le-mul_right n (omega arith) in omega arith

pub core_countable : (bytes : List ℕ) (core : CoreValue) → core_of bytes ≡ Ok core → ((i : ℕ) → get_or bytes i 0 < 256) → length bytes ≤ 2 ^ 48 → length core.threads < 2 ^ 64
core_countable bytes core is are fits =
    let held : threads_in bytes (headers_of bytes) ≡ core.threads = ap (λ (v : CoreValue). v.threads) (core-held bytes core is) in
    subst (λ (ts : List Context). length ts < 2 ^ 64) held (threads_countable bytes are fits)
