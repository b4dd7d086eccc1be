-- Lists of parts and of program headers.
use Rattle.std.proofs.Common.{◌≡◌, ℕ, zero, suc, ◌+◌, Bool, true, false, List, [], ◌∷◌, ◌++◌, map, drop, slice_get, Some, cond, refl, ap, ◌∙◌, append_assoc, lit≤}
use Rattle.std.specs.List.{position, prefix_len}
use Rattle.std.specs.Option.{option_and_then, option_map}
use Rattle.std.proofs.lemmas.List.{length-map, map-append, take-take}
use Rattle.core_file.proofs.ListLemmas.{drop_at_get}
use Rattle.fde_finders.specs.declared.phdr.Phdr.{Phdr}
use Rattle.elf_symbols.specs.Functions.{table_in, table_of}
use Rattle.elf_symbols.specs.Header.{section_table}
use Rattle.mapped_files.specs.Files.{front_of}
use Rattle.mapped_names.specs.Places.{address_by, address_with, code_at}
use Rattle.mapped_names.specs.Reading.{table_by_front}

prefix-map : {A B : Type 0} (q : B → Bool) (f : A → B) (xs : List A) → prefix_len q (map f xs) ≡ prefix_len (λ x. q (f x)) xs
prefix-map q f [] = refl
prefix-map q f (x ∷ xs) = ap (λ (n : ℕ). cond (q (f x)) (1 + n) 0) (prefix-map q f xs)

pub position-map : {A B : Type 0} (p : B → Bool) (f : A → B) (xs : List A) → position p (map f xs) ≡ position (λ x. p (f x)) xs
position-map p f xs = rw (prefix-map, length-map) refl

pub one_more : {A B : Type 0} (f : A → B) (front : List A) (x : A) (rest whole : List B) → map f front ++ f x ∷ rest ≡ whole → map f (front ++ x ∷ []) ++ rest ≡ whole
one_more f front x rest whole e = rw (map-append, append_assoc) e

pub address_here : (place : ℕ) (hs : List Phdr) (i : ℕ) (h : Phdr) → slice_get hs i ≡ Some h → code_at place h ≡ true → address_by place (drop i hs) ≡ Some (address_with place h)
address_here place hs i h at is = ap (address_by place) (drop_at_get hs i h at) ∙ rw is refl

pub address_later : (place : ℕ) (hs : List Phdr) (i : ℕ) (h : Phdr) → slice_get hs i ≡ Some h → code_at place h ≡ false → address_by place (drop i hs) ≡ address_by place (drop (i + 1) hs)
address_later place hs i h at is = ap (address_by place) (drop_at_get hs i h at) ∙ rw is refl

-- what the file's first 64 bytes say, its front says
pub front_tells : (file : List ℕ) → table_by_front file (front_of file) ≡ table_of file
unfolding table_of
front_tells file = ap (λ (bytes : List ℕ). option_and_then (table_in file) (section_table bytes)) (take-take 64 4096 file (lit≤ tt))

pub slice_get-map : {A B : Type 0} (f : A → B) (xs : List A) (i : ℕ) → slice_get (map f xs) i ≡ option_map f (slice_get xs i)
slice_get-map f [] i = refl
slice_get-map f (x ∷ xs) zero = refl
slice_get-map f (x ∷ xs) (suc i) = slice_get-map f xs i
