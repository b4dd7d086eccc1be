-- Files of parts, and places in them.
use Rattle.std.proofs.Common.{◌≡◌, ℕ, List, Some, None, Result, Ok, Err, Option, Bor, sym}
use Rattle.std.specs.Prelude.{IfOk, IfSome, slice_get}
use Rattle.std.specs.Option.{option_copied, option_map}
use Rattle.core_file.specs.MappedParts.{PartValue}
use Rattle.mapped_files.specs.declared.files.PartError.{PartError}
use Rattle.mapped_names.specs.declared.places.CodePlace.{CodePlace}
use Rattle.mapped_names.specs.declared.reading.NamedFile.{NamedFile}
use Rattle.mapped_names.specs.Places.{index_at, place_at_index, place_in_part, place_of, place_value}
use Rattle.mapped_names.specs.Reading.{IsFileAt, IsNamedFile}

pub file_at : (all : List ℕ → List ℕ) (parts : List PartValue) (index : ℕ) (part : PartValue) (r : Result NamedFile PartError) → slice_get parts index ≡ Some part → IfOk r (λ file. IsNamedFile (all part.path) file) → IfOk r (IsFileAt all parts index)
file_at all parts index part (Ok file) is h = rw is h
file_at all parts index part (Err e) is h = tt

pub named_at : (all : List ℕ → List ℕ) (parts : List PartValue) (index : ℕ) (part : PartValue) (file : NamedFile) → slice_get parts index ≡ Some part → IsFileAt all parts index file → IsNamedFile (all part.path) file
named_at all parts index part file is h = rw is at h

pub placed : (all : List ℕ → List ℕ) (parts : List PartValue) (a index : ℕ) (part : PartValue) (r : Result (Option CodePlace) PartError) → slice_get parts index ≡ Some part
    → IfOk r (λ place. option_map place_value place ≡ place_in_part all a part) → IfOk r (λ place. option_map place_value place ≡ place_at_index all parts a index)
placed all parts a index part (Ok place) is h = rw is h
placed all parts a index part (Err e) is h = tt

pub at_first : (all : List ℕ → List ℕ) (parts : List PartValue) (a index : ℕ) (r : Result (Option CodePlace) PartError) → index_at a parts ≡ Some index
    → IfOk r (λ place. option_map place_value place ≡ place_at_index all parts a index) → IfOk r (λ place. option_map place_value place ≡ place_of all parts a)
unfolding place_of
at_first all parts a index (Ok place) is h = rw is h
at_first all parts a index (Err e) is h = tt

-- what a map lends is what it has
pub lent : (P : NamedFile → Type 0) (o : Option (Bor NamedFile)) (stored : Option NamedFile) → option_copied o ≡ stored → IfSome stored P → IfSome o (λ file. P file.now)
lent P None stored e h = tt
lent P (Some file) stored e h = rw (sym e) at h
