-- What is read of the files that were mapped: of each its front, and the segment that has its frame table.
use Rattle.std.specs.Prelude.{◌≡◌, ℕ, List, map, Option, Some, None}
use Rattle.std.specs.List.{filter_map}
use Rattle.std.specs.Option.{option_and_then, option_map}
use Rattle.memory_image.specs.Image.{Span}
use Rattle.core_file.specs.MappedParts.{PartValue}
use Rattle.fde_finders.specs.declared.phdr.Phdr.{Phdr}
use Rattle.stack_steps.specs.declared.space.Module.{Module}
use Rattle.mapped_modules.specs.declared.loading.Front.{Front}
use Rattle.mapped_modules.specs.declared.loading.LoadedModule.{LoadedModule}
use Rattle.mapped_modules.specs.declared.places.ModulePlace.{ModulePlace}
use Rattle.mapped_files.specs.Files.{front_of, part_at}
use Rattle.mapped_files.specs.Front.{program_headers}
use Rattle.mapped_modules.specs.Places.{place_of}

-- a module, and the segment that has its frame table
pub record LoadedValue : Type 0 where
  pub code : Module
  pub table : Span

abbrev pub loaded_value : LoadedModule → LoadedValue
loaded_value l = record { code = l.code; table = record { start = l.address; bytes = l.bytes.items } }

abbrev pub place_by : PartValue → List Phdr → Option ModulePlace
place_by part hs = place_of hs part

-- the place of the module whose code a part is of a file that begins so
abbrev pub place_in : List ℕ → PartValue → Option ModulePlace
place_in front part = option_and_then (place_by part) (program_headers front)

abbrev pub loaded_at : List ℕ → ModulePlace → LoadedValue
loaded_at file place = record { code = place.code; table = record { start = place.address; bytes = part_at place.offset place.size file } }

-- the module whose code a part is
abbrev pub loaded_of : (List ℕ → List ℕ) → PartValue → Option LoadedValue
loaded_of files part = option_map (loaded_at (files part.path)) (place_in (front_of (files part.path)) part)

-- the modules of parts, in their order
abbrev pub loaded_from : (List ℕ → List ℕ) → List PartValue → List LoadedValue
loaded_from files parts = filter_map (loaded_of files) parts

-- ---- the front that was read last

abbrev pub IsFront : (List ℕ → List ℕ) → Front → Type 0
IsFront files front = front.bytes.items ≡ front_of (files front.path.now)

abbrev pub IsLastFront : (List ℕ → List ℕ) → Option Front → Type 0
IsLastFront files None = Unit {0}
IsLastFront files (Some front) = IsFront files front
