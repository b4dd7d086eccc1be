-- The lines of a core's threads by parts of its file. No public clause cites this.
use Rattle.std.specs.Prelude.{◌≡◌, ◌⊎◌, ℕ, ◌^◌, ◌<◌, ◌≤◌, Bool, true, false, List, length, map, take, Some, Ok, IsOk}
use Rattle.unwind_arch.specs.declared.x86_64.Context.{Context}
use Rattle.core_file.specs.CoreValue.{CoreValue, core_of}
use Rattle.core_file.specs.ElfHeader.{header_size}
use Rattle.core_file.specs.Fronts.{FrontValue, front_end, front_of, headers_end, segment_by}
use Rattle.core_file.specs.MappedParts.{PartValue, mapped_parts}
use Rattle.stack_steps.specs.Modules.{SpaceValue}
use Rattle.core_walks.specs.Lines.{threads_text}
use Rattle.core_walks.specs.MappedWalks.{AreMapped}
use Rattle.mapped_modules.specs.Loading.{LoadedValue}
use Rattle.mapped_modules.specs.Spaces.{space_of_core}
use Rattle.mapped_names.specs.Places.{parts_of}
use Rattle.core_parts.specs.Parts.{CanBeWalkedByParts, stack_parts}
use Rattle.named_walks.specs.Marking.{AreMarkedMapped}
use Rattle.named_walks.specs.Named.{named_threads_text}
use Rattle.core_stacks.specs.Due.{modules_in, most_bytes, most_states}

-- the most bytes of a core's front that are read
abbrev pub most_front : ℕ
most_front = 2 ^ 26

-- The bytes of a file are a core, of fewer than 2^64 bytes, whose front isn't too long.
pub record HasShortFront (bytes : List ℕ) : Type 0 where
  pub core : IsOk (core_of bytes)
  pub few : length bytes < 2 ^ 64
  pub short : front_end bytes ≤ most_front

-- As many of its first bytes have its header and its program headers.
pub record HasHeaders (front bytes : List ℕ) : Type 0 where
  pub header : header_size ≤ length front
  pub headers : headers_end bytes ≤ length front

-- the core that the bytes of a file are whose front says this
abbrev pub core_by : List ℕ → FrontValue → CoreValue
core_by bytes front = record { segments = map (segment_by bytes) front.places; threads = front.threads }

-- The bytes of a file, no more than are read as a core, are that core.
pub record IsCoreBy (bytes : List ℕ) (front : FrontValue) : Type 0 where
  pub short : length bytes ≤ most_bytes
  pub long : front.end ≤ length bytes
  pub reads : core_of bytes ≡ Ok (core_by bytes front)
  pub parts : mapped_parts bytes ≡ front.parts

-- the lines of threads over a space
abbrev pub lines_over : Bool → (List ℕ → List ℕ) → List PartValue → SpaceValue → List Context → List ℕ
lines_over true files parts space cs = named_threads_text files parts space most_states 0 cs
lines_over false files parts space cs = threads_text space most_states 0 cs

-- no walk of them meets something that isn't mapped
abbrev pub AreWalked : Bool → SpaceValue → List Context → Type 0
AreWalked true space cs = AreMarkedMapped space most_states cs
AreWalked false space cs = AreMapped space most_states cs

-- the lines over all of the memory that a front says
abbrev pub lines_by : Bool → (List ℕ → List ℕ) → List ℕ → FrontValue → List LoadedValue → List ℕ
lines_by names files bytes front loaded = lines_over names files (parts_of front.parts) (space_of_core loaded (map (segment_by bytes) front.places)) front.threads

-- ---- when parts suffice

-- what the threads are walked over by windows of their stacks, each of at most so many bytes
abbrev pub space_by : List ℕ → FrontValue → List LoadedValue → ℕ → SpaceValue
space_by bytes front loaded size = space_of_core loaded (map (segment_by bytes) (stack_parts front loaded size))

-- no walk leaves these
abbrev pub AreWalkedBy : Bool → List ℕ → FrontValue → List LoadedValue → ℕ → Type 0
AreWalkedBy names bytes front loaded size = AreWalked names (space_by bytes front loaded size) front.threads

-- The core may be walked by parts, and no walk leaves windows of 32 KiB, or none leaves windows of 1 MiB.
pub record Suffice (names : Bool) (bytes : List ℕ) (front : FrontValue) (loaded : List LoadedValue) : Type 0 where
  pub can : CanBeWalkedByParts front loaded
  pub walked : AreWalkedBy names bytes front loaded (2 ^ 15) ⊎ AreWalkedBy names bytes front loaded (2 ^ 20)

-- they suffice by what the first bytes of a file say
abbrev pub SufficeBy : Bool → (List ℕ → List ℕ) → List ℕ → Type 0
SufficeBy names files bytes = (front : List ℕ) (value : FrontValue) → take (length front) bytes ≡ front → front_of front ≡ Some value → Suffice names bytes value (modules_in files value.parts)
