-- The numbers of refusals, and where they are.
use Rattle.std.specs.Prelude.{ℕ}
use Rattle.memory_image.specs.declared.errors.ImageError.{ImageError}
use Rattle.memory_image.specs.declared.errors.ImageError.TheVariants as image
use Rattle.stack_steps.specs.declared.space.SpaceError.{SpaceError}
use Rattle.stack_steps.specs.declared.space.SpaceError.TheVariants as space
use Rattle.kalzurenk_c.specs.declared.refusal.Place.{Place}
use Rattle.kalzurenk_c.specs.declared.refusal.Refusal.{Refusal}
use Rattle.kalzurenk_c.specs.declared.refusal.Refusal.TheVariants.{NoMemory, Region, Module, Format, RegionSize, ModuleSize, RegistersSize, EndSize, FrameSize, PlaceSize, ThrowSize, ResumeSize, DeliverySize, CleanupSize}
use Rattle.kalzurenk_c.specs.Sizes.{place_size}

abbrev pub region_refusal : ℕ → ImageError → Refusal
region_refusal place image.NoMemory = NoMemory
region_refusal place e = Region place e

abbrev pub module_refusal : ℕ → SpaceError → Refusal
module_refusal place space.NoMemory = NoMemory
module_refusal place e = Module place e

abbrev pub image_status : ImageError → ℕ
image_status image.NoMemory = 1
image_status image.Empty = 2
image_status image.Wraps = 3
image_status (image.Overlap start) = 4

abbrev pub space_status : SpaceError → ℕ
space_status space.NoMemory = 1
space_status space.Wraps = 6
space_status (space.Overlap start) = 7

-- the number of a refusal, as the header has it
abbrev pub status_of : Refusal → ℕ
status_of NoMemory = 1
status_of (Region place e) = image_status e
status_of (Module place e) = space_status e
status_of (Format place) = 5
status_of (RegionSize place) = 8
status_of (ModuleSize place) = 9
status_of RegistersSize = 10
status_of EndSize = 11
status_of FrameSize = 12
status_of PlaceSize = 13
status_of ThrowSize = 14
status_of (ResumeSize place) = 15
status_of DeliverySize = 16
status_of CleanupSize = 17

abbrev pub image_overlap : ImageError → ℕ
image_overlap (image.Overlap start) = start
image_overlap e = 0

abbrev pub space_overlap : SpaceError → ℕ
space_overlap (space.Overlap start) = start
space_overlap e = 0

abbrev pub at_place : ℕ → ℕ → Place
at_place index address = record { size = place_size; index = index; address = address }

-- what is faulty, and which start it overlaps
abbrev pub place_of : Refusal → Place
place_of (Region place e) = at_place place (image_overlap e)
place_of (Module place e) = at_place place (space_overlap e)
place_of (Format place) = at_place place 0
place_of (RegionSize place) = at_place place 0
place_of (ModuleSize place) = at_place place 0
place_of (ResumeSize place) = at_place place 0
place_of _ = at_place 0 0

-- the place after a refusal; it is as before where its own size isn't known
abbrev pub place_after : Refusal → Place → Place
place_after PlaceSize before = before
place_after e before = place_of e
