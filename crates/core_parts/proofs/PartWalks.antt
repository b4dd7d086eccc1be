-- A walk over parts of a core's memory that meets nothing unmapped is the walk over all of it.
use Rattle.std.proofs.Common.{◌≡◌, ◌≤◌, ℕ, Bool, List, [], ◌∷◌, length, map, refl}
use Rattle.std.specs.List.{AllByRecursion}
use Rattle.unwind_arch.specs.declared.x86_64.Context.{Context}
use Rattle.core_file.specs.declared.places.SegmentPlace.{SegmentPlace}
use Rattle.core_file.specs.Fronts.{FrontValue, segment_by}
use Rattle.stack_walks.specs.Lines.{line_of}
use Rattle.mapped_modules.specs.Loading.{LoadedValue}
use Rattle.mapped_modules.specs.Spaces.{space_of_core, tables_of}
use Rattle.part_walks.specs.Parts.{IsMapped}
use Rattle.part_walks.specs.Windows.{AreWindowsOf, IsWindowOf, image_of_tables}
use Rattle.part_walks.proofs.CoreWindows.{core_walk}
use Rattle.core_parts.specs.Parts.{CanBeWalkedByParts, IsStackPart}
use Rattle.core_parts.proofs.Segments.{apart_tables, laid_segments, part_within, segment_at}

-- what is read of a part of a segment is a window of it
window_of : (bytes : List ℕ) (loaded : List LoadedValue) (places : List SegmentPlace) (part : SegmentPlace) → IsStackPart places (tables_of loaded) part
    → IsWindowOf (image_of_tables loaded) (map (segment_by bytes) places) (segment_by bytes part)
window_of bytes loaded places part is = record {
  place = is.index;
  segment = segment_by bytes is.place;
  among = segment_at bytes places is.index is.place is.among;
  apart = apart_tables bytes is.place (tables_of loaded) [] is.apart refl;
  within = part_within bytes part is.place is.lies;
}

pub windows_of : (bytes : List ℕ) (loaded : List LoadedValue) (places parts : List SegmentPlace) → AllByRecursion (IsStackPart places (tables_of loaded)) parts
    → AreWindowsOf (image_of_tables loaded) (map (segment_by bytes) places) (map (segment_by bytes) parts)
windows_of bytes loaded places [] all = tt
windows_of bytes loaded places (p ∷ ps) all = (window_of bytes loaded places p all.0, windows_of bytes loaded places ps all.1)

pub walk_by_parts : (bytes : List ℕ) (front : FrontValue) (loaded : List LoadedValue) (parts : List SegmentPlace) → front.end ≤ length bytes → CanBeWalkedByParts front loaded → AllByRecursion (IsStackPart front.places (tables_of loaded)) parts
    → (limit : ℕ) (c : Context) (interrupted : Bool) → IsMapped (line_of (space_of_core loaded (map (segment_by bytes) parts)) limit c interrupted)
    → line_of (space_of_core loaded (map (segment_by bytes) front.places)) limit c interrupted ≡ line_of (space_of_core loaded (map (segment_by bytes) parts)) limit c interrupted
walk_by_parts bytes front loaded parts long can all =
    core_walk loaded (map (segment_by bytes) front.places) (map (segment_by bytes) parts) can.tables (laid_segments bytes front.end long 0 front.places can.laid_out) (windows_of bytes loaded front.places parts all)
