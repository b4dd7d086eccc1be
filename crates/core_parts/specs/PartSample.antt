-- A core whose one segment is the stack of a thread, and the part of it that the thread's walk reads.
use Rattle.std.specs.Prelude.{[], ◌∷◌, None}
use Rattle.core_file.specs.declared.places.SegmentPlace.{SegmentPlace}
use Rattle.core_file.specs.Fronts.{FrontValue}
use Rattle.part_walks.specs.PartSample.{start}

abbrev pub place : SegmentPlace
place = record { address = 0x6ff8; offset = 0; size = 32 }

-- from the stack pointer on, without the word before it and the one at the end
abbrev pub part : SegmentPlace
part = record { address = 0x7000; offset = 8; size = 16 }

abbrev pub front : FrontValue
front = record { threads = start ∷ []; places = place ∷ []; parts = None; end = 32 }
