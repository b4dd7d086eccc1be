-- What the iterators over a core file have left.
use Rattle.std.specs.Prelude.{ℕ, ◌++◌, List}
use Rattle.memory_image.specs.Image.{Span}
use Rattle.unwind_arch.specs.declared.x86_64.Context.{Context}
use Rattle.core_file.specs.declared.notes.NoteEntry.{NoteEntry}
use Rattle.core_file.specs.declared.notes.NoteEntries.{NoteEntries}
use Rattle.core_file.specs.declared.places.Places.{Places}
use Rattle.core_file.specs.declared.places.SegmentPlace.{SegmentPlace}
use Rattle.core_file.specs.declared.segments.Segments.{Segments}
use Rattle.core_file.specs.declared.threads.Threads.{Threads}
use Rattle.core_file.specs.Notes.{Note, notes_of}
use Rattle.core_file.specs.ProgramHeaders.{segments_in}
use Rattle.core_file.specs.CoreValue.{threads_in_notes, threads_in}
use Rattle.core_file.specs.Fronts.{places_in}

abbrev pub note_of : NoteEntry → Note
note_of entry = record { name = entry.name.now; description = entry.description.now; kind = entry.kind }

abbrev pub bytes_left : NoteEntries → List ℕ
bytes_left entries = entries.bytes.now

abbrev pub notes_left : NoteEntries → List Note
notes_left entries = notes_of entries.bytes.now

abbrev pub segments_left : Segments → List Span
segments_left segments = segments_in segments.bytes.now segments.headers

abbrev pub threads_left : Threads → List Context
threads_left threads = threads_in_notes threads.notes.bytes.now ++ threads_in threads.bytes.now threads.headers

abbrev pub places_left : Places → List SegmentPlace
places_left places = places_in places.headers
