-- Which bytes are a core file that holds these segments and threads.
use Rattle.std.specs.Prelude.{◌≡◌, ◌≢◌, ◌++◌, ℕ, List, [], ◌∷◌, IsTrue}
use Rattle.std.specs.List.{filter_map}
use Rattle.core_file.specs.declared.program_header.ProgramHeader.{ProgramHeader}
use Rattle.core_file.specs.ElfHeader.{has_core_header, header_count, PN_XNUM}
use Rattle.core_file.specs.ProgramHeaders.{headers_of, segments_in}
use Rattle.core_file.specs.Notes.{Note}
use Rattle.core_file.specs.NoteGrammar.{AreNotes}
use Rattle.core_file.specs.ThreadStatus.{thread_of}
use Rattle.core_file.specs.CoreValue.{CoreValue, note_bytes, segments_fit}

-- the segments of notes spell these notes, segment after segment
abbrev pub SpellNotes : List ℕ → List ProgramHeader → List Note → Type 0
SpellNotes bytes [] notes = notes ≡ []
SpellNotes bytes (h ∷ hs) notes = (first : List Note) × (others : List Note) × AreNotes (note_bytes bytes h) first × SpellNotes bytes hs others × (notes ≡ first ++ others)

-- The header is that of a core file and counts the program headers; these and the segments lie within the file; its memory is
-- that of the segments of memory; and the segments of notes spell notes, of which those on threads tell of its threads.
pub record IsCore (bytes : List ℕ) (value : CoreValue) : Type 0 where
  pub header : IsTrue (has_core_header bytes)
  pub counted : header_count bytes ≢ PN_XNUM
  pub within : IsTrue (segments_fit bytes)
  pub segments : value.segments ≡ segments_in bytes (headers_of bytes)
  pub notes : List Note
  pub spelled : SpellNotes bytes (headers_of bytes) notes
  pub threads : value.threads ≡ filter_map thread_of notes
