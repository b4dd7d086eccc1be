-- What a core file holds, by the bytes of the file, or which part of it is the first faulty one.
use Rattle.std.specs.Prelude.{ℕ, ◌==◌, Bool, false, List, [], Option, Some, None, Result, Ok, Err, if◌then◌else◌}
use Rattle.std.specs.List.{list_all, filter_map, flat_map}
use Rattle.memory_image.specs.Image.{Span}
use Rattle.unwind_arch.specs.declared.x86_64.Context.{Context}
use Rattle.core_file.specs.declared.errors.CoreError.{CoreError}
use Rattle.core_file.specs.declared.errors.CoreError.TheVariants as faults
use Rattle.core_file.specs.declared.program_header.ProgramHeader.{ProgramHeader}
use Rattle.core_file.specs.ElfHeader.{has_core_header, header_count, PN_XNUM}
use Rattle.core_file.specs.ProgramHeaders.{PT_NOTE, headers_of, headers_fit, are_within, file_bytes, segments_in}
use Rattle.core_file.specs.Notes.{notes_of, are_whole_notes}
use Rattle.core_file.specs.ThreadStatus.{thread_of}

-- the memory that a file has, and the registers of its threads
pub record CoreValue : Type 0 where
  pub segments : List Span
  pub threads : List Context

-- the bytes of a segment of notes, none of another segment
abbrev pub note_bytes : List ℕ → ProgramHeader → List ℕ
note_bytes bytes h = if h.p_type == PT_NOTE then file_bytes bytes h else []

-- the threads of which notes tell
unfoldable pub threads_in_notes : List ℕ → List Context
threads_in_notes bytes = filter_map thread_of (notes_of bytes)

-- the threads of which the notes of these segments tell
abbrev pub threads_in : List ℕ → List ProgramHeader → List Context
threads_in bytes hs = flat_map (λ h. threads_in_notes (note_bytes bytes h)) hs

abbrev pub core_with : List ℕ → List ProgramHeader → CoreValue
core_with bytes hs = record { segments = segments_in bytes hs; threads = threads_in bytes hs }

-- segments of notes are whole notes
abbrev pub notes_are_whole : List ℕ → List ProgramHeader → Bool
notes_are_whole bytes hs = list_all (λ h. are_whole_notes (note_bytes bytes h)) hs

-- the program headers and the segments lie within the file
abbrev pub segments_fit : List ℕ → Bool
segments_fit bytes = if headers_fit bytes then are_within bytes (headers_of bytes) else false

-- the program headers, where that is so
abbrev pub headers_within : List ℕ → Option (List ProgramHeader)
headers_within bytes = if segments_fit bytes then Some (headers_of bytes) else None

-- what a core file holds, or why the bytes are none
unfoldable pub core_of : List ℕ → Result CoreValue CoreError
core_of bytes =
    if has_core_header bytes then
    (if header_count bytes == PN_XNUM then Err faults.ManySegments
    else (if segments_fit bytes then
    (if notes_are_whole bytes (headers_of bytes) then Ok (core_with bytes (headers_of bytes)) else Err faults.Notes)
    else Err faults.Segments))
    else Err faults.Header
