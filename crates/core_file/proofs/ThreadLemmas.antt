-- The threads of which notes tell, and the segments of program headers, one after another.
use Rattle.std.proofs.Common.{◌≡◌, ℕ, ◌+◌, ◌≤◌, List, [], ◌∷◌, ◌++◌, length, drop, slice_get, Option, Some, None, refl, ap, ◌∙◌, arith}
use Rattle.std.specs.List.{cons_option}
use Rattle.memory_image.specs.Image.{Span}
use Rattle.unwind_arch.specs.declared.x86_64.Context.{Context}
use Rattle.core_file.specs.declared.places.SegmentPlace.{SegmentPlace}
use Rattle.core_file.specs.declared.program_header.ProgramHeader.{ProgramHeader}
use Rattle.core_file.specs.ProgramHeaders.{segment_in, segments_in}
use Rattle.core_file.specs.Notes.{Note, notes_of}
use Rattle.core_file.specs.ThreadStatus.{thread_of}
use Rattle.core_file.specs.CoreValue.{note_bytes, threads_in_notes, threads_in}
use Rattle.core_file.specs.Fronts.{place_in, places_in}
use Rattle.core_file.proofs.ListLemmas.{drop_at_get}
use Rattle.core_file.proofs.NoteLemmas.{none_of_none}

-- ---- notes

pub threads_end : (bytes : List ℕ) → notes_of bytes ≡ [] → threads_in_notes bytes ≡ []
unfolding threads_in_notes
threads_end bytes e = rw e refl

pub threads_none : threads_in_notes [] ≡ []
threads_none = threads_end [] none_of_none

pub threads_skip : (bytes rest : List ℕ) (note : Note) → notes_of bytes ≡ note ∷ notes_of rest → thread_of note ≡ None → threads_in_notes bytes ≡ threads_in_notes rest
unfolding threads_in_notes
threads_skip bytes rest note e none = rw (e, none) refl

pub threads_give : (bytes rest : List ℕ) (note : Note) (c : Context) → notes_of bytes ≡ note ∷ notes_of rest → thread_of note ≡ Some c → threads_in_notes bytes ≡ c ∷ threads_in_notes rest
unfolding threads_in_notes
threads_give bytes rest note c e some = rw (e, some) refl

-- ---- program headers

pub segments_skip : (bytes : List ℕ) (hs : List ProgramHeader) (i : ℕ) (h : ProgramHeader) → slice_get hs i ≡ Some h → segment_in bytes h ≡ None → segments_in bytes (drop i hs) ≡ segments_in bytes (drop (i + 1) hs)
segments_skip bytes hs i h at none = ap (segments_in bytes) (drop_at_get hs i h at) ∙ rw none refl

pub segments_give : (bytes : List ℕ) (hs : List ProgramHeader) (i : ℕ) (h : ProgramHeader) (s : Span) → slice_get hs i ≡ Some h → segment_in bytes h ≡ Some s → segments_in bytes (drop i hs) ≡ s ∷ segments_in bytes (drop (i + 1) hs)
segments_give bytes hs i h s at some = ap (segments_in bytes) (drop_at_get hs i h at) ∙ rw some refl

pub threads_pass : (bytes : List ℕ) (hs : List ProgramHeader) (i : ℕ) (h : ProgramHeader) → slice_get hs i ≡ Some h → threads_in_notes (note_bytes bytes h) ≡ [] → threads_in bytes (drop i hs) ≡ threads_in bytes (drop (i + 1) hs)
threads_pass bytes hs i h at none = ap (threads_in bytes) (drop_at_get hs i h at) ∙ rw none refl

pub threads_found : (bytes : List ℕ) (hs : List ProgramHeader) (i : ℕ) (h : ProgramHeader) (c : Context) (others : List Context) → slice_get hs i ≡ Some h → threads_in_notes (note_bytes bytes h) ≡ c ∷ others → threads_in bytes (drop i hs) ≡ c ∷ (others ++ threads_in bytes (drop (i + 1) hs))
threads_found bytes hs i h c others at some = ap (threads_in bytes) (drop_at_get hs i h at) ∙ rw some refl

-- there are no more segments than program headers
pub segments_few : (bytes : List ℕ) (hs : List ProgramHeader) → length (segments_in bytes hs) ≤ length hs
segments_few bytes [] = omega arith
segments_few bytes (h ∷ hs) = let later = segments_few bytes hs in go (segment_in bytes h) later
  where
    go : (o : Option Span) → length (segments_in bytes hs) ≤ length hs → length (cons_option o (segments_in bytes hs)) ≤ length (h ∷ hs)
    go None later = omega arith
    go (Some s) later = omega arith

-- ---- where segments of memory lie

pub places_skip : (hs : List ProgramHeader) (i : ℕ) (h : ProgramHeader) → slice_get hs i ≡ Some h → place_in h ≡ None → places_in (drop i hs) ≡ places_in (drop (i + 1) hs)
places_skip hs i h at none = ap places_in (drop_at_get hs i h at) ∙ rw none refl

pub places_give : (hs : List ProgramHeader) (i : ℕ) (h : ProgramHeader) (p : SegmentPlace) → slice_get hs i ≡ Some h → place_in h ≡ Some p → places_in (drop i hs) ≡ p ∷ places_in (drop (i + 1) hs)
places_give hs i h p at some = ap places_in (drop_at_get hs i h at) ∙ rw some refl

-- there are no more of them than program headers
pub places_few : (hs : List ProgramHeader) → length (places_in hs) ≤ length hs
places_few [] = omega arith
places_few (h ∷ hs) = let later = places_few hs in go (place_in h) later
  where
    go : (o : Option SegmentPlace) → length (places_in hs) ≤ length hs → length (cons_option o (places_in hs)) ≤ length (h ∷ hs)
    go None later = omega arith
    go (Some p) later = omega arith
