-- The parts of files, one after another, and the note that tells of them.
use Rattle.std.proofs.Common.{◌≡◌, ℕ, ◌+◌, List, [], ◌∷◌, drop, slice_get, Some, None, refl, ap, ◌∙◌, true, false}
use Rattle.core_file.specs.declared.mapped.PartEntry.{PartEntry}
use Rattle.core_file.specs.declared.program_header.ProgramHeader.{ProgramHeader}
use Rattle.core_file.specs.Notes.{Note, notes_of}
use Rattle.core_file.specs.CoreValue.{note_bytes}
use Rattle.core_file.specs.MappedParts.{is_on_files, description_in, files_in, split_path, part_with, parts_from}
use Rattle.core_file.proofs.ListLemmas.{drop_at_get}

-- ---- parts

pub parts_pathless : (page : ℕ) (es : List PartEntry) (paths : List ℕ) → split_path paths ≡ None → parts_from page es paths ≡ []
parts_pathless page [] paths none = refl
parts_pathless page (e ∷ es) paths none = rw none refl

pub parts_end : (page : ℕ) (es : List PartEntry) (paths : List ℕ) → slice_get es 0 ≡ None → parts_from page es paths ≡ []
parts_end page [] paths none = refl
parts_end page (e ∷ es) paths none = absurd cc

pub parts_give : (page : ℕ) (es : List PartEntry) (paths : List ℕ) (e : PartEntry) (path rest : List ℕ) → slice_get es 0 ≡ Some e → split_path paths ≡ Some (path, rest)
    → parts_from page es paths ≡ part_with page e path ∷ parts_from page (drop 1 es) rest
parts_give page [] paths e path rest first split = absurd cc
parts_give page (x ∷ xs) paths e path rest first split = let same : x ≡ e = cc in rw (split, same) refl

-- ---- notes

pub description_skip : (ns rest : List Note) (n : Note) → ns ≡ n ∷ rest → is_on_files n ≡ false → description_in ns ≡ description_in rest
description_skip ns rest n e isnt = rw (e, isnt) refl

pub description_give : (ns rest : List Note) (n : Note) → ns ≡ n ∷ rest → is_on_files n ≡ true → description_in ns ≡ Some n.description
description_give ns rest n e is = rw (e, is) refl

pub files_pass : (bytes : List ℕ) (hs : List ProgramHeader) (i : ℕ) (h : ProgramHeader) → slice_get hs i ≡ Some h → description_in (notes_of (note_bytes bytes h)) ≡ None → files_in bytes (drop i hs) ≡ files_in bytes (drop (i + 1) hs)
files_pass bytes hs i h at none = ap (files_in bytes) (drop_at_get hs i h at) ∙ rw none refl

pub files_found : (bytes : List ℕ) (hs : List ProgramHeader) (i : ℕ) (h : ProgramHeader) (d : List ℕ) → slice_get hs i ≡ Some h → description_in (notes_of (note_bytes bytes h)) ≡ Some d → files_in bytes (drop i hs) ≡ Some d
files_found bytes hs i h d at some = ap (files_in bytes) (drop_at_get hs i h at) ∙ rw some refl
