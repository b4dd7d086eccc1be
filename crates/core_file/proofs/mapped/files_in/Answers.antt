use Rattle.std.proofs.Common.{◌≡◌, ◌∙◌, ℕ, List, Some, None, sym, ap}
use Rattle.core_file.specs.Notes.{notes_of}
use Rattle.core_file.specs.CoreValue.{note_bytes}
use Rattle.core_file.specs.Left.{bytes_left}
use Rattle.core_file.specs.MappedParts.{description_in}
use Rattle.core_file.proofs.MappedLemmas.{files_found, files_pass}
use Rattle.core_file.proofs.mapped.files_in.Goals as goal

pub returns-in-Some : goal.returns-in-Some
returns-in-Some c =
    let bytes = c.args.bytes.now in
    let notes : bytes_left c.over-notes.result ≡ note_bytes bytes c.at.result = c.over-notes.ensures ∙ c.note_bytes.ensures in
    let some : description_in (notes_of (note_bytes bytes c.at.result)) ≡ Some c.in-Some.description.now = ap (λ (b : List ℕ). description_in (notes_of b)) (sym notes) ∙ sym c.in-Some.ensures in
    sym (files_found bytes c.args.headers.now c.loop-i.i c.at.result c.in-Some.description.now c.at.ensures some) ∙ c.loop-i.invariant

pub loop-i-preserved : goal.loop-i-preserved
loop-i-preserved c =
    let bytes = c.args.bytes.now in
    let notes : bytes_left c.over-notes.result ≡ note_bytes bytes c.at.result = c.over-notes.ensures ∙ c.note_bytes.ensures in
    let none : description_in (notes_of (note_bytes bytes c.at.result)) ≡ None = ap (λ (b : List ℕ). description_in (notes_of b)) (sym notes) ∙ sym c.in_default.ensures in
    sym (files_pass bytes c.args.headers.now c.loop-i.i c.at.result c.at.ensures none) ∙ c.loop-i.invariant
