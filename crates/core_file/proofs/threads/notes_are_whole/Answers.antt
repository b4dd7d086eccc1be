use Rattle.std.proofs.Common.{◌≡◌, true, false, ◌∙◌, sym, ap}
use Rattle.core_file.specs.Notes.{are_whole_notes}
use Rattle.core_file.specs.CoreValue.{note_bytes}
use Rattle.core_file.proofs.ListLemmas.{all_pass, all_fail}
use Rattle.core_file.proofs.threads.notes_are_whole.Goals as goal

pub returns-then-not-are_whole_notes : goal.returns-then-not-are_whole_notes
returns-then-not-are_whole_notes c =
    let fails : are_whole_notes (note_bytes c.args.bytes.now c.at.result) ≡ false = sym (ap are_whole_notes c.note_bytes.ensures) ∙ sym c.if-not-are_whole_notes.ensures in
    sym (all_fail (λ h. are_whole_notes (note_bytes c.args.bytes.now h)) c.args.headers.now c.loop-i.i c.at.result c.at.ensures fails) ∙ c.loop-i.invariant

pub loop-i-preserved : goal.loop-i-preserved
loop-i-preserved c =
    let passes : are_whole_notes (note_bytes c.args.bytes.now c.at.result) ≡ true = sym (ap are_whole_notes c.note_bytes.ensures) ∙ sym c.if-not-are_whole_notes.ensures in
    sym (all_pass (λ h. are_whole_notes (note_bytes c.args.bytes.now h)) c.args.headers.now c.loop-i.i c.at.result c.at.ensures passes) ∙ c.loop-i.invariant
