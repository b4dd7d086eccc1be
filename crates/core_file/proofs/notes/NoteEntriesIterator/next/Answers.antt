use Rattle.std.proofs.Common.{sym}
use Rattle.core_file.proofs.NoteLemmas.{notes_end, none_of_none}
use Rattle.core_file.proofs.notes.NoteEntriesIterator.next.Goals as goal

pub returns-in_err-note-clause-steps : goal.returns-in_err-note-clause-steps
returns-in_err-note-clause-steps c = rw c.from_residual.ensures (notes_end c.args.self.now.bytes.now (sym c.in_err-note.ensures), none_of_none)
