use Rattle.std.proofs.Common.{◌≡◌, ◌∙◌, [], ◌∷◌, ◌++◌, List, ℕ, length, slice_get, Some, sym, ap, arith, refl}
use Rattle.core_file.specs.declared.program_header.ProgramHeader.{ProgramHeader}
use Rattle.core_file.specs.CoreValue.{note_bytes, threads_in_notes, threads_in}
use Rattle.core_file.specs.Left.{bytes_left, threads_left}
use Rattle.core_file.proofs.ThreadLemmas.{threads_found, threads_pass}
use Rattle.core_file.proofs.threads.ThreadsIterator.next.Goals as goal

given : (c : goal.After-self-in-Some-next_thread-1) → threads_left c.args.self.now ≡ c.in-Some-next_thread.context ∷ (threads_in_notes (bytes_left c.next_thread-in-loop-i.new.notes) ++ threads_in c.loop-i.self.bytes.now c.after-self.result)
given c =
    let before = c.loop-i.invariant in
    let bytes = c.args.self.now.bytes.now in
    let headers = c.args.self.now.headers in
    let at : slice_get headers c.loop-i.i ≡ Some c.at.result = sym (ap (λ (hs : List ProgramHeader). slice_get hs c.loop-i.i) before.headers) ∙ c.at.ensures in
    let notes : bytes_left c.over-notes.result ≡ note_bytes bytes c.at.result = c.over-notes.ensures ∙ c.note_bytes.ensures ∙ ap (λ (b : List ℕ). note_bytes b c.at.result) before.bytes in
    let some : threads_in_notes (note_bytes bytes c.at.result) ≡ c.in-Some-next_thread.context ∷ threads_in_notes (bytes_left c.next_thread-in-loop-i.new.notes) = sym (ap threads_in_notes notes) ∙ c.in-Some-next_thread.ensures in
    rw before.before
    (sym before.left ∙ threads_found bytes headers c.loop-i.i c.at.result c.in-Some-next_thread.context (threads_in_notes (bytes_left c.next_thread-in-loop-i.new.notes)) at some
    ∙ rw (c.after-self.ensures, before.bytes, before.headers) refl)

pub returns-in-Some-next_thread-clause-steps : goal.returns-in-Some-next_thread-clause-steps
returns-in-Some-next_thread-clause-steps c = given c

pub returns-in-Some-next_thread-clause-goes : goal.returns-in-Some-next_thread-clause-goes
returns-in-Some-next_thread-clause-goes c = let shorter = ap length (given c) in record { on = λ _. (tt, tt, omega arith); keeps = tt; rests = λ _. tt }

pub loop-i-preserved : goal.loop-i-preserved
loop-i-preserved c =
    let before = c.loop-i.invariant in
    let bytes = c.args.self.now.bytes.now in
    let headers = c.args.self.now.headers in
    let at : slice_get headers c.loop-i.i ≡ Some c.at.result = sym (ap (λ (hs : List ProgramHeader). slice_get hs c.loop-i.i) before.headers) ∙ c.at.ensures in
    let notes : bytes_left c.over-notes.result ≡ note_bytes bytes c.at.result = c.over-notes.ensures ∙ c.note_bytes.ensures ∙ ap (λ (b : List ℕ). note_bytes b c.at.result) before.bytes in
    let none : threads_in_notes (note_bytes bytes c.at.result) ≡ [] = sym (ap threads_in_notes notes) ∙ c.in_default-next_thread.ensures.0 in
    record {
      bytes = before.bytes;
      headers = before.headers;
      notes = before.notes;
      before = before.before;
      left = sym (threads_pass bytes headers c.loop-i.i c.at.result at none) ∙ before.left;
    }
