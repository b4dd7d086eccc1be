use Rattle.std.proofs.Common.{◌≡◌, [], drop}
use Rattle.core_file.specs.CoreValue.{threads_in, threads_in_notes}
use Rattle.core_file.proofs.threads.ThreadsIterator.next.Given as goal

abbrev pub invariant-loop-i : goal.invariant-loop-i
invariant-loop-i l = record {
  bytes : l.self.bytes.now ≡ l.fn.self.bytes.now;
  headers : l.self.headers ≡ l.fn.self.headers;
  notes : threads_in_notes l.self.notes.bytes.now ≡ [];
  before : threads_in_notes l.fn.self.notes.bytes.now ≡ [];
  left : threads_in l.fn.self.bytes.now (drop l.i l.fn.self.headers) ≡ threads_in l.fn.self.bytes.now l.fn.self.headers;
}
