use Rattle.std.proofs.Common.{◌≡◌, drop}
use Rattle.core_file.specs.ProgramHeaders.{segments_in}
use Rattle.core_file.proofs.segments.SegmentsIterator.next.Given as goal

abbrev pub invariant-loop-i : goal.invariant-loop-i
invariant-loop-i l = record {
  bytes : l.self.bytes.now ≡ l.fn.self.bytes.now;
  headers : l.self.headers ≡ l.fn.self.headers;
  left : segments_in l.fn.self.bytes.now (drop l.i l.fn.self.headers) ≡ segments_in l.fn.self.bytes.now l.fn.self.headers;
}
