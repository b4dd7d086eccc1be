use Rattle.std.proofs.Common.{◌≡◌, ◌∙◌, ◌∷◌, List, ℕ, length, slice_get, Some, None, sym, ap, arith, refl}
use Rattle.memory_image.specs.Regions.{span_of}
use Rattle.core_file.specs.declared.program_header.ProgramHeader.{ProgramHeader}
use Rattle.core_file.specs.ProgramHeaders.{segment_in, segments_in}
use Rattle.core_file.specs.Left.{segments_left}
use Rattle.core_file.proofs.ThreadLemmas.{segments_give, segments_skip}
use Rattle.core_file.proofs.segments.SegmentsIterator.next.Goals as goal

given : (c : goal.After-self-1) → segments_left c.args.self.now ≡ span_of c.in-Some.segment ∷ segments_in c.loop-i.self.bytes.now c.after-self.result
given c =
    let before = c.loop-i.invariant in
    let at : slice_get c.args.self.now.headers c.loop-i.i ≡ Some c.at.result = sym (ap (λ (hs : List ProgramHeader). slice_get hs c.loop-i.i) before.headers) ∙ c.at.ensures in
    let some : segment_in c.args.self.now.bytes.now c.at.result ≡ Some (span_of c.in-Some.segment) = sym (ap (λ (bytes : List ℕ). segment_in bytes c.at.result) before.bytes) ∙ sym c.in-Some.ensures in
    sym before.left ∙ segments_give c.args.self.now.bytes.now c.args.self.now.headers c.loop-i.i c.at.result (span_of c.in-Some.segment) at some
    ∙ rw (c.after-self.ensures, before.bytes, before.headers) refl

pub returns-in-Some-clause-steps : goal.returns-in-Some-clause-steps
returns-in-Some-clause-steps c = given c

pub returns-in-Some-clause-goes : goal.returns-in-Some-clause-goes
returns-in-Some-clause-goes c = let shorter = ap length (given c) in record { on = λ _. (tt, tt, omega arith); keeps = tt; rests = λ _. tt }

pub loop-i-preserved : goal.loop-i-preserved
loop-i-preserved c =
    let before = c.loop-i.invariant in
    let at : slice_get c.args.self.now.headers c.loop-i.i ≡ Some c.at.result = sym (ap (λ (hs : List ProgramHeader). slice_get hs c.loop-i.i) before.headers) ∙ c.at.ensures in
    let none : segment_in c.args.self.now.bytes.now c.at.result ≡ None = sym (ap (λ (bytes : List ℕ). segment_in bytes c.at.result) before.bytes) ∙ sym c.in_default.ensures in
    record {
      bytes = before.bytes;
      headers = before.headers;
      left = sym (segments_skip c.args.self.now.bytes.now c.args.self.now.headers c.loop-i.i c.at.result at none) ∙ before.left;
    }
