use Rattle.std.proofs.Common.{◌≡◌, ◌*◌, ◌^◌, ◌-◌, ◌<◌, ◌≤◌, ℕ, length, ap, subst, ◌∙◌, arith, Result}
use Rattle.std.specs.Prelude.{min}
use Rattle.unwind_definitions.specs.declared.error.Error.{Error as Fault}
use Rattle.unwind_definitions.specs.Header.{pair_from}
use Rattle.encoded_pointers.specs.Readers.{Answers}
use Rattle.encoded_pointers.specs.CursorViews.{at}
use Rattle.encoded_pointers.specs.PointerViews.{bases_of}
use Rattle.eh_frame.specs.HeaderViews.{pairs_of}
use Rattle.eh_frame.proofs.PastEnd.{passed, pair_there}
use Rattle.eh_frame.proofs.header.HdrTable.pair.Goals as goal

pub returns : goal.returns
returns c =
    let range = c.args.self.now.entries.in_range in
    let small : length c.args.self.now.entries.bytes.now < 2 ^ 64 = omega arith in
    let before : c.min-before.result ≡ min (min (c.args.i * (2 * c.args.self.now.width)) (2 ^ 64 - 1)) (length c.args.self.now.entries.bytes.now) = omega arith in
    let there : c.min-before.result ≤ length c.args.self.now.entries.bytes.now = omega arith in
    let place = passed c.min-before.result (at c.args.self.now.entries) (at c.skip.new.self) there c.in_ok-skip.ensures.reads in
    let P : Result (ℕ × ℕ) Fault → Type 0 = λ r. Answers {X = ℕ × ℕ} {Y = ℕ × ℕ} (λ p. p) c.read_pair.result r in
    subst P (ap (pair_from c.args.self.now.encoding.0 (bases_of c.args.self.now.bases)) place ∙ pair_there (pairs_of c.args.self.now) c.args.i c.min-before.result before small) c.read_pair.ensures
