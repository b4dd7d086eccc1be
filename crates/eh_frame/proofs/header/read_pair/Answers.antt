use Rattle.std.proofs.Common.{◌≡◌, ℕ, sym, subst, arith}
use Rattle.unwind_definitions.specs.Header.{pair_from}
use Rattle.encoded_pointers.specs.Readers.{Answers}
use Rattle.encoded_pointers.specs.CursorViews.{at}
use Rattle.encoded_pointers.specs.PointerViews.{bases_of}
use Rattle.eh_frame.proofs.header.read_pair.Goals as goal

pub returns-in-Some : goal.returns-in-Some
returns-in-Some c =
    let usual : c.args.encoding.0 ≡ 0x3b = grind (arith, c.eq.ensures, c.if-eq.true) in
    let P : ℕ → Type 0 = λ e. Answers {X = ℕ × ℕ} {Y = ℕ × ℕ} (λ p. p) c.read_relative_pair.result (pair_from e (bases_of c.args.bases.now) (at c.args.input)) in
    subst P (sym usual) (c.read_relative_pair.ensures (bases_of c.args.bases.now) c.in-Some.is)
