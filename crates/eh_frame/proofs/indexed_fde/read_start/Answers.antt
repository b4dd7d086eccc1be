use Rattle.std.proofs.Common.{◌≡◌, ℕ, sym, subst, arith}
use Rattle.unwind_definitions.specs.Pointers.{direct}
use Rattle.encoded_pointers.specs.Readers.{GivesOr}
use Rattle.encoded_pointers.specs.CursorViews.{at}
use Rattle.encoded_pointers.specs.PointerViews.{bases_of}
use Rattle.eh_frame.proofs.indexed_fde.read_start.Goals as goal

pub returns-then-eq : goal.returns-then-eq
returns-then-eq c =
    let usual : c.args.encoding.0 ≡ 0x1b = grind (arith, c.eq.ensures, c.if-eq.true) in
    let P : ℕ → Type 0 = λ e. GivesOr {X = ℕ} {Y = ℕ} (λ x. x) c.read_relative.result (direct e (bases_of c.args.bases.now) (at c.args.input.now)) (at c.read_relative.new.input) in
    subst P (sym usual) (c.read_relative.ensures.direct (bases_of c.args.bases.now))
