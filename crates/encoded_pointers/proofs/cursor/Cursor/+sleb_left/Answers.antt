use Rattle.std.proofs.Common.{arith, refl, ◌∙◌}
use Rattle.std.proofs.lemmas.Result.{err_from_is_err_and}
use Rattle.encoded_pointers.proofs.Leb.{sleb_more}
use Rattle.encoded_pointers.specs.CursorViews.{at}
use Rattle.encoded_pointers.proofs.cursor.Cursor.+sleb_left.Goals as goal

pub returns-in_err-high : goal.returns-in_err-high
returns-in_err-high t c =
    let p = err_from_is_err_and c.from_residual-in_err-high.result c.from_residual-in_err-high.ensures.1 in
    let step = sleb_more c.args.left (at c.args.self.now) c.in_ok-byte.byte (at c.read_u8.new.self) (omega arith) c.in_ok-byte.ensures.reads (omega arith) in
    rw (p.1, p.2) (step ∙ rw c.in_err-high.ensures refl)
