use Rattle.std.proofs.Common.{arith, refl, ◌∙◌, ◌-◌}
use Rattle.std.proofs.lemmas.Result.{err_from_is_err_and}
use Rattle.encoded_pointers.proofs.Leb.{uleb_more, bound_first, bound_more, bound_word}
use Rattle.encoded_pointers.specs.CursorViews.{at}
use Rattle.encoded_pointers.proofs.cursor.Cursor.+uleb_left.Goals as goal

pub returns-then-byte-lt128-clause-bound : goal.returns-then-byte-lt128-clause-bound
returns-then-byte-lt128-clause-bound t c = bound_first c.args.left c.in_ok-byte.byte (omega arith) (omega arith)

pub returns-in_err-high-clause-reads : goal.returns-in_err-high-clause-reads
returns-in_err-high-clause-reads t c =
    let p = err_from_is_err_and c.from_residual-in_err-high.result c.from_residual-in_err-high.ensures.1 in
    let step = uleb_more c.args.left (at c.args.self.now) c.in_ok-byte.byte (at c.read_u8.new.self) (omega arith) c.in_ok-byte.ensures.reads (omega arith) in
    rw (p.1, p.2) (step ∙ rw c.in_err-high.ensures.reads refl)

pub overflow_mul-result : goal.overflow_mul-result
overflow_mul-result t c = let b = bound_word c.args.left c.in_ok-high.high (omega arith) (omega arith) c.in_ok-high.ensures.bound in omega (arith, b)

pub overflow_add-result : goal.overflow_add-result
overflow_add-result t c = let b = bound_word c.args.left c.in_ok-high.high (omega arith) (omega arith) c.in_ok-high.ensures.bound in omega (arith, b)

pub returns-clause-bound : goal.returns-clause-bound
returns-clause-bound t c = bound_more c.args.left (c.in_ok-byte.byte - 128) c.in_ok-high.high (omega arith) (omega arith) c.in_ok-high.ensures.bound
