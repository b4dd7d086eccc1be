use Rattle.std.proofs.Common.{◌≡◌, Some, arith}
use Rattle.std.proofs.lemmas.Result.{err_from_is_err_and}
use Rattle.unwind_definitions.specs.Pointers.{Bases}
use Rattle.encoded_pointers.specs.PointerViews.{bases_of}
use Rattle.eh_frame.proofs.indexed_fde.read_pointer.Goals as goal

pub returns-in_err-read_relative : goal.returns-in_err-read_relative
returns-in_err-read_relative c =
    let usual : c.args.encoding.0 ≡ 0x1b = grind (arith, c.eq.ensures, c.if-eq.true) in
    let bases : Bases = record (bases_of c.args.bases.now) { func = Some c.args.start } in
    let p = err_from_is_err_and c.from_residual.result c.from_residual.ensures.1 in
    rw (p.1, p.2, usual) (c.in_err-read_relative.ensures.pointer bases)

pub returns-then-eq : goal.returns-then-eq
returns-then-eq c =
    let usual : c.args.encoding.0 ≡ 0x1b = grind (arith, c.eq.ensures, c.if-eq.true) in
    let bases : Bases = record (bases_of c.args.bases.now) { func = Some c.args.start } in
    rw usual (c.in_ok-read_relative.ensures.pointer bases)
