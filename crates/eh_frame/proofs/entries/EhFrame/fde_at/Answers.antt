use Rattle.std.proofs.Common.{sym, subst, ◌∙◌, Result, arith}
use Rattle.std.proofs.lemmas.Result.{err_from_is_err_and}
use Rattle.unwind_definitions.specs.declared.error.Error.{Error as Fault}
use Rattle.unwind_definitions.specs.Pointers.{Bases}
use Rattle.unwind_definitions.specs.Entries.{Fde}
use Rattle.encoded_pointers.specs.PointerViews.{bases_of}
use Rattle.encoded_pointers.specs.Readers.{Answers}
use Rattle.encoded_pointers.specs.CursorViews.{at}
use Rattle.eh_frame.specs.EntryViews.{fde_of, table_of}
use Rattle.eh_frame.proofs.EntryParts.{by_body, by_fault, by_none, within_table}
use Rattle.eh_frame.proofs.entries.EhFrame.fde_at.Goals as goal

pub returns-in_err-read_body : goal.returns-in_err-read_body
returns-in_err-read_body c =
    let bases : Bases = bases_of c.args.bases.now in
    let p = err_from_is_err_and c.from_residual.result c.from_residual.ensures.1 in
    rw (p.1, p.2) (within_table bases (table_of c.args.self.now) c.args.offset (omega arith)
    ∙ by_fault bases (table_of c.args.self.now) c.args.offset (at c.from-input.result) c.from-input.ensures _ c.in_err-read_body.ensures)

pub returns-in-None : goal.returns-in-None
returns-in-None c =
    let bases : Bases = bases_of c.args.bases.now in
    within_table bases (table_of c.args.self.now) c.args.offset (omega arith)
    ∙ by_none bases (table_of c.args.self.now) c.args.offset (at c.from-input.result) c.from-input.ensures _ (rw c.in-None.is at c.in_ok-read_body.ensures)

pub returns-in-Some : goal.returns-in-Some
returns-in-Some c =
    let bases : Bases = bases_of c.args.bases.now in
    let e = within_table bases (table_of c.args.self.now) c.args.offset (omega arith)
    ∙ by_body bases (table_of c.args.self.now) c.args.offset (at c.from-input.result) c.from-input.ensures _ _ (rw c.in-Some.is at c.in_ok-read_body.ensures) in
    let P : Result Fde Fault → Type 0 = λ given. Answers fde_of c.fde_in.result given in
    subst P (sym e) c.fde_in.ensures
