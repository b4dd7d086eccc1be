use Rattle.unwind_definitions.specs.Pointers.{Bases}
use Rattle.encoded_pointers.specs.PointerViews.{bases_of}
use Rattle.std.proofs.Common.{sym, subst, Result}
use Rattle.unwind_definitions.specs.declared.error.Error.{Error as Fault}
use Rattle.unwind_definitions.specs.Entries.{Cie}
use Rattle.encoded_pointers.specs.Readers.{Answers}
use Rattle.encoded_pointers.specs.CursorViews.{at}
use Rattle.eh_frame.specs.EntryViews.{cie_of, table_of}
use Rattle.eh_frame.proofs.EntryParts.{cie_is}
use Rattle.eh_frame.proofs.entries.EhFrame.cie_at.Goals as goal

pub returns-in-Some : goal.returns-in-Some
returns-in-Some c =
    let bases : Bases = bases_of c.args.bases.now in
    let e = cie_is bases (table_of c.args.self.now) c.args.offset (at c.from-input.result) c.from-input.ensures _ _ (rw c.in-Some.is at c.in_ok-read_body.ensures) in
    let P : Result Cie Fault → Type 0 = λ given. Answers cie_of c.cie_in.result given in
    subst P (sym e) c.cie_in.ensures
