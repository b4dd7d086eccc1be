use Rattle.std.proofs.Common.{arith, Result, subst, sym}
use Rattle.unwind_definitions.specs.declared.error.Error.{Error as Fault}
use Rattle.unwind_definitions.specs.Entries.{Entry}
use Rattle.unwind_definitions.specs.Pointers.{Bases}
use Rattle.encoded_pointers.specs.PointerViews.{bases_of}
use Rattle.encoded_pointers.specs.Readers.{Answers}
use Rattle.encoded_pointers.specs.CursorViews.{at}
use Rattle.eh_frame.specs.EntryViews.{entry_of, table_of}
use Rattle.eh_frame.proofs.EntryParts.{is_naming}
use Rattle.eh_frame.proofs.entries.EhFrame.entry_in.Goals as goal

pub returns-in-None : goal.returns-in-None
returns-in-None c =
    let bases : Bases = bases_of c.args.bases.now in
    let e = is_naming bases (table_of c.args.self.now) c.args.offset (at c.args.body) (at c.read_u32.new.self) c.in_ok-id.field-0 c.offset-place.result c.in_ok-id.ensures.reads c.if-id-eq0.false c.offset-place.ensures (omega arith) in
    let P : Result Entry Fault → Type 0 = λ given. Answers entry_of c.entry_of_other.result given in
    subst P (sym e) c.entry_of_other.ensures
