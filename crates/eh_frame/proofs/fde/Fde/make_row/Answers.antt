use Rattle.std.proofs.Common.{◌≡◌, true, sym, ◌∙◌}
use Rattle.unwind_definitions.specs.Pointers.{Bases}
use Rattle.unwind_definitions.specs.Entries.{Fde}
use Rattle.unwind_definitions.specs.Row.{covers_pc}
use Rattle.encoded_pointers.specs.CursorViews.{at}
use Rattle.encoded_pointers.specs.PointerViews.{bases_of}
use Rattle.eh_frame.specs.EntryViews.{fde_of}
use Rattle.frame_rows.specs.InstructionViews.{coding_in}
use Rattle.frame_rows.specs.Rows.{row_in_place}
use Rattle.eh_frame.proofs.Described.{of_description}
use Rattle.eh_frame.proofs.fde.Fde.make_row.Goals as goal

pub returns : goal.returns
returns c =
    let bases : Bases = bases_of c.args.bases.now in
    let fde : Fde = fde_of c.args.self.now in
    let covers : covers_pc fde c.args.pc ≡ true = sym c.contains.ensures ∙ c.if-not-contains.false in
    of_description bases fde c.args.pc (row_in_place c.make.result c.make.new.self) (coding_in c.coding.result) (at c.instructions.result) (at c.instructions-2.result)
    covers c.coding.ensures c.instructions.ensures c.instructions-2.ensures c.make.ensures
