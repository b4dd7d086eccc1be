use Rattle.std.proofs.Common.{ℕ, sym, subst}
use Rattle.unwind_definitions.specs.Input.{Input}
use Rattle.unwind_definitions.specs.Entries.{Cie, coding_of}
use Rattle.unwind_definitions.specs.Instructions.{Coding, Program, program}
use Rattle.unwind_definitions.specs.Pointers.{Bases}
use Rattle.encoded_pointers.specs.PointerViews.{bases_of}
use Rattle.encoded_pointers.specs.CursorViews.{at}
use Rattle.frame_rows.specs.Begun.{HasBegun}
use Rattle.frame_rows.specs.InstructionViews.{coding_in}
use Rattle.frame_rows.specs.KeptRows.{Adds}
use Rattle.eh_frame.specs.EntryViews.{cie_of}
use Rattle.eh_frame.proofs.indexed_fde.IndexedFde.add_rows.Goals as goal

pub returns-in-Last-clause-rows : goal.returns-in-Last-clause-rows
returns-in-Last-clause-rows c =
    let cie : Cie = cie_of c.args.cie.now in
    let bases : Bases = bases_of c.args.bases.now in
    let own : Input = at c.args.self.now.program in
    let common : Program = program (coding_of bases cie) cie.program in
    let start = c.args.self.now.initial_address in
    subst (λ (n : ℕ). Adds c.args.rows.now.limits start n common (program (coding_of bases cie) own) c.args.rows.now.table c.add_next.result c.add_next.new.self.table) c.end-end.ensures
    (subst (λ (k : Coding). Adds c.args.rows.now.limits start c.end-end.result common (program k own) c.args.rows.now.table c.add_next.result c.add_next.new.self.table) c.coding-coding.ensures
    (c.add_next.ensures.rows common (rw c.in-Last.is at c.requires.begun)))

pub returns-in-BeforeLast-clause-rows : goal.returns-in-BeforeLast-clause-rows
returns-in-BeforeLast-clause-rows c =
    let cie : Cie = cie_of c.args.cie.now in
    let bases : Bases = bases_of c.args.bases.now in
    let own : Input = at c.args.self.now.program in
    let common : Program = program (coding_of bases cie) cie.program in
    let start = c.args.self.now.initial_address in
    let turned = c.turn.new.self in
    rw (sym c.turn.ensures.limits, sym c.turn.ensures.table)
    (subst (λ (n : ℕ). Adds turned.limits start n common (program (coding_of bases cie) own) turned.table c.add_next-in-BeforeLast.result c.add_next-in-BeforeLast.new.self.table) c.end-end.ensures
    (subst (λ (k : Coding). Adds turned.limits start c.end-end.result common (program k own) turned.table c.add_next-in-BeforeLast.result c.add_next-in-BeforeLast.new.self.table) c.coding-coding.ensures
    (c.add_next-in-BeforeLast.ensures.rows common (c.turn.ensures.begun common (rw c.in-BeforeLast.is at c.requires.begun)))))

pub returns-in-Other-clause-rows : goal.returns-in-Other-clause-rows
returns-in-Other-clause-rows c =
    let cie : Cie = cie_of c.args.cie.now in
    let bases : Bases = bases_of c.args.bases.now in
    let own : Input = at c.args.self.now.program in
    let start = c.args.self.now.initial_address in
    subst (λ (n : ℕ). Adds c.args.rows.now.limits start n (program (coding_of bases cie) cie.program) (program (coding_of bases cie) own) c.args.rows.now.table c.add.result c.add.new.self.table) c.end-end.ensures
    (subst (λ (k : Coding). Adds c.args.rows.now.limits start c.end-end.result (program k cie.program) (program k own) c.args.rows.now.table c.add.result c.add.new.self.table) c.coding-coding.ensures
    (subst (λ (i : Input). Adds c.args.rows.now.limits start c.end-end.result (program (coding_in c.coding-coding.result) i) (program (coding_in c.coding-coding.result) own) c.args.rows.now.table c.add.result c.add.new.self.table) c.instructions.ensures
    c.add.ensures.rows))

pub returns-in-Other-clause-begun : goal.returns-in-Other-clause-begun
returns-in-Other-clause-begun c =
    let cie : Cie = cie_of c.args.cie.now in
    let bases : Bases = bases_of c.args.bases.now in
    subst (λ (k : Coding). HasBegun c.add.new.self (program k cie.program)) c.coding-coding.ensures
    (subst (λ (i : Input). HasBegun c.add.new.self (program (coding_in c.coding-coding.result) i)) c.instructions.ensures c.add.ensures.begun)
