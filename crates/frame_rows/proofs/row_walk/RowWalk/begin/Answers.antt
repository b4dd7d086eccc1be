use Rattle.std.proofs.Common.{sym, subst}
use Rattle.unwind_definitions.specs.Instructions.{Coding, Program, program}
use Rattle.unwind_definitions.specs.Row.{from_common, row}
use Rattle.encoded_pointers.specs.CursorViews.{at}
use Rattle.frame_rows.specs.InstructionViews.{coding_in}
use Rattle.frame_rows.specs.Walks.{MakesAll}
use Rattle.frame_rows.proofs.Walking.{begins, never_begins}
use Rattle.frame_rows.proofs.row_walk.RowWalk.begin.Goals as goal

pub returns-in-Ok : goal.returns-in-Ok
returns-in-Ok c =
    let coding : Coding = coding_in c.args.coding in
    let common : Program = program coding (at c.args.common) in
    let own : Program = program coding (at c.args.own) in
    let begun = c.in-Ok.ensures in
    c.run.ensures c.args.start (from_common common.instructions) (λ pc. row c.args.start pc common own) begun.2
    (subst (λ p. MakesAll c.args.start (from_common common.instructions) p (λ pc. row c.args.start pc common own)) (sym (c.new-self.ensures coding)) (begins c.args.start common own begun.0 begun.1))

pub returns-in-Err : goal.returns-in-Err
returns-in-Err c =
    let coding : Coding = coding_in c.args.coding in
    never_begins c.args.start (program coding (at c.args.common)) (program coding (at c.args.own)) c.begin_own.new.self.machine c.begin_own.new.self.instructions coding c.in-Err.error c.in-Err.ensures
