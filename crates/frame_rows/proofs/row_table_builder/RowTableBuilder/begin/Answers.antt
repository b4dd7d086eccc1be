use Rattle.std.proofs.Common.{sym, subst}
use Rattle.unwind_definitions.specs.Instructions.{Program, Coding, program}
use Rattle.encoded_pointers.specs.CursorViews.{at}
use Rattle.frame_rows.specs.InstructionViews.{coding_in}
use Rattle.frame_rows.specs.FirstRows.{IsFirstRow}
use Rattle.frame_rows.specs.KnownRows.{AreKnown}
use Rattle.frame_rows.specs.Running.{IsEndOf}
use Rattle.frame_rows.specs.declared.begun.BegunProgram.{BegunProgram}
use Rattle.frame_rows.proofs.Together.{common_ended}
use Rattle.frame_rows.proofs.row_table_builder.RowTableBuilder.begin.Goals as goal

pub returns-clause-begun : goal.returns-clause-begun
returns-clause-begun c =
    let coding : Coding = coding_in c.args.coding in
    let common : Program = program coding (at c.args.common) in
    record {
      ended = rw (c.put.ensures.state, c.put.ensures.fault, c.err-fault.ensures.value) (common_ended common c.run_common.result c.run_common.new.machine c.run_common.ensures);
      known = rw c.put.ensures.blank tt;
      first = rw c.put.ensures.first tt;
    }

pub returns-clause-before : goal.returns-clause-before
returns-clause-before c before begun = record {
  ended = subst (λ (b : BegunProgram). IsEndOf b.state b.fault before) (sym c.put.ensures.before) (subst (λ (b : BegunProgram). IsEndOf b.state b.fault before) (sym c.turn.ensures.before) begun.ended);
  known = subst (λ (b : BegunProgram). AreKnown before c.args.self.now.table.rows b.known) (sym c.put.ensures.before) (subst (λ (b : BegunProgram). AreKnown before c.args.self.now.table.rows b.known) (sym c.turn.ensures.before) begun.known);
  first = subst (λ (b : BegunProgram). IsFirstRow c.args.self.now.table.rows b.first_row b.state) (sym c.put.ensures.before) (subst (λ (b : BegunProgram). IsFirstRow c.args.self.now.table.rows b.first_row b.state) (sym c.turn.ensures.before) begun.first);
}
