use Rattle.std.proofs.Common.{None, sym, subst}
use Rattle.unwind_definitions.specs.Instructions.{Program, program}
use Rattle.encoded_pointers.specs.CursorViews.{at}
use Rattle.frame_rows.specs.InstructionViews.{coding_in}
use Rattle.frame_rows.specs.KeptRows.{Adds, KeptRows}
use Rattle.frame_rows.specs.Running.{IsEndOf}
use Rattle.frame_rows.specs.declared.machine.RowState.{RowState}
use Rattle.frame_rows.specs.declared.row_table.RowLimits.{RowLimits}
use Rattle.frame_rows.proofs.FirstRows.{first_longer}
use Rattle.frame_rows.proofs.row_table_builder.RowTableBuilder.add_unknown.Goals as goal

pub returns-in-Some-clause-rows : goal.returns-in-Some-clause-rows
returns-in-Some-clause-rows c common ended first = rw c.note_first.ensures.table (rw c.in-Some.is at (c.in_ok-rows.ensures.rows common ended first))

pub returns-in-Some-clause-known : goal.returns-in-Some-clause-known
returns-in-Some-clause-known c common ended first known = rw (c.note_first.ensures.table, c.note_first.ensures.known) (c.in_ok-rows.ensures.known common ended first known)

pub returns-in-Some-clause-first : goal.returns-in-Some-clause-first
returns-in-Some-clause-first c first =
    let there = first_longer c.args.self.now.table.rows c.add_run.new.self.table.rows c.in_ok-rows.ensures.grows _ _ first in
    rw (c.note_first.ensures.table, c.note_first.ensures.state) (c.note_first.ensures.first (rw (c.in_ok-rows.ensures.first, c.in_ok-rows.ensures.state) there))

pub returns-in_err-rows-clause-first : goal.returns-in_err-rows-clause-first
returns-in_err-rows-clause-first c first = rw (c.in_err-rows.ensures.first, c.in_err-rows.ensures.state)
    (first_longer c.args.self.now.table.rows c.add_run.new.self.table.rows c.in_err-rows.ensures.grows _ _ first)

pub returns-clause-rows : goal.returns-clause-rows
returns-clause-rows c common ended first =
    let own : Program = program (coding_in c.args.coding) (at c.args.own) in
    let same = rw c.in_default.is at (c.in_ok-rows.ensures.rows common ended first) in
    let there = subst (λ (s : RowState). IsEndOf s None common) (sym c.in_ok-rows.ensures.state) ended in
    subst (λ (t : KeptRows). Adds c.args.self.now.limits c.args.start c.args.end common own t c.add_slowly.result c.add_slowly.new.self.table) same
    (subst (λ (l : RowLimits). Adds l c.args.start c.args.end common own c.add_run.new.self.table c.add_slowly.result c.add_slowly.new.self.table) c.in_ok-rows.ensures.limits
    (c.add_slowly.ensures.rows common there))

pub returns-clause-known : goal.returns-clause-known
returns-clause-known c common ended first known =
    let there = subst (λ (s : RowState). IsEndOf s None common) (sym c.in_ok-rows.ensures.state) ended in
    c.add_slowly.ensures.known common there (c.in_ok-rows.ensures.known common ended first known)

pub returns-clause-first : goal.returns-clause-first
returns-clause-first c first =
    let there = first_longer c.args.self.now.table.rows c.add_run.new.self.table.rows c.in_ok-rows.ensures.grows _ _ first in
    rw (c.add_slowly.ensures.first, c.add_slowly.ensures.state, c.in_ok-rows.ensures.first, c.in_ok-rows.ensures.state)
    (first_longer c.add_run.new.self.table.rows c.add_slowly.new.self.table.rows c.add_slowly.ensures.grows _ _ there)
