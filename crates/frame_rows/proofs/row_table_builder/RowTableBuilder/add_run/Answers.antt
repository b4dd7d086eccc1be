use Rattle.std.proofs.Common.{sym, subst, refl, arith}
use Rattle.unwind_definitions.specs.Instructions.{Coding, Program, program}
use Rattle.encoded_pointers.specs.CursorViews.{at}
use Rattle.frame_rows.specs.BegunPrograms.{last}
use Rattle.frame_rows.specs.FirstRows.{IsFirstRow}
use Rattle.frame_rows.specs.InstructionViews.{coding_in}
use Rattle.frame_rows.specs.KeptRows.{IsAdded, KeptRows}
use Rattle.frame_rows.specs.KnownRows.{AreKnown}
use Rattle.frame_rows.specs.Running.{IsStateOf, whole}
use Rattle.frame_rows.specs.declared.begun.BegunProgram.{BegunProgram}
use Rattle.frame_rows.specs.declared.row_table.RowRange.{RowRange}
use Rattle.frame_rows.proofs.Adding.{ranged}
use Rattle.frame_rows.proofs.FirstRows.{row_there}
use Rattle.frame_rows.proofs.RunAdds.{row_begun, standing, stands_begun}
use Rattle.frame_rows.proofs.Serving.{is_known, noted_known, slots_on}
use Rattle.frame_rows.proofs.row_table_builder.RowTableBuilder.add_run.Goals as goal

pub returns-in_err-added-clause-known : goal.returns-in_err-added-clause-known
returns-in_err-added-clause-known c common ended first known = slots_on common c.args.self.now.table.rows c.add_run.new.self.rows c.in_err-added.ensures.grows (last c.args.self.now.begun).known known

pub returns-in-Nothing-clause-known : goal.returns-in-Nothing-clause-known
returns-in-Nothing-clause-known c common ended first known = slots_on common c.args.self.now.table.rows c.add_run.new.self.rows c.in_ok-added.ensures.grows (last c.args.self.now.begun).known known

pub returns-in-Past-clause-known : goal.returns-in-Past-clause-known
returns-in-Past-clause-known c common ended first known = slots_on common c.args.self.now.table.rows c.add_run.new.self.rows c.in_ok-added.ensures.grows (last c.args.self.now.begun).known known

pub returns-in-Nothing-clause-rows : goal.returns-in-Nothing-clause-rows
returns-in-Nothing-clause-rows c common ended first =
    let is = subst (λ (b : BegunProgram). IsStateOf b.state (whole common.instructions)) (sym c.last-begun.ensures) ended.2 in
    let row = row_begun c.last-begun.result.now.state common is c.in-Some.row c.in-Some.ensures.0 c.in-Some.ensures.1 c.in-Some.ensures.2 in
    let first_is = row_there c.args.self.now.table.rows c.last-begun.result.now.first_row c.last-begun.result.now.state c.in-Some.row (subst (λ (b : BegunProgram). IsFirstRow c.args.self.now.table.rows b.first_row b.state) (sym c.last-begun.ensures) first) c.in-Some.ensures.0 c.in-Some.ensures.1 c.in-Some.ensures.2 in
    let rep = stands_begun c.last-begun.result.now.state common is c.args.start in
    rw c.in-Nothing.is at (c.in_ok-added.ensures.runs common ended.0 (standing c.args.start c.last-begun.result.now.state) ended.1 rep row first_is)

pub returns-in-Past-clause-rows : goal.returns-in-Past-clause-rows
returns-in-Past-clause-rows c common ended first =
    let own : Program = program (coding_in c.args.coding) (at c.args.own) in
    let is = subst (λ (b : BegunProgram). IsStateOf b.state (whole common.instructions)) (sym c.last-begun.ensures) ended.2 in
    let row = row_begun c.last-begun.result.now.state common is c.in-Some.row c.in-Some.ensures.0 c.in-Some.ensures.1 c.in-Some.ensures.2 in
    let first_is = row_there c.args.self.now.table.rows c.last-begun.result.now.first_row c.last-begun.result.now.state c.in-Some.row (subst (λ (b : BegunProgram). IsFirstRow c.args.self.now.table.rows b.first_row b.state) (sym c.last-begun.ensures) first) c.in-Some.ensures.0 c.in-Some.ensures.1 c.in-Some.ensures.2 in
    let rep = stands_begun c.last-begun.result.now.state common is c.args.start in
    let range : RowRange = record { first = c.end-first.result; end = c.end.result } in
    let added = rw c.in-Past.is at (c.in_ok-added.ensures.runs common ended.0 (standing c.args.start c.last-begun.result.now.state) ended.1 rep row first_is) in
    ranged c.args.start c.args.end common own c.args.self.now.table c.args.self.now.limits range c.add_run.new.self c.end-first.ensures c.end.ensures added

pub returns-in_err-note-in-Ended-clause-known : goal.returns-in_err-note-in-Ended-clause-known
returns-in_err-note-in-Ended-clause-known c common ended first known =
    let coding : Coding = coding_in c.args.coding in
    let is = subst (λ (b : BegunProgram). IsStateOf b.state (whole common.instructions)) (sym c.last-begun.ensures) ended.2 in
    let row = row_begun c.last-begun.result.now.state common is c.in-Some.row c.in-Some.ensures.0 c.in-Some.ensures.1 c.in-Some.ensures.2 in
    let first_is = row_there c.args.self.now.table.rows c.last-begun.result.now.first_row c.last-begun.result.now.state c.in-Some.row (subst (λ (b : BegunProgram). IsFirstRow c.args.self.now.table.rows b.first_row b.state) (sym c.last-begun.ensures) first) c.in-Some.ensures.0 c.in-Some.ensures.1 c.in-Some.ensures.2 in
    let rep = stands_begun c.last-begun.result.now.state common is c.args.start in
    let added = rw c.in-Ended.is at (c.in_ok-added.ensures.runs common ended.0 (standing c.args.start c.last-begun.result.now.state) ended.1 rep row first_is) in
    let before = slots_on common c.args.self.now.table.rows c.add_run.new.self.rows c.in_ok-added.ensures.grows (last c.args.self.now.begun).known known in
    subst (λ (t : KeptRows). AreKnown common t.rows (last c.note.new.self.begun).known) (sym c.note.ensures.table)
    (noted_known common c.add_run.new.self.rows (last c.args.self.now.begun).known (last c.note.new.self.begun).known _ c.note.ensures.notes before
    (is_known c.args.start c.args.end common coding (at c.args.own) c.args.self.now.table c.add_run.new.self c.in-Ended.location added.1 added.2 added.3 (omega arith) _ c.bytes.ensures refl refl c.saturating_sub.ensures c.end-first.ensures c.end.ensures (omega arith)))

pub returns-in_ok-note-in-Ended-clause-rows : goal.returns-in_ok-note-in-Ended-clause-rows
returns-in_ok-note-in-Ended-clause-rows c common ended first =
    let own : Program = program (coding_in c.args.coding) (at c.args.own) in
    let is = subst (λ (b : BegunProgram). IsStateOf b.state (whole common.instructions)) (sym c.last-begun.ensures) ended.2 in
    let row = row_begun c.last-begun.result.now.state common is c.in-Some.row c.in-Some.ensures.0 c.in-Some.ensures.1 c.in-Some.ensures.2 in
    let first_is = row_there c.args.self.now.table.rows c.last-begun.result.now.first_row c.last-begun.result.now.state c.in-Some.row (subst (λ (b : BegunProgram). IsFirstRow c.args.self.now.table.rows b.first_row b.state) (sym c.last-begun.ensures) first) c.in-Some.ensures.0 c.in-Some.ensures.1 c.in-Some.ensures.2 in
    let rep = stands_begun c.last-begun.result.now.state common is c.args.start in
    let range : RowRange = record { first = c.end-first.result; end = c.end.result } in
    let added = rw c.in-Ended.is at (c.in_ok-added.ensures.runs common ended.0 (standing c.args.start c.last-begun.result.now.state) ended.1 rep row first_is) in
    subst (λ (t : KeptRows). IsAdded c.args.self.now.limits c.args.start c.args.end common own c.args.self.now.table range t) (sym c.note.ensures.table)
    (ranged c.args.start c.args.end common own c.args.self.now.table c.args.self.now.limits range c.add_run.new.self c.end-first.ensures c.end.ensures added.0)

pub returns-in_ok-note-in-Ended-clause-known : goal.returns-in_ok-note-in-Ended-clause-known
returns-in_ok-note-in-Ended-clause-known c common ended first known =
    let coding : Coding = coding_in c.args.coding in
    let is = subst (λ (b : BegunProgram). IsStateOf b.state (whole common.instructions)) (sym c.last-begun.ensures) ended.2 in
    let row = row_begun c.last-begun.result.now.state common is c.in-Some.row c.in-Some.ensures.0 c.in-Some.ensures.1 c.in-Some.ensures.2 in
    let first_is = row_there c.args.self.now.table.rows c.last-begun.result.now.first_row c.last-begun.result.now.state c.in-Some.row (subst (λ (b : BegunProgram). IsFirstRow c.args.self.now.table.rows b.first_row b.state) (sym c.last-begun.ensures) first) c.in-Some.ensures.0 c.in-Some.ensures.1 c.in-Some.ensures.2 in
    let rep = stands_begun c.last-begun.result.now.state common is c.args.start in
    let added = rw c.in-Ended.is at (c.in_ok-added.ensures.runs common ended.0 (standing c.args.start c.last-begun.result.now.state) ended.1 rep row first_is) in
    let before = slots_on common c.args.self.now.table.rows c.add_run.new.self.rows c.in_ok-added.ensures.grows (last c.args.self.now.begun).known known in
    subst (λ (t : KeptRows). AreKnown common t.rows (last c.note.new.self.begun).known) (sym c.note.ensures.table)
    (noted_known common c.add_run.new.self.rows (last c.args.self.now.begun).known (last c.note.new.self.begun).known _ c.note.ensures.notes before
    (is_known c.args.start c.args.end common coding (at c.args.own) c.args.self.now.table c.add_run.new.self c.in-Ended.location added.1 added.2 added.3 (omega arith) _ c.bytes.ensures refl refl c.saturating_sub.ensures c.end-first.ensures c.end.ensures (omega arith)))
