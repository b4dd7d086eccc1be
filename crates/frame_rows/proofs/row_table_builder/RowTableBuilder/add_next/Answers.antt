use Rattle.std.proofs.Common.{◌-◌, List, None, subst, sym, arith}
use Rattle.unwind_definitions.specs.Input.{Input}
use Rattle.unwind_definitions.specs.Instructions.{Program, program, Coding}
use Rattle.encoded_pointers.specs.CursorViews.{at}
use Rattle.frame_rows.specs.InstructionViews.{coding_in}
use Rattle.frame_rows.specs.BegunPrograms.{before_last, last}
use Rattle.frame_rows.specs.FirstRows.{IsFirstRow}
use Rattle.frame_rows.specs.KeptRows.{Kept}
use Rattle.frame_rows.specs.KnownRows.{AreKnown, Finds}
use Rattle.frame_rows.specs.Running.{IsEndOf}
use Rattle.frame_rows.specs.declared.begun.BegunProgram.{BegunProgram}
use Rattle.frame_rows.specs.declared.begun.BegunPrograms.{BegunPrograms}
use Rattle.frame_rows.proofs.FirstRows.{first_longer}
use Rattle.frame_rows.proofs.Serving.{adds_again, found_known, slots_on, still_known}
use Rattle.frame_rows.proofs.row_table_builder.RowTableBuilder.add_next.Goals as goal

abbrev ended : Program → BegunProgram → Type 0
ended common b = IsEndOf b.state b.fault common

pub returns-in-Some-clause-rows : goal.returns-in-Some-clause-rows
returns-in-Some-clause-rows c common begun =
    let ran = subst (ended common) (sym c.last-common.ensures) begun.ended in
    c.add_fault.ensures.rows c.args.start c.args.end common (program (coding_in c.args.coding) (at c.args.own)) (rw c.in-Some.is at ran)

pub returns-in-Some-clause-begun : goal.returns-in-Some-clause-begun
returns-in-Some-clause-begun c common begun = record {
  ended = subst (λ (b : BegunPrograms). ended common (last b)) (sym c.add_fault.ensures.begun) begun.ended;
  known = still_known common c.args.self.now c.add_fault.new.self c.add_fault.ensures.grows c.add_fault.ensures.begun begun.known;
  first = subst (λ (b : BegunPrograms). IsFirstRow c.add_fault.new.self.table.rows (last b).first_row (last b).state) (sym c.add_fault.ensures.begun)
      (first_longer c.args.self.now.table.rows c.add_fault.new.self.table.rows c.add_fault.ensures.grows (last c.args.self.now.begun).first_row (last c.args.self.now.begun).state begun.first);
}

pub returns-in-Some-clause-before : goal.returns-in-Some-clause-before
returns-in-Some-clause-before c before begun = record {
  ended = subst (λ (b : BegunPrograms). ended before (before_last b)) (sym c.add_fault.ensures.begun) begun.ended;
  known = subst (λ (b : BegunPrograms). AreKnown before c.add_fault.new.self.table.rows (before_last b).known) (sym c.add_fault.ensures.begun)
      (slots_on before c.args.self.now.table.rows c.add_fault.new.self.table.rows c.add_fault.ensures.grows (before_last c.args.self.now.begun).known begun.known);
  first = subst (λ (b : BegunPrograms). IsFirstRow c.add_fault.new.self.table.rows (before_last b).first_row (before_last b).state) (sym c.add_fault.ensures.begun)
      (first_longer c.args.self.now.table.rows c.add_fault.new.self.table.rows c.add_fault.ensures.grows (before_last c.args.self.now.begun).first_row (before_last c.args.self.now.begun).state begun.first);
}

pub returns-in-Some-find-clause-rows : goal.returns-in-Some-find-clause-rows
returns-in-Some-find-clause-rows c common begun =
    let coding : Coding = coding_in c.args.coding in
    let own : Input = at c.args.own in
    let known = c.in-Some-find.known.now in
    let slots = (last c.args.self.now.begun).known in
    let finds = subst (λ (b : BegunProgram). Finds b.known own.bytes coding (c.args.end - c.args.start) known) c.last-common.ensures c.in-Some-find.ensures in
    let is = found_known common c.args.self.now.table.rows slots own.bytes coding (c.args.end - c.args.start) known finds begun.known in
    adds_again c.args.self.now.limits common coding own known slots c.args.start c.args.end c.args.self.now.table c.count_again.new.self c.requires (omega arith) is finds c.count_again.result c.count_again.ensures.counts c.count_again.ensures.rows

pub returns-in-Some-find-clause-begun : goal.returns-in-Some-find-clause-begun
returns-in-Some-find-clause-begun c common begun = record {
  ended = begun.ended;
  known = subst (λ (l : List Kept). AreKnown common l (last c.args.self.now.begun).known) (sym c.count_again.ensures.rows) begun.known;
  first = subst (λ (l : List Kept). IsFirstRow l (last c.args.self.now.begun).first_row (last c.args.self.now.begun).state) (sym c.count_again.ensures.rows) begun.first;
}

pub returns-in-Some-find-clause-before : goal.returns-in-Some-find-clause-before
returns-in-Some-find-clause-before c before begun = record {
  ended = begun.ended;
  known = subst (λ (l : List Kept). AreKnown before l (before_last c.args.self.now.begun).known) (sym c.count_again.ensures.rows) begun.known;
  first = subst (λ (l : List Kept). IsFirstRow l (before_last c.args.self.now.begun).first_row (before_last c.args.self.now.begun).state) (sym c.count_again.ensures.rows) begun.first;
}

pub returns-in-None-find-clause-rows : goal.returns-in-None-find-clause-rows
returns-in-None-find-clause-rows c common begun =
    let ran = subst (ended common) (sym c.last-common.ensures) begun.ended in
    let ran_last = rw c.in-None.is at ran in
    c.add_unknown.ensures.rows common (subst (λ (b : BegunProgram). IsEndOf b.state None common) c.last-common.ensures ran_last) begun.first

pub returns-in-None-find-clause-begun : goal.returns-in-None-find-clause-begun
returns-in-None-find-clause-begun c common begun =
    let ran = subst (ended common) (sym c.last-common.ensures) begun.ended in
    let ran_last = rw c.in-None.is at ran in
    let ends = subst (λ (b : BegunProgram). IsEndOf b.state None common) c.last-common.ensures ran_last in
    record {
      ended = rw (c.add_unknown.ensures.state, c.add_unknown.ensures.fault) begun.ended;
      known = c.add_unknown.ensures.known common ends begun.first begun.known;
      first = c.add_unknown.ensures.first begun.first;
    }

pub returns-in-None-find-clause-before : goal.returns-in-None-find-clause-before
returns-in-None-find-clause-before c before begun = record {
  ended = subst (ended before) (sym c.add_unknown.ensures.before) begun.ended;
  known = subst (λ (b : BegunProgram). AreKnown before c.add_unknown.new.self.table.rows b.known) (sym c.add_unknown.ensures.before)
      (slots_on before c.args.self.now.table.rows c.add_unknown.new.self.table.rows c.add_unknown.ensures.grows (before_last c.args.self.now.begun).known begun.known);
  first = subst (λ (b : BegunProgram). IsFirstRow c.add_unknown.new.self.table.rows b.first_row b.state) (sym c.add_unknown.ensures.before)
      (first_longer c.args.self.now.table.rows c.add_unknown.new.self.table.rows c.add_unknown.ensures.grows (before_last c.args.self.now.begun).first_row (before_last c.args.self.now.begun).state begun.first);
}
