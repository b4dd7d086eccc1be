use Rattle.std.proofs.Common.{arith, ◌≡◌, ℕ, Bool, Option, Result, Ok, Some, None, refl, sym, subst, ◌∙◌}
use Rattle.unwind_definitions.specs.declared.error.Error.{Error as Fault}
use Rattle.unwind_definitions.specs.Instructions.{program, Program, Coding}
use Rattle.unwind_definitions.specs.Row.{from_common}
use Rattle.encoded_pointers.specs.CursorViews.{at}
use Rattle.frame_rows.specs.InstructionViews.{coding_in}
use Rattle.frame_rows.specs.Running.{Represents, push}
use Rattle.frame_rows.specs.BegunPrograms.{last}
use Rattle.frame_rows.specs.KeptRows.{Adds, IsAdded, KeptRows}
use Rattle.frame_rows.specs.KnownRows.{AreKnown}
use Rattle.frame_rows.specs.Movable.{IsMovable}
use Rattle.frame_rows.specs.Stretches.{left_of}
use Rattle.frame_rows.specs.TableRows.{Keeps}
use Rattle.frame_rows.specs.declared.machine.Machine.{Machine}
use Rattle.frame_rows.specs.declared.row_table.RowLimits.{RowLimits}
use Rattle.frame_rows.specs.declared.row_table.RowRange.{RowRange}
use Rattle.frame_rows.specs.Adding.{IsAdding}
use Rattle.frame_rows.proofs.Adding.{begin, kept_too_many, kept_at_end, kept_fault, kept_past, kept_on, kept_whole, ranged}
use Rattle.frame_rows.proofs.Serving.{is_known, noted_unless, still_known}
use Rattle.frame_rows.proofs.Parts.{as_long, longer_still}
use Rattle.frame_rows.proofs.SameRows.{knows_longer}
use Rattle.frame_rows.specs.SameRules.{IsRowWith, KnowsRows}
use Rattle.std.specs.Prelude.{IfSome}
use Rattle.frame_rows.proofs.row_table_builder.RowTableBuilder.add_rows.Goals as goal

-- what was kept at a distance, or not
kept_so : (limits : RowLimits) (d e : ℕ) (next : Result (Option ℕ) Fault) (m : Machine) (old new : KeptRows) (b was : Bool) → d ≡ e → b ≡ was → Keeps limits d next m old (Ok b) new → Keeps limits e next m old (Ok was) new
kept_so limits d e next m old new b was same is k = subst (λ (x : ℕ). Keeps limits x next m old (Ok was) new) same (subst (λ (x : Bool). Keeps limits d next m old (Ok x) new) is k)

pub loop-rows-init : goal.loop-rows-init
loop-rows-init c = (
  refl,
  λ common run ran rep.
      let coding : Coding = coding_in c.args.coding in
      let own : Program = program coding (at c.args.own) in (
        from_common common.instructions,
        rep,
        subst (λ (q : Program). IsAdding c.args.start c.args.end common own c.args.self.now.table c.args.start (from_common common.instructions) q c.args.self.now.table) (sym (c.new-instructions.ensures coding))
            (begin c.args.start c.args.end common own c.args.self.now.table run c.requires.some ran),
      ),
  refl,
  as_long c.args.self.now.table.rows,
  λ flag m. subst IsMovable (c.new-instructions.ensures (coding_in c.args.coding)) m,
  c.requires.knows,
)

pub returns-then-not-branch-clause-rows : goal.returns-then-not-branch-clause-rows
returns-then-not-branch-clause-rows c common run ran rep =
    let coding : Coding = coding_in c.args.coding in
    let own : Program = program coding (at c.args.own) in
    let now = c.loop-rows.invariant.1 common run ran rep in
    let st = c.run_stretch-next.ensures.ends c.args.start now.0 now.1 in
    let m = c.run_stretch-next.new.machine in
    let kept = kept_so c.loop-rows.self.limits _ _ c.run_stretch-next.result m c.loop-rows.self.table c.keep.new.self.table _ _ c.saturating_sub-distance.ensures c.if-not-branch.true c.in_ok-keep.ensures.rows in
    subst (λ (l : RowLimits). Adds l c.args.start c.args.end common own c.args.self.now.table (Ok None) c.keep.new.self.table) c.loop-rows.invariant.0
    (kept_too_many c.args.start c.args.end common own c.args.self.now.table run ran c.loop-rows.location now.0 (left_of coding c.loop-rows.instructions) c.loop-rows.self.table now.2 c.loop-rows.self.limits m (left_of coding c.run_stretch-next.new.instructions) c.keep.new.self.table
    c.run_stretch-next.result st kept)

pub loop-rows-preserved : goal.loop-rows-preserved
loop-rows-preserved c = (
  c.in_ok-keep.ensures.limits ∙ c.loop-rows.invariant.0,
  λ common run ran rep.
      let coding : Coding = coding_in c.args.coding in
      let own : Program = program coding (at c.args.own) in
      let now = c.loop-rows.invariant.1 common run ran rep in
      let m = c.run_stretch-next.new.machine in
      let some : c.in-Ok-Some.field-0 ≡ Some c.in-Ok-Some.next = rw c.in-Ok-Some.is at c.in-Ok-Some.field-0-is in
      let st = rw (c.in-Ok-Some.is, some) at (c.run_stretch-next.ensures.ends c.args.start now.0 now.1) in
      let kept = rw c.in-Ok-Some.is at (kept_so c.loop-rows.self.limits _ _ c.run_stretch-next.result m c.loop-rows.self.table c.keep.new.self.table _ _ c.saturating_sub-distance.ensures c.if-not-branch.false c.in_ok-keep.ensures.rows) in
      let there = c.note_row.ensures.state c.args.start st.now (subst (λ (m : Machine). Represents c.args.start m st.now) (sym c.in_ok-keep.ensures.machine) st.represents) in (
        push st.now st.by,
        c.go_on.ensures.follows c.args.start st.now st.by there st.leads (let stands = st.stands in let ahead = st.ahead in omega arith),
        kept_on c.args.start c.args.end common own c.args.self.now.table run ran c.loop-rows.location now.0 (left_of coding c.loop-rows.instructions) c.loop-rows.self.table now.2 c.loop-rows.self.limits m (left_of coding c.run_stretch-next.new.instructions)
            c.keep.new.self.table c.in-Ok-Some.next st kept c.if-next-end.false,
      ),
  c.in_ok-keep.ensures.begun ∙ c.loop-rows.invariant.2,
  longer_still c.args.self.now.table.rows c.loop-rows.self.table.rows c.keep.new.self.table.rows c.loop-rows.invariant.3 c.in_ok-keep.ensures.grows,
  λ flag m.
      let some : c.in-Ok-Some.field-0 ≡ Some c.in-Ok-Some.next = rw c.in-Ok-Some.is at c.in-Ok-Some.field-0-is in
      let moves = (rw (c.in-Ok-Some.is, some) at c.run_stretch-next.ensures.moves) flag in
      c.loop-rows.invariant.4 moves.0 (moves.1 m),
  let m = c.run_stretch-next.new.machine in
      let rows = c.keep.new.self.table.rows in
      let knows = c.run_stretch-next.ensures.rows c.loop-rows.self.table.rows c.loop-rows.invariant.5 in
      let longer = knows_longer c.loop-rows.self.table.rows rows c.in_ok-keep.ensures.grows m knows in
      let last = (rw (c.in-Ok-Some.is, c.if-not-branch.false) at c.in_ok-keep.ensures.rules) in
      let machine = c.in_ok-keep.ensures.machine in
      c.go_on.ensures.rows rows (c.note_row.ensures.rows rows
      (subst (KnowsRows rows) (sym machine) longer)
      (subst (λ (t : Machine). IfSome t.state.cfa (λ _. IsRowWith rows (Some c.end-index.result) t.state.rules)) (sym machine)
      (subst (λ i. IfSome m.state.cfa (λ _. IsRowWith rows (Some i) m.state.rules)) (sym c.end-index.ensures) last))),
)

pub returns-then-next-end-clause-rows : goal.returns-then-next-end-clause-rows
returns-then-next-end-clause-rows c common run ran rep =
    let coding : Coding = coding_in c.args.coding in
    let own : Program = program coding (at c.args.own) in
    let now = c.loop-rows.invariant.1 common run ran rep in
    let m = c.run_stretch-next.new.machine in
    let some : c.in-Ok-Some.field-0 ≡ Some c.in-Ok-Some.next = rw c.in-Ok-Some.is at c.in-Ok-Some.field-0-is in
    let st = rw (c.in-Ok-Some.is, some) at (c.run_stretch-next.ensures.ends c.args.start now.0 now.1) in
    let kept = rw c.in-Ok-Some.is at (kept_so c.loop-rows.self.limits _ _ c.run_stretch-next.result m c.loop-rows.self.table c.keep.new.self.table _ _ c.saturating_sub-distance.ensures c.if-not-branch.false c.in_ok-keep.ensures.rows) in
    let range : RowRange = record { first = c.end-first.result; end = c.end.result } in
    subst (λ (l : RowLimits). IsAdded l c.args.start c.args.end common own c.args.self.now.table range c.keep.new.self.table) c.loop-rows.invariant.0
    (ranged c.args.start c.args.end common own c.args.self.now.table c.loop-rows.self.limits range c.keep.new.self.table c.end-first.ensures c.end.ensures
    (kept_past c.args.start c.args.end common own c.args.self.now.table run ran c.loop-rows.location now.0 (left_of coding c.loop-rows.instructions) c.loop-rows.self.table now.2 c.loop-rows.self.limits m (left_of coding c.run_stretch-next.new.instructions) c.keep.new.self.table
    c.in-Ok-Some.next st kept c.if-next-end.true))

pub returns-in-Ok-None-clause-rows : goal.returns-in-Ok-None-clause-rows
returns-in-Ok-None-clause-rows c common run ran rep =
    let coding : Coding = coding_in c.args.coding in
    let own : Program = program coding (at c.args.own) in
    let now = c.loop-rows.invariant.1 common run ran rep in
    let m = c.run_stretch-next.new.machine in
    let none : c.in-Ok-None.field-0 ≡ None = rw c.in-Ok-None.is at c.in-Ok-None.field-0-is in
    let st = rw (c.in-Ok-None.is, none) at (c.run_stretch-next.ensures.ends c.args.start now.0 now.1) in
    let kept = rw c.in-Ok-None.is at (kept_so c.loop-rows.self.limits _ _ c.run_stretch-next.result m c.loop-rows.self.table c.keep.new.self.table _ _ c.saturating_sub-distance.ensures c.if-not-branch.false c.in_ok-keep.ensures.rows) in
    let range : RowRange = record { first = c.end-first.result; end = c.end.result } in
    subst (λ (t : KeptRows). IsAdded c.args.self.now.limits c.args.start c.args.end common own c.args.self.now.table range t) (sym c.note.ensures.table)
    (subst (λ (l : RowLimits). IsAdded l c.args.start c.args.end common own c.args.self.now.table range c.keep.new.self.table) c.loop-rows.invariant.0
    (ranged c.args.start c.args.end common own c.args.self.now.table c.loop-rows.self.limits range c.keep.new.self.table c.end-first.ensures c.end.ensures
    (kept_at_end c.args.start c.args.end common own c.args.self.now.table run ran c.loop-rows.location now.0 (left_of coding c.loop-rows.instructions) c.loop-rows.self.table now.2 c.loop-rows.self.limits m (left_of coding c.run_stretch-next.new.instructions) c.keep.new.self.table
    st kept)))

pub returns-in-Err-clause-rows : goal.returns-in-Err-clause-rows
returns-in-Err-clause-rows c common run ran rep =
    let coding : Coding = coding_in c.args.coding in
    let own : Program = program coding (at c.args.own) in
    let now = c.loop-rows.invariant.1 common run ran rep in
    let m = c.run_stretch-next.new.machine in
    let st = rw c.in-Err.is at (c.run_stretch-next.ensures.ends c.args.start now.0 now.1) in
    let kept = rw c.in-Err.is at (kept_so c.loop-rows.self.limits _ _ c.run_stretch-next.result m c.loop-rows.self.table c.keep.new.self.table _ _ c.saturating_sub-distance.ensures c.if-not-branch.false c.in_ok-keep.ensures.rows) in
    let range : RowRange = record { first = c.end-first.result; end = c.end.result } in
    subst (λ (l : RowLimits). IsAdded l c.args.start c.args.end common own c.args.self.now.table range c.keep.new.self.table) c.loop-rows.invariant.0
    (ranged c.args.start c.args.end common own c.args.self.now.table c.loop-rows.self.limits range c.keep.new.self.table c.end-first.ensures c.end.ensures
    (kept_fault c.args.start c.args.end common own c.args.self.now.table run ran c.loop-rows.location now.0 (left_of coding c.loop-rows.instructions) c.loop-rows.self.table now.2 c.loop-rows.self.limits m (left_of coding c.run_stretch-next.new.instructions) c.keep.new.self.table
    c.in-Err.field-0 st kept))

pub returns-then-not-branch-clause-known : goal.returns-then-not-branch-clause-known
returns-then-not-branch-clause-known c common run ran rep known =
    let begun = c.in_ok-keep.ensures.begun ∙ c.loop-rows.invariant.2 in
    let longer = longer_still c.args.self.now.table.rows c.loop-rows.self.table.rows c.keep.new.self.table.rows c.loop-rows.invariant.3 c.in_ok-keep.ensures.grows in
    still_known common c.args.self.now c.keep.new.self longer begun known

pub returns-then-next-end-clause-known : goal.returns-then-next-end-clause-known
returns-then-next-end-clause-known c common run ran rep known =
    let begun = c.in_ok-keep.ensures.begun ∙ c.loop-rows.invariant.2 in
    let longer = longer_still c.args.self.now.table.rows c.loop-rows.self.table.rows c.keep.new.self.table.rows c.loop-rows.invariant.3 c.in_ok-keep.ensures.grows in
    still_known common c.args.self.now c.keep.new.self longer begun known

pub returns-in-Err-clause-known : goal.returns-in-Err-clause-known
returns-in-Err-clause-known c common run ran rep known =
    let begun = c.in_ok-keep.ensures.begun ∙ c.loop-rows.invariant.2 in
    let longer = longer_still c.args.self.now.table.rows c.loop-rows.self.table.rows c.keep.new.self.table.rows c.loop-rows.invariant.3 c.in_ok-keep.ensures.grows in
    still_known common c.args.self.now c.keep.new.self longer begun known

pub returns-in-Ok-None-clause-known : goal.returns-in-Ok-None-clause-known
returns-in-Ok-None-clause-known c common run ran rep known =
    let coding : Coding = coding_in c.args.coding in
    let own : Program = program coding (at c.args.own) in
    let now = c.loop-rows.invariant.1 common run ran rep in
    let m = c.run_stretch-next.new.machine in
    let none : c.in-Ok-None.field-0 ≡ None = rw c.in-Ok-None.is at c.in-Ok-None.field-0-is in
    let st = rw (c.in-Ok-None.is, none) at (c.run_stretch-next.ensures.ends c.args.start now.0 now.1) in
    let kept = rw c.in-Ok-None.is at (kept_so c.loop-rows.self.limits _ _ c.run_stretch-next.result m c.loop-rows.self.table c.keep.new.self.table _ _ c.saturating_sub-distance.ensures c.if-not-branch.false c.in_ok-keep.ensures.rows) in
    let begun = c.in_ok-keep.ensures.begun ∙ c.loop-rows.invariant.2 in
    let longer = longer_still c.args.self.now.table.rows c.loop-rows.self.table.rows c.keep.new.self.table.rows c.loop-rows.invariant.3 c.in_ok-keep.ensures.grows in
    let before = still_known common c.args.self.now c.keep.new.self longer begun known in
    let whole = kept_whole c.args.start c.args.end common own c.args.self.now.table run ran c.loop-rows.location now.0 (left_of coding c.loop-rows.instructions) c.loop-rows.self.table now.2 c.loop-rows.self.limits m (left_of coding c.run_stretch-next.new.instructions)
    c.keep.new.self.table st kept in
    let moves = rw (c.in-Ok-None.is, none) at c.run_stretch-next.ensures.moves in
    subst (λ (t : KeptRows). AreKnown common t.rows (last c.note.new.self.begun).known) (sym c.note.ensures.table)
    (noted_unless common c.keep.new.self.table.rows (last c.keep.new.self.begun).known (last c.note.new.self.begun).known _ c.sets_location.result c.note.ensures.notes before
    (λ free.
    let ends = moves (sym c.sets_location.ensures ∙ free) in
    let movable = c.loop-rows.invariant.4 ends.0 ends.1 in
    is_known c.args.start c.args.end common coding (at c.args.own) c.args.self.now.table c.keep.new.self.table c.loop-rows.location whole movable now.2.below (omega arith) _ c.bytes.ensures refl refl c.saturating_sub-distance.ensures c.end-first.ensures c.end.ensures (omega arith)))

pub returns-in_err-note-in-Ok-None-clause-known : goal.returns-in_err-note-in-Ok-None-clause-known
returns-in_err-note-in-Ok-None-clause-known c common run ran rep known =
    let coding : Coding = coding_in c.args.coding in
    let own : Program = program coding (at c.args.own) in
    let now = c.loop-rows.invariant.1 common run ran rep in
    let m = c.run_stretch-next.new.machine in
    let none : c.in-Ok-None.field-0 ≡ None = rw c.in-Ok-None.is at c.in-Ok-None.field-0-is in
    let st = rw (c.in-Ok-None.is, none) at (c.run_stretch-next.ensures.ends c.args.start now.0 now.1) in
    let kept = rw c.in-Ok-None.is at (kept_so c.loop-rows.self.limits _ _ c.run_stretch-next.result m c.loop-rows.self.table c.keep.new.self.table _ _ c.saturating_sub-distance.ensures c.if-not-branch.false c.in_ok-keep.ensures.rows) in
    let begun = c.in_ok-keep.ensures.begun ∙ c.loop-rows.invariant.2 in
    let longer = longer_still c.args.self.now.table.rows c.loop-rows.self.table.rows c.keep.new.self.table.rows c.loop-rows.invariant.3 c.in_ok-keep.ensures.grows in
    let before = still_known common c.args.self.now c.keep.new.self longer begun known in
    let whole = kept_whole c.args.start c.args.end common own c.args.self.now.table run ran c.loop-rows.location now.0 (left_of coding c.loop-rows.instructions) c.loop-rows.self.table now.2 c.loop-rows.self.limits m (left_of coding c.run_stretch-next.new.instructions)
    c.keep.new.self.table st kept in
    let moves = rw (c.in-Ok-None.is, none) at c.run_stretch-next.ensures.moves in
    subst (λ (t : KeptRows). AreKnown common t.rows (last c.note.new.self.begun).known) (sym c.note.ensures.table)
    (noted_unless common c.keep.new.self.table.rows (last c.keep.new.self.begun).known (last c.note.new.self.begun).known _ c.sets_location.result c.note.ensures.notes before
    (λ free.
    let ends = moves (sym c.sets_location.ensures ∙ free) in
    let movable = c.loop-rows.invariant.4 ends.0 ends.1 in
    is_known c.args.start c.args.end common coding (at c.args.own) c.args.self.now.table c.keep.new.self.table c.loop-rows.location whole movable now.2.below (omega arith) _ c.bytes.ensures refl refl c.saturating_sub-distance.ensures c.end-first.ensures c.end.ensures (omega arith)))

pub returns-in_err-keep-clause-known : goal.returns-in_err-keep-clause-known
returns-in_err-keep-clause-known c common run ran rep known =
    let begun = c.in_err-keep.ensures.begun ∙ c.loop-rows.invariant.2 in
    let longer = longer_still c.args.self.now.table.rows c.loop-rows.self.table.rows c.keep.new.self.table.rows c.loop-rows.invariant.3 c.in_err-keep.ensures.grows in
    still_known common c.args.self.now c.keep.new.self longer begun known

pub keep-requires : goal.keep-requires
keep-requires c = c.run_stretch-next.ensures.rows c.loop-rows.self.table.rows c.loop-rows.invariant.5
