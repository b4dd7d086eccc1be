use Rattle.std.proofs.Common.{◌-◌, Ok, Err, length, true, false, sym, ◌∙◌, arith}
use Rattle.std.proofs.lemmas.Result.{err_from_is_err_and}
use Rattle.encoded_pointers.specs.PointerViews.{bases_of}
use Rattle.unwinding_frames.specs.Calling.{fault_of}
use Rattle.unwinding_frames.specs.CxxViews.{exception_of, record_of, table_of}
use Rattle.unwinding_frames.proofs.CxxLists.{is_zero, is_some}
use Rattle.unwinding_frames.proofs.CxxSearches.{same_error}
use Rattle.unwinding_frames.proofs.CxxChains.{known, next_in, record_fault, takes_fault, taken, last, next_fault, goes_on}
use Rattle.unwinding_frames.proofs.cxx.table.CxxTable.chain_action.Goals as goal

pub returns-in_err-record : goal.returns-in_err-record
returns-in_err-record c =
    let p = err_from_is_err_and c.from_residual.result c.from_residual.ensures.1 in
    rw (p.1, p.2, same_error c.in_err-record.field-0.0) (sym (c.loop-turns.invariant ∙ record_fault c.args.image.now (bases_of c.args.bases.now) (exception_of c.args.exception) (table_of c.args.self.now) c.args.pad (c.loop-turns.turns - 1) c.loop-turns.turns c.loop-turns.place c.loop-turns.met_cleanup (omega arith)
    (fault_of c.in_err-record.field-0.0) (sym c.in_err-record.ensures)))

pub returns-in_err-takes : goal.returns-in_err-takes
returns-in_err-takes c =
    let p = err_from_is_err_and c.from_residual-in_err-takes.result c.from_residual-in_err-takes.ensures.1 in
    rw (p.1, p.2) (sym (c.loop-turns.invariant ∙ takes_fault c.args.image.now (bases_of c.args.bases.now) (exception_of c.args.exception) (table_of c.args.self.now) c.args.pad (c.loop-turns.turns - 1) c.loop-turns.turns c.loop-turns.place c.loop-turns.met_cleanup (omega arith)
    (record_of c.in_ok-record.record) (sym c.in_ok-record.ensures) c.in_err-takes.field-0.0 (sym c.in_err-takes.ensures)))

pub returns-then-branch : goal.returns-then-branch
returns-then-branch c =
    sym (c.loop-turns.invariant ∙ taken c.args.image.now (bases_of c.args.bases.now) (exception_of c.args.exception) (table_of c.args.self.now) c.args.pad (c.loop-turns.turns - 1) c.loop-turns.turns c.loop-turns.place c.loop-turns.met_cleanup (omega arith)
    (record_of c.in_ok-record.record) (sym c.in_ok-record.ensures) (known _ c.in_ok-takes.field-0 true c.in_ok-takes.ensures c.if-branch.true))

pub returns-then-record-eq0 : goal.returns-then-record-eq0
returns-then-record-eq0 c =
    rw (c.untaken.ensures, c.meets_cleanup-met_cleanup.ensures) (sym (c.loop-turns.invariant ∙ last c.args.image.now (bases_of c.args.bases.now) (exception_of c.args.exception) (table_of c.args.self.now) c.args.pad (c.loop-turns.turns - 1) c.loop-turns.turns c.loop-turns.place c.loop-turns.met_cleanup (omega arith)
    (record_of c.in_ok-record.record) (sym c.in_ok-record.ensures) (known _ c.in_ok-takes.field-0 false c.in_ok-takes.ensures c.if-branch.false) (is_zero c.in_ok-record.record.distance c.if-record-eq0.true)))

pub returns-in_err-place : goal.returns-in_err-place
returns-in_err-place c =
    let p = err_from_is_err_and c.from_residual-in_err-place.result c.from_residual-in_err-place.ensures.1 in
    rw (p.1, p.2) (sym (c.loop-turns.invariant ∙ next_fault c.args.image.now (bases_of c.args.bases.now) (exception_of c.args.exception) (table_of c.args.self.now) c.args.pad (c.loop-turns.turns - 1) c.loop-turns.turns c.loop-turns.place c.loop-turns.met_cleanup (omega arith)
    (record_of c.in_ok-record.record) (sym c.in_ok-record.ensures) (known _ c.in_ok-takes.field-0 false c.in_ok-takes.ensures c.if-branch.false) (is_some c.in_ok-record.record.distance c.if-record-eq0.false) c.in_err-place.field-0.0 (next_in c.len.result (length c.args.self.now.actions.bytes.now) (record_of c.in_ok-record.record) (Err c.in_err-place.field-0.0) c.in_err-place.ensures c.len.ensures)))

pub loop-turns-preserved : goal.loop-turns-preserved
loop-turns-preserved c =
    rw c.meets_cleanup-met_cleanup.ensures (c.loop-turns.invariant ∙ goes_on c.args.image.now (bases_of c.args.bases.now) (exception_of c.args.exception) (table_of c.args.self.now) c.args.pad (c.loop-turns.turns - 1) c.loop-turns.turns c.loop-turns.place c.loop-turns.met_cleanup (omega arith)
    (record_of c.in_ok-record.record) (sym c.in_ok-record.ensures) (known _ c.in_ok-takes.field-0 false c.in_ok-takes.ensures c.if-branch.false) (is_some c.in_ok-record.record.distance c.if-record-eq0.false) c.in_ok-place.place (next_in c.len.result (length c.args.self.now.actions.bytes.now) (record_of c.in_ok-record.record) (Ok c.in_ok-place.place) c.in_ok-place.ensures c.len.ensures))
