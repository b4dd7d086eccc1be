use Rattle.std.proofs.Common.{◌≡◌, Ok, Err, refl, sym, ap, ◌∙◌, arith}
use Rattle.std.proofs.lemmas.Result.{err_from_is_err_and}
use Rattle.encoded_pointers.specs.CursorViews.{at}
use Rattle.unwind_definitions.specs.Expressions.{done, evaluation, top_or_fault, top_of}
use Rattle.frame_expressions.specs.OperationViews.{meaning}
use Rattle.frame_expressions.specs.Answers.{GoesOn}
use Rattle.frame_expressions.proofs.Within.{IsPlace, operation_within}
use Rattle.frame_expressions.proofs.Turns.{first_place, branched_place, end_answer, too_many, not_read, not_done, is_done}
use Rattle.frame_expressions.proofs.evaluation.run.Goals as goal

pub loop-input-init : goal.loop-input-init
unfolding evaluation
loop-input-init g c =
    let place : IsPlace c.args.expression.now (at c.new-input.result) = first_place c.args.expression.now (at c.new-input.result) c.new-input.ensures in
    let first : c.new-input.result.offset ≡ 0 = ap (λ i. i.offset) c.new-input.ensures in
    record { place = place; long = refl; same = rw (first, c.new-stack.ensures) refl }

pub returns-then-left-eq0 : goal.returns-then-left-eq0
returns-then-left-eq0 g c =
    sym (too_many c.args.image.now (g.R.RegisterMap.columns c.args.registers.now) c.args.expression.now c.loop-input.left (at c.loop-input.input) c.loop-input.stack c.loop-input.invariant.place (sym c.loop-input-test.ensures) c.if-left-eq0.true)
    ∙ c.loop-input.invariant.same

pub returns-in_err-operation : goal.returns-in_err-operation
returns-in_err-operation g c =
    let p = err_from_is_err_and c.from_residual.result c.from_residual.ensures.1 in
    rw (p.1, p.2) (sym (not_read c.args.image.now (g.R.RegisterMap.columns c.args.registers.now) c.args.expression.now c.loop-input.left (at c.loop-input.input) c.loop-input.stack c.in_err-operation.field-0.0 c.loop-input.invariant.place (sym c.loop-input-test.ensures) c.if-left-eq0.false c.in_err-operation.ensures)
    ∙ c.loop-input.invariant.same)

pub perform-requires-clause-next : goal.perform-requires-clause-next
perform-requires-clause-next g c =
    let place = operation_within c.args.expression.now (at c.loop-input.input) (at c.read_operation.new.input) (meaning c.in_ok-operation.operation) c.loop-input.invariant.place c.in_ok-operation.ensures in
    omega (arith, place.within, c.offset-after.ensures)

pub returns-in_err-next : goal.returns-in_err-next
returns-in_err-next g c =
    let columns = g.R.RegisterMap.columns c.args.registers.now in
    let x = c.args.expression.now in
    let p = err_from_is_err_and c.from_residual-in_err-next.result c.from_residual-in_err-next.ensures.1 in
    let goes : GoesOn (Err c.in_err-next.field-0.0) c.perform.new.stack (done c.args.image.now columns x c.offset-after.result c.loop-input.stack (meaning c.in_ok-operation.operation)) = c.in_err-next.ensures.does x refl in
    rw (p.1, p.2) (sym (not_done c.args.image.now columns x c.loop-input.left (at c.loop-input.input) (at c.read_operation.new.input) c.loop-input.stack c.perform.new.stack (meaning c.in_ok-operation.operation) c.in_err-next.field-0.0 c.loop-input.invariant.place (sym c.loop-input-test.ensures) c.if-left-eq0.false c.in_ok-operation.ensures (rw c.offset-after.ensures at goes))
    ∙ c.loop-input.invariant.same)

pub loop-input-preserved-then-next-after : goal.loop-input-preserved-then-next-after
loop-input-preserved-then-next-after g c =
    let columns = g.R.RegisterMap.columns c.args.registers.now in
    let x = c.args.expression.now in
    let place : IsPlace x (at c.from_offset-input.result) = branched_place x (at c.from_offset-input.result) c.in_ok-next.next c.from_offset-input.ensures c.in_ok-next.ensures.within in
    let there : c.from_offset-input.result.offset ≡ c.in_ok-next.next = ap (λ i. i.offset) c.from_offset-input.ensures ∙ omega arith in
    let goes : GoesOn (Ok c.in_ok-next.next) c.perform.new.stack (done c.args.image.now columns x c.offset-after.result c.loop-input.stack (meaning c.in_ok-operation.operation)) = c.in_ok-next.ensures.does x refl in
    record {
      place = place;
      long = refl;
      same = rw there (sym (is_done c.args.image.now columns x c.loop-input.left c.in_ok-next.next (at c.loop-input.input) (at c.read_operation.new.input) c.loop-input.stack c.perform.new.stack (meaning c.in_ok-operation.operation) c.loop-input.invariant.place (sym c.loop-input-test.ensures) c.if-left-eq0.false c.in_ok-operation.ensures (rw c.offset-after.ensures at goes))
          ∙ c.loop-input.invariant.same);
    }

pub loop-input-preserved : goal.loop-input-preserved
loop-input-preserved g c =
    let columns = g.R.RegisterMap.columns c.args.registers.now in
    let x = c.args.expression.now in
    let place : IsPlace x (at c.read_operation.new.input) = operation_within x (at c.loop-input.input) (at c.read_operation.new.input) (meaning c.in_ok-operation.operation) c.loop-input.invariant.place c.in_ok-operation.ensures in
    let there : c.read_operation.new.input.offset ≡ c.in_ok-next.next = sym c.offset-after.ensures ∙ sym c.if-next-after.false in
    let goes : GoesOn (Ok c.in_ok-next.next) c.perform.new.stack (done c.args.image.now columns x c.offset-after.result c.loop-input.stack (meaning c.in_ok-operation.operation)) = c.in_ok-next.ensures.does x refl in
    record {
      place = place;
      long = refl;
      same = rw there (sym (is_done c.args.image.now columns x c.loop-input.left c.in_ok-next.next (at c.loop-input.input) (at c.read_operation.new.input) c.loop-input.stack c.perform.new.stack (meaning c.in_ok-operation.operation) c.loop-input.invariant.place (sym c.loop-input-test.ensures) c.if-left-eq0.false c.in_ok-operation.ensures (rw c.offset-after.ensures at goes))
          ∙ c.loop-input.invariant.same);
    }

pub returns-in_err-pop : goal.returns-in_err-pop
returns-in_err-pop g c =
    let p = err_from_is_err_and c.from_residual-in_err-pop.result c.from_residual-in_err-pop.ensures.1 in
    let ended = end_answer c.args.image.now (g.R.RegisterMap.columns c.args.registers.now) c.args.expression.now c.loop-input.left (at c.loop-input.input) c.loop-input.stack c.loop-input.invariant.place (sym c.loop-input-test.ensures) in
    rw (p.1, p.2, c.in_err-pop.ensures.fault) (sym (ended ∙ ap (λ s. top_or_fault (top_of s)) c.in_err-pop.ensures.none) ∙ c.loop-input.invariant.same)

pub returns : goal.returns
returns g c =
    let ended = end_answer c.args.image.now (g.R.RegisterMap.columns c.args.registers.now) c.args.expression.now c.loop-input.left (at c.loop-input.input) c.loop-input.stack c.loop-input.invariant.place (sym c.loop-input-test.ensures) in
    sym (ended ∙ ap (λ s. top_or_fault (top_of s)) c.in_ok-pop.ensures.word) ∙ c.loop-input.invariant.same
