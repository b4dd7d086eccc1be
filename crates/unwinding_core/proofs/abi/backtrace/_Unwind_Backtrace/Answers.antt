use Rattle.std.proofs.Common.{◌≡◌, ◌+◌, ◌-◌, zero, suc, refl, sym, arith}
use Rattle.unwinding_core.proofs.Lines.{reaches_start, crowded, ends, goes_on}
use Rattle.unwinding_core.proofs.abi.backtrace._Unwind_Backtrace.Goals as goal

pub loop-init : goal.loop-init
loop-init g c =
    let whole : c.args.limit - 0 ≡ c.args.limit = omega arith in
    rw whole (reaches_start _ _ _ _ _)

pub loop-preserved : goal.loop-preserved
loop-preserved g c =
    let some : c.args.limit - c.loop.counter ≡ suc (c.args.limit - (c.loop.counter + 1)) = omega arith in
    goes_on _ _ _ _ _ _ _ _ _ _ _ c.visit_frame.ensures.0 some c.loop.invariant c.visit_frame.ensures.1 (sym (rw (c.in-Ok-Caller.is, c.in-Ok-Caller.field-0-is) at c.visit_frame.ensures.2))

pub returns-in-Err : goal.returns-in-Err
returns-in-Err g c =
    let some : c.args.limit - c.loop.counter ≡ suc (c.args.limit - (c.loop.counter + 1)) = omega arith in
    let w = ends _ _ _ _ _ _ _ _ _ _ _ c.visit_frame.ensures.0 some c.loop.invariant c.visit_frame.ensures.1 (sym (rw c.in-Err.is at c.visit_frame.ensures.2)) in
    (w.0, w.1, rw (← w.2, ← w.3, c.fatal.ensures, c.from.ensures) refl)

pub returns-in-Ok-End : goal.returns-in-Ok-End
returns-in-Ok-End g c =
    let some : c.args.limit - c.loop.counter ≡ suc (c.args.limit - (c.loop.counter + 1)) = omega arith in
    let w = ends _ _ _ _ _ _ _ _ _ _ _ c.visit_frame.ensures.0 some c.loop.invariant c.visit_frame.ensures.1 (sym (rw (c.in-Ok-End.is, c.in-Ok-End.field-0-is) at c.visit_frame.ensures.2)) in
    (w.0, w.1, rw (← w.2, ← w.3) c.last_visit.ensures)

pub returns-in-Ok-Stop : goal.returns-in-Ok-Stop
returns-in-Ok-Stop g c =
    let some : c.args.limit - c.loop.counter ≡ suc (c.args.limit - (c.loop.counter + 1)) = omega arith in
    let w = ends _ _ _ _ _ _ _ _ _ _ _ c.visit_frame.ensures.0 some c.loop.invariant c.visit_frame.ensures.1 (sym (rw (c.in-Ok-Stop.is, c.in-Ok-Stop.field-0-is) at c.visit_frame.ensures.2)) in
    (w.0, w.1, rw (← w.2, ← w.3, c.fatal-in-Ok-Stop.ensures) refl)

pub returns : goal.returns
returns g c =
    let none : c.args.limit - c.loop.counter ≡ zero = omega arith in
    let w = crowded _ _ _ _ _ _ _ _ none c.loop.invariant in
    (w.0, w.1, rw (← w.2, ← w.3, c.fatal-2.ensures) refl)
