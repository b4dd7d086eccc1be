use Rattle.std.proofs.Common.{◌≡◌, ◌+◌, ◌-◌, ◌/◌, refl, arith}
use Rattle.std.proofs.lemmas.Result.{err_from_is_err_and}
use Rattle.eh_frame.specs.HeaderViews.{pairs_of}
use Rattle.eh_frame.proofs.Halving.{raised, lowered, faulted, ended, one_look, counts}
use Rattle.eh_frame.proofs.header.HdrTable.boundary.Goals as goal

pub returns-in_err-entry-clause-ticks : goal.returns-in_err-entry-clause-ticks
returns-in_err-entry-clause-ticks g c =
    counts c.args.self.now.count c.args.steps.now.number c.entry.new.steps.number 0 refl
    (one_look c.args.self.now.count c.args.steps.now.number c.loop-low.steps.number c.entry.new.steps.number (c.loop-low.high - c.loop-low.low) 0 c.entry.ensures.ticks c.loop-low.invariant.1 (omega arith) (omega arith))

pub returns-in_err-entry-clause-exact : goal.returns-in_err-entry-clause-exact
returns-in_err-entry-clause-exact g c =
    let p = err_from_is_err_and c.from_residual.result c.from_residual.ensures.1 in
    rw (p.1, p.2) (faulted (pairs_of c.args.self.now) c.args.pc c.loop-low.low c.loop-low.high c.loop-low.found _ c.loop-low.invariant.0 (omega arith) c.in_err-entry.ensures.reads)

pub loop-low-preserved-then-entry-pc : goal.loop-low-preserved-then-entry-pc
loop-low-preserved-then-entry-pc g c = (
  raised (pairs_of c.args.self.now) c.args.pc c.loop-low.low c.loop-low.high c.loop-low.found c.in_ok-entry.entry c.loop-low.invariant.0 (omega arith) c.in_ok-entry.ensures.reads
      c.if-entry-pc.true,
  one_look c.args.self.now.count c.args.steps.now.number c.loop-low.steps.number c.entry.new.steps.number (c.loop-low.high - c.loop-low.low) (c.loop-low.high - (c.loop-low.low + (c.loop-low.high - c.loop-low.low) / 2 + 1)) c.entry.ensures.ticks
      c.loop-low.invariant.1 (omega arith) (omega arith),
)

pub loop-low-preserved : goal.loop-low-preserved
loop-low-preserved g c = (
  lowered (pairs_of c.args.self.now) c.args.pc c.loop-low.low c.loop-low.high c.loop-low.found c.in_ok-entry.entry c.loop-low.invariant.0 (omega arith)
      c.in_ok-entry.ensures.reads c.if-entry-pc.false,
  one_look c.args.self.now.count c.args.steps.now.number c.loop-low.steps.number c.entry.new.steps.number (c.loop-low.high - c.loop-low.low) (c.loop-low.low + (c.loop-low.high - c.loop-low.low) / 2 - c.loop-low.low) c.entry.ensures.ticks
      c.loop-low.invariant.1 (omega arith) (omega arith),
)

pub returns-clause-ticks : goal.returns-clause-ticks
returns-clause-ticks g c =
    let none : c.loop-low.high - c.loop-low.low ≡ 0 = omega (arith, c.loop-low-test.false) in
    counts c.args.self.now.count c.args.steps.now.number c.loop-low.steps.number (c.loop-low.high - c.loop-low.low) none c.loop-low.invariant.1

pub returns-clause-exact : goal.returns-clause-exact
returns-clause-exact g c = ended (pairs_of c.args.self.now) c.args.pc c.loop-low.low c.loop-low.high c.loop-low.found c.loop-low.invariant.0 c.loop-low-test.false
