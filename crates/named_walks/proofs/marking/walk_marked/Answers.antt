use Rattle.std.proofs.Common.{◌≡◌, ◌∙◌, ◌+◌, ◌-◌, suc, arith}
use Rattle.std.proofs.lemmas.Result.{err_from_is_err_and}
use Rattle.named_walks.proofs.Marks.{marked_ends, marked_faults, marked_goes, marked_limit}
use Rattle.named_walks.proofs.marking.walk_marked.Goals as goal

pub returns-in_err-advance-clause-exact : goal.returns-in_err-advance-clause-exact
returns-in_err-advance-clause-exact c =
    let p = err_from_is_err_and c.from_residual.result c.from_residual.ensures.1 in
    let turns : c.args.limit - c.loop.counter ≡ suc (c.args.limit - (c.loop.counter + 1)) = omega arith in
    rw (p.1, p.2) (marked_faults c.args.space.now c.loop.stepper c.loop.visited.items _ _ c.loop.state _ c.in_err-advance.field-0.0 c.loop.invariant.over turns c.loop.invariant.line c.in_err-advance.ensures.step)

pub returns-then-not-branch-clause-exact : goal.returns-then-not-branch-clause-exact
returns-then-not-branch-clause-exact c =
    let turns : c.args.limit - c.loop.counter ≡ suc (c.args.limit - (c.loop.counter + 1)) = omega arith in
    rw c.push_reserved.ensures.items (marked_ends c.args.space.now c.loop.stepper c.loop.visited.items _ _ c.loop.state _ c.loop.invariant.over turns c.loop.invariant.line (rw c.if-not-branch.true at c.in_ok-advance.ensures.step))

pub returns-clause-exact : goal.returns-clause-exact
returns-clause-exact c =
    let none : c.args.limit - c.loop.counter ≡ 0 = omega arith in
    marked_limit c.args.space.now c.loop.visited.items _ c.loop.state _ none c.loop.invariant.line

pub loop-preserved : goal.loop-preserved
loop-preserved c =
    let turns : c.args.limit - c.loop.counter ≡ suc (c.args.limit - (c.loop.counter + 1)) = omega arith in
    record {
      line = rw c.push_reserved.ensures.items (marked_goes c.args.space.now c.loop.stepper c.loop.visited.items _ _ c.loop.state c.advance.new.state _ c.loop.invariant.over turns c.loop.invariant.line (rw c.if-not-branch.false at c.in_ok-advance.ensures.step));
      count = omega (arith, c.push_reserved.ensures.len);
      places = c.push_reserved.ensures.capacity ∙ c.loop.invariant.places;
      over = c.in_ok-advance.ensures.same ∙ c.loop.invariant.over;
    }
