use Rattle.std.proofs.Common.{◌≡◌, ◌∙◌, ◌-◌, sym, arith, suc}
use Rattle.fde_finders.specs.Sought.{is_sought}
use Rattle.fde_finders.proofs.Lasts.{last_here, last_below}
use Rattle.fde_finders.proofs.phdr.last_header.Goals as goal

pub returns-then-is : goal.returns-then-is
returns-then-is c =
    let one : c.loop-left.left ≡ suc (c.loop-left.left - 1) = (let lt = c.loop-left-test.true in omega arith) in
    sym (c.loop-left.invariant.1 ∙ last_here (is_sought c.args.sought) c.loop-left.left (c.loop-left.left - 1) c.args.headers.now c.in_ok-header.header one (sym c.in_ok-header.ensures) (sym c.is.ensures ∙ c.if-is.true))

pub loop-left-preserved : goal.loop-left-preserved
loop-left-preserved c =
    let one : c.loop-left.left ≡ suc (c.loop-left.left - 1) = (let lt = c.loop-left-test.true in omega arith) in
    let le = c.loop-left.invariant.0 in
    (omega arith, c.loop-left.invariant.1 ∙ last_below (is_sought c.args.sought) c.loop-left.left (c.loop-left.left - 1) c.args.headers.now c.in_ok-header.header one (sym c.in_ok-header.ensures) (sym c.is.ensures ∙ c.if-is.false))
