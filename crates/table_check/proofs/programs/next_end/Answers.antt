use Rattle.std.proofs.Common.{◌≡◌, ◌-◌, ◌<◌, Some, sym, subst, ◌∙◌, arith}
use Rattle.frame_rows.specs.Walks.{IsBefore}
use Rattle.table_check.specs.Running.{next_end_of}
use Rattle.table_check.proofs.programs.next_end.Goals as goal

pub returns-in-Some-clause-ahead : goal.returns-in-Some-clause-ahead
returns-in-Some-clause-ahead c =
    let is : next_end_of c.args.running.now c.args.steps.now ≡ Some c.in-Some.end = sym c.next_end.ensures ∙ c.in-Some.is in
    let past : c.args.pc - c.args.start < c.in-Some.end = subst (IsBefore (c.args.pc - c.args.start)) is c.requires.step in
    let start = c.requires.start in
    let inside = c.requires.inside in
    let sum = c.saturating_add.ensures in
    let least = c.min.ensures in
    let fits = c.ranges.limit.fits in
    omega (arith, past, start, inside, sum, least, fits)

pub returns-in-Some-clause-before : goal.returns-in-Some-clause-before
returns-in-Some-clause-before c a from below =
    let is : next_end_of c.args.running.now c.args.steps.now ≡ Some c.in-Some.end = sym c.next_end.ensures ∙ c.in-Some.is in
    let start = c.requires.start in
    let sum = c.saturating_add.ensures in
    let least = c.min.ensures in
    let past : a - c.args.start < c.in-Some.end = omega (arith, from, below, start, sum, least) in
    subst (IsBefore (a - c.args.start)) (sym is) past

pub returns-in-None-clause-before : goal.returns-in-None-clause-before
returns-in-None-clause-before c a from below = subst (IsBefore (a - c.args.start)) (sym (sym c.next_end.ensures ∙ c.in-None.is)) tt
