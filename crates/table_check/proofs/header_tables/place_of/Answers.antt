use Rattle.std.proofs.Common.{ℕ, ◌+◌, ◌-◌, ◌/◌, Ok, ap, ◌∙◌, arith}
use Rattle.eh_frame.specs.HeaderViews.{pairs_of}
use Rattle.table_check.proofs.Ascending.{lower, none_starts, reads_not, starts_there, upper}
use Rattle.table_check.proofs.header_tables.place_of.Goals as goal

pub returns-in_default : goal.returns-in_default
returns-in_default c read r place has =
    let test = c.loop-low-test.true in let high = c.loop-low.invariant.1 in
    reads_not (pairs_of c.args.pairs.now) read r (c.loop-low.low + (c.loop-low.high - c.loop-low.low) / 2) c.in_default.field-0 (omega (arith, test, high)) c.in_default.ensures.reads

pub returns-then-first-start : goal.returns-then-first-start
returns-then-first-start c read r =
    let test = c.loop-low-test.true in let high = c.loop-low.invariant.1 in
    starts_there (pairs_of c.args.pairs.now) read r c.args.start (c.loop-low.low + (c.loop-low.high - c.loop-low.low) / 2) c.in-Ok.place (omega (arith, test, high))
    (c.in-Ok.ensures.reads ∙ ap (λ n. Ok (n, c.in-Ok.place)) c.if-first-start.true)

pub loop-low-preserved-then-first-start-2 : goal.loop-low-preserved-then-first-start-2
loop-low-preserved-then-first-start-2 c =
    let inv = c.loop-low.invariant in
    let test = c.loop-low-test.true in let high = inv.1 in
    let middle : ℕ = c.loop-low.low + (c.loop-low.high - c.loop-low.low) / 2 in (
      omega (arith, test),
      inv.1,
      λ ps read. upper (pairs_of c.args.pairs.now) ps read c.args.start c.loop-low.low c.loop-low.high middle (c.in-Ok.first, c.in-Ok.place) (inv.2 ps read) (omega (arith, test, high)) c.in-Ok.ensures.reads c.if-first-start-2.true,
    )

pub loop-low-preserved : goal.loop-low-preserved
loop-low-preserved c =
    let inv = c.loop-low.invariant in
    let test = c.loop-low-test.true in let high = inv.1 in
    let other = c.if-first-start.false in let above = c.if-first-start-2.false in
    let middle : ℕ = c.loop-low.low + (c.loop-low.high - c.loop-low.low) / 2 in (
      omega (arith, test),
      omega (arith, test, high),
      λ ps read. lower (pairs_of c.args.pairs.now) ps read c.args.start c.loop-low.low c.loop-low.high middle (c.in-Ok.first, c.in-Ok.place) (inv.2 ps read) (omega (arith, test, high)) c.in-Ok.ensures.reads (omega (arith, other, above)),
    )

pub returns : goal.returns
returns c read r place has =
    let over = c.loop-low-test.false in
    none_starts (pairs_of c.args.pairs.now) read r c.args.start c.loop-low.low c.loop-low.high (c.loop-low.invariant.2 read r) (omega (arith, over)) place has
