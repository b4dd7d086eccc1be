use Rattle.std.proofs.Common.{ℕ, ◌+◌, ◌^◌, ◌<◌, ◌≤◌, sym, subst, arith}
use Rattle.encoded_pointers.specs.PointerViews.{bases_of}
use Rattle.fde_finders.specs.FoundViews.{found_fde_of}
use Rattle.fde_finders.proofs.Listed.{IsPast, begun, passed, found, ends_after}
use Rattle.fde_finders.proofs.registry.find_listed.Goals as goal

pub loop-table-init : goal.loop-table-init
loop-table-init c = (begun (bases_of c.args.known.now) c.args.image.now c.args.pc c.args.begin, omega (arith, c.ranges.begin.fits))

pub returns-in-Some : goal.returns-in-Some
returns-in-Some c =
    found (bases_of c.args.known.now) c.args.image.now c.args.pc c.args.begin c.loop-table.place c.in_ok-table.table (found_fde_of c.in-Some.found) c.loop-table.invariant.0 c.loop-table.invariant.1 (sym c.in_ok-table.ensures) c.if-table-eq0.false (sym c.in-Some.ensures)

pub returns-in_err-place : goal.returns-in_err-place
returns-in_err-place c =
    let past = passed (bases_of c.args.known.now) c.args.image.now c.args.pc c.args.begin c.loop-table.place c.in_ok-table.table c.loop-table.invariant.0 c.loop-table.invariant.1 (sym c.in_ok-table.ensures) c.if-table-eq0.false (sym c.in_default.ensures) in
    let none = c.from_residual-in_err-place.ensures in
    let much : 2 ^ 64 ≤ c.loop-table.place + 8 = omega (arith, c.in_err-place.ensures) in
    rw none (ends_after (bases_of c.args.known.now) c.args.image.now c.args.pc c.args.begin (c.loop-table.place + 8) past much)

pub loop-table-preserved : goal.loop-table-preserved
loop-table-preserved c =
    let past = passed (bases_of c.args.known.now) c.args.image.now c.args.pc c.args.begin c.loop-table.place c.in_ok-table.table c.loop-table.invariant.0 c.loop-table.invariant.1 (sym c.in_ok-table.ensures) c.if-table-eq0.false (sym c.in_default.ensures) in
    let sum = c.in_ok-place.ensures in
    let P : ℕ → Type 0 = λ place. IsPast (bases_of c.args.known.now) c.args.image.now c.args.pc c.args.begin place × (place < 2 ^ 64) in
    subst P (sym sum.1) (past, sum.0)
