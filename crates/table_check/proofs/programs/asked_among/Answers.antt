use Rattle.std.proofs.Common.{suc, List, false, map, drop, get_or, subst, arith}
use Rattle.std.proofs.Math.Numerals.{suc-eq-add-one}
use Rattle.table_check.specs.declared.claims.AddressRange.{AddressRange}
use Rattle.table_check.specs.ClaimViews.{range_of}
use Rattle.table_check.proofs.Asking.{IsPassed, end_before, end_in, front_after, front_before, in_part, none_passed, one_passed, out_after, out_before, quiet_before, quiet_in, quiet_over}
use Rattle.table_check.proofs.GoneThrough.{left_is, none_left}
use Rattle.table_check.proofs.programs.asked_among.Goals as goal

abbrev unread : AddressRange
unread = record { from = 0; to = 0 }

pub loop-body-init : goal.loop-body-init
loop-body-init c = none_passed c.args.end c.args.pc c.requires.within.0 (map range_of c.args.bodies.now) c.requires.within.1

pub returns-then-pc-body-clause-place : goal.returns-then-pc-body-clause-place
returns-then-pc-body-clause-place c =
    let xs : List AddressRange = c.args.bodies.now in
    let i = c.loop-body.body-index in
    let all = map range_of xs in
    let left = map range_of (drop i xs) in
    let r = range_of (get_or xs i unread) in
    let rest = map range_of (drop (suc i) xs) in
    let at = left_is range_of xs i unread c.loop-body-test.true in
    let was = c.loop-body.invariant in
    let below = c.if-pc-body.true in
    c.place_outside-place.ensures c.args.end c.args.pc all (out_before c.args.end c.args.pc all left c.loop-body.is_first was r rest at below) (front_before c.args.end c.args.pc all left c.loop-body.is_first was r rest at below)

pub returns-then-pc-body-clause-quiet : goal.returns-then-pc-body-clause-quiet
returns-then-pc-body-clause-quiet c =
    let xs : List AddressRange = c.args.bodies.now in
    let i = c.loop-body.body-index in
    quiet_before c.args.end c.args.pc (map range_of xs) (map range_of (drop i xs)) c.loop-body.is_first c.loop-body.invariant (range_of (get_or xs i unread)) (map range_of (drop (suc i) xs)) (left_is range_of xs i unread c.loop-body-test.true) c.if-pc-body.true

pub returns-then-pc-body-clause-inside : goal.returns-then-pc-body-clause-inside
returns-then-pc-body-clause-inside c =
    let xs : List AddressRange = c.args.bodies.now in
    let i = c.loop-body.body-index in
    end_before c.args.end c.args.pc (map range_of xs) (map range_of (drop i xs)) c.loop-body.is_first c.loop-body.invariant (range_of (get_or xs i unread)) (map range_of (drop (suc i) xs)) (left_is range_of xs i unread c.loop-body-test.true) c.if-pc-body.true

pub returns-then-pc-body-2-clause-place : goal.returns-then-pc-body-2-clause-place
returns-then-pc-body-2-clause-place c =
    let xs : List AddressRange = c.args.bodies.now in
    let i = c.loop-body.body-index in
    let from = c.if-pc-body.false in
    c.place_inside-place.ensures c.args.end c.args.pc (map range_of xs) (in_part c.args.end c.args.pc (map range_of xs) (map range_of (drop i xs)) c.loop-body.is_first c.loop-body.invariant (range_of (get_or xs i unread)) (map range_of (drop (suc i) xs)) (left_is range_of xs i unread c.loop-body-test.true) (omega (arith, from)) c.if-pc-body-2.true)

pub returns-then-pc-body-2-clause-quiet : goal.returns-then-pc-body-2-clause-quiet
returns-then-pc-body-2-clause-quiet c =
    let xs : List AddressRange = c.args.bodies.now in
    let i = c.loop-body.body-index in
    let from = c.if-pc-body.false in
    quiet_in c.args.end c.args.pc (map range_of xs) (map range_of (drop i xs)) c.loop-body.is_first c.loop-body.invariant (range_of (get_or xs i unread)) (map range_of (drop (suc i) xs)) (left_is range_of xs i unread c.loop-body-test.true) (omega (arith, from)) c.if-pc-body-2.true

pub returns-then-pc-body-2-clause-inside : goal.returns-then-pc-body-2-clause-inside
returns-then-pc-body-2-clause-inside c =
    let xs : List AddressRange = c.args.bodies.now in
    let i = c.loop-body.body-index in
    let from = c.if-pc-body.false in
    end_in c.args.end c.args.pc (map range_of xs) (map range_of (drop i xs)) c.loop-body.is_first c.loop-body.invariant (range_of (get_or xs i unread)) (map range_of (drop (suc i) xs)) (left_is range_of xs i unread c.loop-body-test.true) (omega (arith, from)) c.if-pc-body-2.true

pub loop-body-preserved : goal.loop-body-preserved
loop-body-preserved c =
    let xs : List AddressRange = c.args.bodies.now in
    let i = c.loop-body.body-index in
    let from = c.if-pc-body.false in
    let past = c.if-pc-body-2.false in
    subst (λ n. IsPassed c.args.end c.args.pc (map range_of xs) (map range_of (drop n xs)) false) (suc-eq-add-one i)
    (one_passed c.args.end c.args.pc (map range_of xs) (map range_of (drop i xs)) c.loop-body.is_first c.loop-body.invariant (range_of (get_or xs i unread)) (map range_of (drop (suc i) xs)) (left_is range_of xs i unread c.loop-body-test.true) (omega (arith, from)) (omega (arith, past)))

pub returns-clause-place : goal.returns-clause-place
returns-clause-place c =
    let xs : List AddressRange = c.args.bodies.now in
    let i = c.loop-body.body-index in
    let over = none_left range_of xs i c.loop-body-test.false in
    c.place_outside-place-2.ensures c.args.end c.args.pc (map range_of xs) (out_after c.args.end c.args.pc (map range_of xs) (map range_of (drop i xs)) c.loop-body.is_first c.loop-body.invariant over)
    (front_after c.args.end c.args.pc (map range_of xs) (map range_of (drop i xs)) c.loop-body.is_first c.loop-body.invariant over c.requires.inside)

pub returns-clause-quiet : goal.returns-clause-quiet
returns-clause-quiet c =
    let xs : List AddressRange = c.args.bodies.now in
    let i = c.loop-body.body-index in
    quiet_over c.args.end c.args.pc (map range_of xs) (map range_of (drop i xs)) c.loop-body.is_first c.loop-body.invariant (none_left range_of xs i c.loop-body-test.false)
