use Rattle.std.proofs.Common.{rules, ◌≡◌, ◌-◌, ◌+◌, ◌<◌, Ok, Some, refl, sym, ◌∙◌, arith}
use Rattle.pe_unwind_info.specs.Handlers.{Answers, GoesOn, naming_end}
use Rattle.pe_unwind_info.proofs.HandlerLemmas.{named_none, named_limit, named_goes, named_answers, read_as}
use Rattle.pe_unwind_info.proofs.x86_64.handler.handler_in.Goals as goal

pub returns-in_default : goal.returns-in_default
returns-in_default g c = c.loop-turn.invariant _ (rw c.in_default.is (named_none _ (33 - c.loop-turn._turn) _ refl))

pub returns-in_err-chained : goal.returns-in_err-chained
returns-in_err-chained g c =
    let more : 0 < 33 - c.loop-turn._turn = omega (arith, c.loop-turn-test.true) in
    let read = read_as _ c.in-Some.function _ c.in_err-chained.ensures in
    c.loop-turn.invariant _ (rw c.in-Some.is (named_answers _ (33 - c.loop-turn._turn) c.in-Some.function _ _ more read (search rules)))

pub returns-in-Break : goal.returns-in-Break
returns-in-Break g c =
    let more : 0 < 33 - c.loop-turn._turn = omega (arith, c.loop-turn-test.true) in
    let l = c.in_ok-chained.ensures in
    let found : naming_end (Ok c.in_ok-chained.field-0) ≡ Answers (Ok (Some c.in-Break.handler)) = rw c.in-Break.is refl in
    let read = read_as _ c.in-Some.function (Answers (Ok (Some c.in-Break.handler))) (l.0, l.1, sym found ∙ l.2) in
    c.loop-turn.invariant _ (rw c.in-Some.is (named_answers _ (33 - c.loop-turn._turn) c.in-Some.function _ _ more read refl))

pub loop-turn-preserved : goal.loop-turn-preserved
loop-turn-preserved g c =
    let more : 0 < 33 - c.loop-turn._turn = omega (arith, c.loop-turn-test.true) in
    let less : 33 - (c.loop-turn._turn + 1) ≡ 33 - c.loop-turn._turn - 1 = omega arith in
    let l = c.in_ok-chained.ensures in
    let goes : naming_end (Ok c.in_ok-chained.field-0) ≡ GoesOn c.in-Continue.chained = rw c.in-Continue.is refl in
    let read = read_as _ c.in-Some.function (GoesOn c.in-Continue.chained) (l.0, l.1, sym goes ∙ l.2) in
    λ answer later. c.loop-turn.invariant answer (rw c.in-Some.is (named_goes _ (33 - c.loop-turn._turn) c.in-Some.function c.in-Continue.chained answer more read (rw less at later)))

pub returns-in-Some-next : goal.returns-in-Some-next
returns-in-Some-next g c =
    let last : 33 - c.loop-turn._turn ≡ 0 = omega (arith, c.loop-turn-test.false) in
    c.loop-turn.invariant _ (rw c.in-Some-next.is (named_limit _ (33 - c.loop-turn._turn) _ _ last refl))

pub returns-in-None : goal.returns-in-None
returns-in-None g c = c.loop-turn.invariant _ (rw c.in-None.is (named_none _ (33 - c.loop-turn._turn) _ refl))
