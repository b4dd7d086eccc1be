use Rattle.std.proofs.Common.{rules, ◌≡◌, ◌-◌, ◌<◌, Ok, ◌+◌, sym, ◌∙◌, refl, arith}
use Rattle.pe_unwind_info.specs.Machine.{Registers, registers_of, Returned}
use Rattle.pe_unwind_info.specs.Frame.{Follows, Stops, link_end}
use Rattle.pe_unwind_info.proofs.LinkLemmas.{linked_none, linked_limit, linked_follows, linked_stops, link_is}
use Rattle.pe_unwind_info.proofs.x86_64.frame.unwind_links.Goals as goal

pub returns-in_default-clause-registers : goal.returns-in_default-clause-registers
returns-in_default-clause-registers g c =
    c.loop-turn.invariant.same _ (rw c.in_default.is (linked_none _ _ (32 - c.loop-turn._turn) _ _ (rw (← c.loop-turn.invariant.stack) c.pop_return_address.ensures.registers)))

pub returns-in_err-chained-clause-registers : goal.returns-in_err-chained-clause-registers
returns-in_err-chained-clause-registers g c =
    let link = link_is _ _ _ c.in-Some.function _ _ c.loop-turn.invariant.stack c.in_err-chained.ensures.registers in
    let more : 0 < 32 - c.loop-turn._turn = omega arith in
    c.loop-turn.invariant.same _ (rw c.in-Some.is (linked_stops _ _ (32 - c.loop-turn._turn) c.in-Some.function _ _ _ more link (search rules)))

pub returns-in-Break-clause-registers : goal.returns-in-Break-clause-registers
returns-in-Break-clause-registers g c =
    let l = c.in_ok-chained.ensures.registers in
    let left : Registers = registers_of (g.S.UnwindState.registers c.unwind_chained.new.state) (g.S.UnwindState.xmm_registers c.unwind_chained.new.state) in
    let broke : link_end (Ok c.in_ok-chained.field-0) left ≡ Stops (Returned c.in-Break.address left) = rw c.in-Break.is refl in
    let link = link_is _ _ _ c.in-Some.function _ (Stops (Returned c.in-Break.address left)) c.loop-turn.invariant.stack (l.0, l.1, sym broke ∙ l.2) in
    let more : 0 < 32 - c.loop-turn._turn = omega (arith, c.loop-turn-test.true) in
    c.loop-turn.invariant.same _ (rw c.in-Some.is (linked_stops _ _ (32 - c.loop-turn._turn) c.in-Some.function _ _ _ more link refl))

pub loop-turn-preserved : goal.loop-turn-preserved
loop-turn-preserved g c =
    let l = c.in_ok-chained.ensures.registers in
    let left : Registers = registers_of (g.S.UnwindState.registers c.unwind_chained.new.state) (g.S.UnwindState.xmm_registers c.unwind_chained.new.state) in
    let goes : link_end (Ok c.in_ok-chained.field-0) left ≡ Follows c.in-Continue.chained left = rw c.in-Continue.is refl in
    let link = link_is _ _ _ c.in-Some.function _ (Follows c.in-Continue.chained left) c.loop-turn.invariant.stack (l.0, l.1, sym goes ∙ l.2) in
    let more : 0 < 32 - c.loop-turn._turn = omega (arith, c.loop-turn-test.true) in
    let less : 32 - (c.loop-turn._turn + 1) ≡ 32 - c.loop-turn._turn - 1 = omega arith in
    record {
      stack = c.in_ok-chained.ensures.stack ∙ c.loop-turn.invariant.stack;
      same = λ end later. c.loop-turn.invariant.same end (rw c.in-Some.is (linked_follows _ _ (32 - c.loop-turn._turn) c.in-Some.function _ _ _ end more link (rw less at later)));
    }

pub returns-in-Some-next-clause-registers : goal.returns-in-Some-next-clause-registers
returns-in-Some-next-clause-registers g c =
    let last : 32 - c.loop-turn._turn ≡ 0 = omega arith in
    c.loop-turn.invariant.same _ (rw c.in-Some-next.is (linked_limit _ _ (32 - c.loop-turn._turn) _ _ _ last refl))

pub returns-in-None-clause-registers : goal.returns-in-None-clause-registers
returns-in-None-clause-registers g c =
    c.loop-turn.invariant.same _ (rw c.in-None.is (linked_none _ _ (32 - c.loop-turn._turn) _ _ (rw (← c.loop-turn.invariant.stack) c.pop_return_address-in-None.ensures.registers)))
