use Rattle.std.proofs.Common.{ℕ, ◌+◌, ◌-◌, ◌%◌, ◌^◌, ◌∷◌, [], Err, length, refl, ap, ◌∙◌, arith, length-append}
use Rattle.std.proofs.lemmas.List.{take-append-le}
use Rattle.unwind_definitions.specs.declared.error.Error.TheVariants.{NoCfaRegister}
use Rattle.frame_rows.specs.InstructionViews.{coding_in}
use Rattle.frame_rows.specs.TableRows.{HasBody}
use Rattle.frame_rows.specs.declared.row_table.TableRow.{TableRow}
use Rattle.frame_rows.proofs.BodiesGrow.{all_push}
use Rattle.frame_rows.proofs.RunSteps.{far_from, led_further, led_past, ran_on}
use Rattle.frame_rows.proofs.body_run.run_known.Goals as goal

pub returns-then-next-end-clause-runs : goal.returns-then-next-end-clause-runs
returns-then-next-end-clause-runs c common own old first ran begun =
    let now = c.loop-next.invariant.4 common own old first ran begun in
    let t = rw c.in-Some-LeadsOn.field-0-is at (c.in-Some-LeadsOn.ensures.turns c.args.start now.machine now.now now.left now.represents now.stands now.bytes) in
    let row : TableRow = record { distance = (c.turn.new.self.location + (2 ^ 64 - c.args.start)) % 2 ^ 64; body = c.turn.new.self.place } in
    let far = far_from c.args.start c.turn.new.self.location c.loop-next.now.location c.turn.ensures.location now.adding.ahead (let below = now.adding.below in omega arith) in
    rw (c.in_ok-push-in-Some-LeadsOn.ensures.items, c.turn.ensures.rules)
    (led_past c.args.start c.args.end common own old (coding_in c.args.coding) c.args.bodies.now c.loop-next.rows.items row c.loop-next.now c.turn.new.self c.in-Some-LeadsOn.next c.rule_count.result first ran now t c.turn.ensures.location far refl
    (c.rule_count.ensures.count (Err NoCfaRegister)) (c.rule_count.ensures.ascends (Err NoCfaRegister)) c.if-next-end.true)

pub loop-next-preserved : goal.loop-next-preserved
loop-next-preserved c =
    let row : TableRow = record { distance = (c.turn.new.self.location + (2 ^ 64 - c.args.start)) % 2 ^ 64; body = c.turn.new.self.place } in
    let items = c.in_ok-push-in-Some-LeadsOn.ensures.items in
    let within = c.turn.ensures.within c.loop-next.invariant.0 in (
      within,
      λ all. rw items (all_push (HasBody c.args.bodies.now) c.loop-next.rows.items row (c.loop-next.invariant.1 all) within.0),
      let n = ap length items in let m = length-append c.loop-next.rows.items (row ∷ []) in let o = c.loop-next.invariant.2 in omega arith,
      λ n le. let o = c.loop-next.invariant.2 in rw items (take-append-le n c.loop-next.rows.items (row ∷ []) (omega arith) ∙ c.loop-next.invariant.3 n le),
      λ common own old first ran begun.
          let now = c.loop-next.invariant.4 common own old first ran begun in
          let t = rw c.in-Some-LeadsOn.field-0-is at (c.in-Some-LeadsOn.ensures.turns c.args.start now.machine now.now now.left now.represents now.stands now.bytes) in
          let far = far_from c.args.start c.turn.new.self.location c.loop-next.now.location c.turn.ensures.location now.adding.ahead (let below = now.adding.below in omega arith) in
          rw items
          (led_further c.args.start c.args.end common own old (coding_in c.args.coding) c.args.bodies.now c.loop-next.rows.items row c.loop-next.now c.turn.new.self c.in-Some-LeadsOn.next c.rule_count.result first ran now t c.turn.ensures.location far refl
          (c.rule_count.ensures.count (Err NoCfaRegister)) (c.rule_count.ensures.ascends (Err NoCfaRegister)) _ c.if-next-end.false refl refl refl c.turn.ensures.first (ap (λ (n : ℕ). n + c.rule_count.result) c.turn.ensures.rules) refl),
      let room = c.loop-next.invariant.5 in let few = c.rule_count.ensures.few in let fewer = c.in-Some-LeadsOn.ensures.fewer in let rules = c.turn.ensures.rules in omega arith,
    )

pub loop-next-preserved-in-Some-Ran : goal.loop-next-preserved-in-Some-Ran
loop-next-preserved-in-Some-Ran c = (
  c.turn.ensures.within c.loop-next.invariant.0,
  c.loop-next.invariant.1,
  c.loop-next.invariant.2,
  c.loop-next.invariant.3,
  λ common own old first ran begun.
      let now = c.loop-next.invariant.4 common own old first ran begun in
      let t = rw c.in-Some-Ran.field-0-is at (c.in-Some-Ran.ensures.turns c.args.start now.machine now.now now.left now.represents now.stands now.bytes) in
      ran_on c.args.start c.args.end common own old (coding_in c.args.coding) c.args.bodies.now c.loop-next.rows.items c.loop-next.now c.turn.new.self now t c.turn.ensures.location c.turn.ensures.first c.turn.ensures.rules,
  let room = c.loop-next.invariant.5 in let fewer = c.in-Some-Ran.ensures.fewer in let rules = c.turn.ensures.rules in omega arith,
)
