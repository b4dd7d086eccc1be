use Rattle.std.proofs.Common.{◌+◌, ◌-◌, ◌%◌, ◌^◌, Err, refl, arith}
use Rattle.unwind_definitions.specs.declared.error.Error.TheVariants.{NoCfaRegister}
use Rattle.frame_rows.specs.InstructionViews.{coding_in}
use Rattle.frame_rows.specs.declared.row_table.TableRow.{TableRow}
use Rattle.frame_rows.proofs.RunSteps.{far_from, ended_appended, ended_movable, ended_whole}
use Rattle.frame_rows.proofs.body_run.finish.Goals as goal

pub returns-clause-runs : goal.returns-clause-runs
returns-clause-runs c common own old first ran r =
    let row : TableRow = record { distance = (c.args.run.now.location + (2 ^ 64 - c.args.start)) % 2 ^ 64; body = c.args.run.now.place } in
    let far = far_from c.args.start c.args.run.now.location c.args.run.now.location refl r.adding.ahead (let below = r.adding.below in omega arith) in
    let count = c.rule_count.ensures.count (Err NoCfaRegister) in
    let ascends = c.rule_count.ensures.ascends (Err NoCfaRegister) in
    rw c.in_ok-push.ensures.items (
      ended_appended c.args.start c.args.end common own old (coding_in c.args.coding) c.args.bodies.now c.args.rows.now.items row c.args.run.now c.rule_count.result first ran r c.requires.none far refl count ascends,
      ended_whole c.args.start c.args.end common own old (coding_in c.args.coding) c.args.bodies.now c.args.rows.now.items row c.args.run.now c.rule_count.result first ran r c.requires.none far refl count ascends,
      ended_movable c.args.start c.args.end common own old (coding_in c.args.coding) c.args.bodies.now c.args.rows.now.items row c.args.run.now c.rule_count.result first ran r c.requires.none far refl count ascends,
      r.adding.below,
    )
