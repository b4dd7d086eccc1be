use Rattle.std.proofs.Common.{◌∙◌, arith, rules}
use Rattle.frame_rows.specs.InstructionViews.{coding_in}
use Rattle.frame_rows.proofs.RunSteps.{bodied_longer, grows_on, ran_on, running_longer}
use Rattle.frame_rows.proofs.body_run.run_bodies.Goals as goal

pub returns-then-is_empty-clause-runs : goal.returns-then-is_empty-clause-runs
returns-then-is_empty-clause-runs c common own old first ran r =
    let now = c.loop-turn.invariant.5 common own old first ran r in
    c.finish.ensures.runs common own old first ran (rw c.in-Stopped.is at (c.in_ok-ended.ensures.runs common own old first ran now))

pub returns-in_err-learn-clause-bodied : goal.returns-in_err-learn-clause-bodied
returns-in_err-learn-clause-bodied c = bodied_longer c.loop-turn.bodies c.learn.new.bodies c.learn.ensures.grows c.run_known.new.rows.items (c.in_ok-ended.ensures.bodied c.loop-turn.invariant.2)

pub returns-then-not-branch-clause-bodied : goal.returns-then-not-branch-clause-bodied
returns-then-not-branch-clause-bodied c = bodied_longer c.loop-turn.bodies c.learn.new.bodies c.learn.ensures.grows c.run_known.new.rows.items (c.in_ok-ended.ensures.bodied c.loop-turn.invariant.2)

pub loop-turn-preserved : goal.loop-turn-preserved
loop-turn-preserved c =
    let bodied = c.in_ok-ended.ensures.bodied c.loop-turn.invariant.2 in
    let before = c.loop-turn.invariant.3 in
    let longer = c.in_ok-ended.ensures.longer in
    let grows = c.learn.ensures.grows in (
      grows_on c.args.bodies.now c.loop-turn.bodies c.learn.new.bodies c.loop-turn.invariant.0 grows,
      c.in_ok-learn.ensures.within,
      bodied_longer c.loop-turn.bodies c.learn.new.bodies grows c.run_known.new.rows.items bodied,
      omega arith,
      λ n le. c.in_ok-ended.ensures.before n (omega arith) ∙ c.loop-turn.invariant.4 n le,
      λ common own old first ran r.
          let now = c.loop-turn.invariant.5 common own old first ran r in
          let there = running_longer c.loop-turn.bodies c.learn.new.bodies grows c.args.start c.args.end common own old (coding_in c.args.coding) c.run_known.new.rows.items c.run_known.new.run bodied
          (rw c.in-Stopped.is at (c.in_ok-ended.ensures.runs common own old first ran now)) in
          let t = c.in_ok-learn.ensures.turns (search rules) c.args.start there.machine there.now there.left there.represents there.stands there.initial there.bytes in
          ran_on c.args.start c.args.end common own old (coding_in c.args.coding) c.learn.new.bodies c.run_known.new.rows.items c.run_known.new.run c.learn.new.self there t c.learn.ensures.location c.learn.ensures.first c.learn.ensures.rules,
      let room = c.in_ok-ended.ensures.room in let fewer = c.learn.ensures.fewer in let same = c.learn.ensures.rules in omega arith,
    )
