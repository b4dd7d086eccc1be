use Rattle.std.proofs.Common.{◌-◌, subst, arith}
use Rattle.frame_rows.specs.Walks.{IsBefore}
use Rattle.table_check.specs.Running.{next_end_of}
use Rattle.table_check.proofs.Quiet.{edges_sooner}
use Rattle.table_check.proofs.Runs.{ended_still}
use Rattle.table_check.specs.ClaimViews.{function_of}
use Rattle.table_check.proofs.programs.next_change.Goals as goal

pub returns-clause-quiet : goal.returns-clause-quiet
returns-clause-quiet c = record {
  ends = λ a from below.
      let start = c.requires.start in
      let before = subst (λ steps. IsBefore (a - c.args.claim.now.start) (next_end_of c.args.running.now steps)) c.deref.ensures.value (c.next_end.ensures.before a from below) in
      ended_still c.args.running.now (c.args.pc - c.args.claim.now.start) (a - c.args.claim.now.start) c.args.claim.now.steps.items c.requires.running (omega (arith, from)) before;
  edges = edges_sooner c.args.pc c.next_end.result c.args.limit (function_of c.args.claim.now).bodies (let a = c.next_end.ensures.limited in let b = c.row_end-next.ensures.limited in omega (arith, a, b)) c.requires.edges;
}
