use Rattle.std.proofs.Common.{◌≡◌, ◌-◌, false, arith}
use Rattle.stack_walks.specs.WalkEnds.{caller_from, start_state}
use Rattle.backtrace.specs.Tracing.{start_space}
use Rattle.backtrace.proofs.Guesses.{reached_most}
use Rattle.backtrace.proofs.tracing.trace_stack.Goals as goal

pub returns-in_ok-why-in-Some-clause-most : goal.returns-in_ok-why-in-Some-clause-most
returns-in_ok-why-in-Some-clause-most c =
    let most = reached_most (caller_from c.args.space.now) c.saturating_sub-most.result (start_state c.in-Some.caller false) in
    let less : c.saturating_sub-most.result ≡ c.args.limit - 1 = c.saturating_sub-most.ensures in
    rw c.in_ok-why-in-Some.ensures.states (omega arith)

pub returns-in_ok-walk-in-None-clause-most : goal.returns-in_ok-walk-in-None-clause-most
returns-in_ok-walk-in-None-clause-most c =
    let memory = start_space c.args.space.now c.args.limit c.args.start.now c.args.interrupted in
    let most = reached_most (caller_from memory) c.args.limit (start_state c.args.start.now c.args.interrupted) in
    rw c.in_ok-walk-in-None.ensures.states most
