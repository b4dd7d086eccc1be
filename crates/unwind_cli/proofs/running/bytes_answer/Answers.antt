use Rattle.unwind_cli.proofs.Checks.{none_found}
use Rattle.unwind_cli.proofs.running.bytes_answer.Goals as goal

pub returns-in-Deliver : goal.returns-in-Deliver
returns-in-Deliver c = let is = c.in-Deliver.is in rw is (none_found, c.delivered_answer.ensures none_found, λ done. tt)

pub returns-in-Throw : goal.returns-in-Throw
returns-in-Throw c = let is = c.in-Throw.is in rw is (none_found, c.thrown_answer.ensures none_found, λ done. tt)

pub returns-in-Walk : goal.returns-in-Walk
returns-in-Walk c = let is = c.in-Walk.is in rw is (none_found, c.walked_answer.ensures none_found, λ done. tt)

pub returns-in-Fold : goal.returns-in-Fold
returns-in-Fold c = let is = c.in-Fold.is in rw is (none_found, c.sampled_answer.ensures none_found, λ done. tt)

pub returns-in-Core : goal.returns-in-Core
returns-in-Core c = let is = c.in-Core.is in rw is (none_found, c.core_answer.ensures none_found, λ done. tt)
