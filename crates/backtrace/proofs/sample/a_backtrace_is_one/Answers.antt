use Rattle.backtrace.proofs.Backtraces.{one_read}
use Rattle.backtrace.proofs.sample.a_backtrace_is_one.Goals as goal

pub returns : goal.returns
returns c = λ words bytes x y o named reads is other.
    let there = rw named at is in
    let here = rw named at other in
    one_read o.samples o bytes x y reads there here
