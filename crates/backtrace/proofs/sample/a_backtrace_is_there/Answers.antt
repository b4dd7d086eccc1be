use Rattle.backtrace.proofs.Ends.{read_there}
use Rattle.backtrace.proofs.sample.a_backtrace_is_there.Goals as goal

pub returns : goal.returns
returns c = λ words bytes o named.
    let there = read_there o.samples o bytes in
    (there.0, rw named there.1)
