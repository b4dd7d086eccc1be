use Rattle.std.proofs.Common.{subst}
use Rattle.stack_snapshot.proofs.SampledTaken.{sampled_apart, sampled_laid_out}
use Rattle.backtrace.specs.Threads.{HasThread, alone}
use Rattle.backtrace.proofs.PoppedTraces.{popped_stack_traced}
use Rattle.backtrace.proofs.ThreadLines.{has_thread}
use Rattle.backtrace.proofs.sample.a_popped_thread_has_its_lines.Goals as goal

pub returns : goal.returns
returns c = λ o bytes s places index x start callers text unasked reads found begins all.
    let t = popped_stack_traced (alone s x) o places (sampled_apart bytes s reads) (sampled_laid_out bytes s reads) start callers begins in
    subst (λ lines. HasThread o s places index lines text) t.2 (has_thread o s places index x t.0 text unasked found t.1 all)
