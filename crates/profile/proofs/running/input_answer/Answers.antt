use Rattle.std.proofs.Common.{Err, ap, arith}
use Rattle.perf_data.specs.declared.stream.StreamError.{StreamError}
use Rattle.perf_data.proofs.StreamLemmas.{on_again}
use Rattle.profile.proofs.Streamed.{never_whole}
use Rattle.profile.proofs.running.input_answer.Goals as goal

pub returns-in-Ok-clause-leaves : goal.returns-in-Ok-clause-leaves
returns-in-Ok-clause-leaves g c =
    let on = on_again _ _ _ _ _ _ c.source_answer-answer.ensures.on c.pass_source.ensures.on in
    let later = c.pass_source.ensures.on.1 in
    (c.source_answer-answer.ensures.silent, λ e. let rose = c.source_answer-answer.ensures.fault e in omega arith, λ asked whole. c.in-Ok.ensures.ends, on.0)

pub returns-in-Err-clause-leaves : goal.returns-in-Err-clause-leaves
returns-in-Err-clause-leaves g c =
    let on = on_again _ _ _ _ _ _ c.source_answer-answer.ensures.on c.pass_source.ensures.on in
    let before = c.source_answer-answer.ensures.on.1 in (
      c.failed_answer.ensures.silent,
      λ e. let rose = c.in-Err.ensures.fault (ap (λ (x : StreamError). Err x) (c.failed_answer.ensures.fault e)) in omega arith,
      λ asked whole. absurd (never_whole c.in-Err.error c.failed_answer.result.status c.failed_answer.result.text c.failed_answer.ensures.failure c.in-Err.ensures.kind whole),
      on.0,
    )
