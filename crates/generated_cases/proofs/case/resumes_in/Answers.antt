use Rattle.std.proofs.Common.{◌+◌, ◌∙◌, ap, sym, drop, arith}
use Rattle.std.proofs.lemmas.List.{at_drop_more}
use Rattle.stack_deliver.specs.Resumes.{with_resumes}
use Rattle.generated_cases.proofs.case.resumes_in.Goals as goal

pub loop-entry-preserved : goal.loop-entry-preserved
loop-entry-preserved c =
    let xs = c.args.entries.now in
    let i = c.loop-entry.entry-index in
    ap (λ t. with_resumes t (drop (i + 1) xs)) c.in_ok-add.ensures.added ∙ sym (at_drop_more (with_resumes c.loop-entry.resumes) xs i (0, 0) (omega arith)) ∙ c.loop-entry.invariant
