use Rattle.std.proofs.Common.{◌≡◌, drop}
use Rattle.stack_deliver.specs.Resumes.{with_resumes, resume_table}
use Rattle.generated_cases.proofs.case.resumes_in.Given as goal

abbrev pub invariant-loop-entry : goal.invariant-loop-entry
invariant-loop-entry l = with_resumes l.resumes (drop l.entry-index l.entries) ≡ resume_table l.entries
