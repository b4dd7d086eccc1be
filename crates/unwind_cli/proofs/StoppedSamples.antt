-- Samples of a function that pushes RBX, one of which was stopped in its body.
use Rattle.std.proofs.Common.{◌≡◌, [], ◌∷◌, Some, refl, ap, ◌∙◌, lit<}
use Rattle.std.specs.Fmt.{digits}
use Rattle.unwind_laws.specs.Pushing as pushing
use Rattle.stack_steps.specs.Stopped.{StartsStopped}
use Rattle.stack_steps.specs.StopSample.{after_the_push, pushing_space, stopped_at}
use Rattle.stack_steps.proofs.StopSamples.{walks_in_body}
use Rattle.folded_stacks.specs.Folding.{fold_of, walked_stack}
use Rattle.folded_stacks.specs.FoldSample.{folded_three}
use Rattle.folded_stacks.proofs.Walks.{stop_stacked}
use Rattle.folded_stacks.proofs.Witnesses as witness
use Rattle.stack_report.specs.Digits.{hexadecimal}
use Rattle.stack_report.specs.Folds.{fold_line, fold_report_of}
use Rattle.stack_report.specs.Summary.{count_line}
use Rattle.unwind_cli.specs.Due.{fold_from}
use Rattle.unwind_cli.specs.Stopped.{stopped_sample, sampled, sampled_text}

pub starts_stop : StartsStopped pushing_space (stopped_at 0x401006) 4 (pushing.function ∷ []) pushing.start after_the_push []
starts_stop = record { stopped = walks_in_body.stopped; described = walks_in_body.described; shows = walks_in_body.shows; shorter = lit< tt }

stacked : walked_stack pushing_space 4 stopped_sample ≡ Some (0x401006 ∷ [])
stacked = stop_stacked pushing_space 4 stopped_sample (pushing.function ∷ []) pushing.start after_the_push [] witness.apart witness.laid_out starts_stop refl

folded : fold_from sampled ≡ folded_three
unfolding fold_from fold_of
folded = rw (witness.pushed, stacked, witness.ended) refl

text_is : fold_report_of folded_three ≡ sampled_text
unfolding digits hexadecimal fold_line count_line
text_is = refl

pub written : fold_report_of (fold_from sampled) ≡ sampled_text
written = ap fold_report_of folded ∙ text_is
