use Rattle.std.proofs.Common.{◌≡◌, ◌+◌, []}
use Rattle.folded_stacks.proofs.Counting.{total}
use Rattle.sampled_profile.specs.Tables.{all_counted, total_of}
use Rattle.sampled_profile.proofs.text_counts.counts_by_text.Given as goal

abbrev pub invariant-loop-stack : goal.invariant-loop-stack
invariant-loop-stack l = record {
  lines : all_counted l.origins l.stack-iterator l.counts ≡ all_counted l.origins l.table.counts.entries [];
  few : total l.counts + total_of l.stack-iterator ≡ total_of l.table.counts.entries;
  files : l.texts ≡ l.origins;
}
