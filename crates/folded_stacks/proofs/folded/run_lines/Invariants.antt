use Rattle.std.proofs.Common.{◌≡◌, ◌+◌, ◌≤◌, ◌++◌, drop}
use Rattle.folded_stacks.specs.Lines.{line_at, lines_at}
use Rattle.folded_stacks.specs.Places.{stacks_at}
use Rattle.folded_stacks.specs.Runs.{run_from, runs_of}
use Rattle.folded_stacks.proofs.folded.run_lines.Given as goal

abbrev pub invariant-loop-place : goal.invariant-loop-place
invariant-loop-place l = record {
  lines : lines_at l.addresses l.lines.items ++ run_from (line_at l.addresses l.last) (stacks_at l.addresses (drop l.place-index l.others)) ≡ runs_of (stacks_at l.addresses l.fn.places);
  few : l.last.count ≤ l.place-index + 1;
}
