use Rattle.std.proofs.Common.{◌≡◌, ◌-◌, ◌<◌, ◌≤◌, false, length}
use Rattle.pe_unwind_info.specs.Epilog.{and_first, sequence_from}
use Rattle.pe_unwind_info.proofs.EpilogSequences.{continued}
use Rattle.pe_unwind_info.proofs.x86_64.epilog.parse_later.Given as goal

abbrev pub invariant-loop-instruction : goal.invariant-loop-instruction
invariant-loop-instruction l = record {
  some : 0 < length l.instructions.items;
  few : length l.instructions.items ≤ 12;
  same : and_first l.fn.first (sequence_from l.fn.frame 11 false l.fn.code) ≡ continued l.fn.frame l.instructions.items l.rest;
}

abbrev pub decreases-loop-instruction : goal.decreases-loop-instruction
decreases-loop-instruction l = 12 - length l.instructions.items
