use Rattle.std.proofs.Common.{◌≡◌, ◌≤◌, ◌++◌, length}
use Rattle.std.specs.Prelude.{◌↔◌}
use Rattle.core_file.specs.Left.{threads_left}
use Rattle.core_walks.specs.Lines.{threads_text}
use Rattle.core_walks.specs.MappedWalks.{AreMapped}
use Rattle.core_walks.proofs.mapped.mapped_walks_of_threads.Given as goal

abbrev pub invariant-loop-thread : goal.invariant-loop-thread
invariant-loop-thread l = record {
  text : l.report ++ threads_text l.space l.limit l.index (threads_left l.threads) ≡ threads_text l.space l.limit 0 (threads_left l.fn.threads);
  mapped : AreMapped l.space l.limit (threads_left l.threads) ↔ AreMapped l.space l.limit (threads_left l.fn.threads);
  room : l.room.limit ≡ l.limit;
  fits : l.index ≤ length l.report;
}

abbrev pub decreases-loop-thread : goal.decreases-loop-thread
decreases-loop-thread l = length (threads_left l.threads)
