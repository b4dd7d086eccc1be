use Rattle.std.proofs.Common.{◌≡◌, ◌≤◌, ◌++◌, ℕ, List, length}
use Rattle.std.specs.Prelude.{◌↔◌, vec_capacity}
use Rattle.core_file.specs.Left.{threads_left}
use Rattle.mapped_files.specs.Files.{AreTold}
use Rattle.named_walks.specs.Marking.{AreMarkedMapped}
use Rattle.named_walks.specs.Named.{named_threads_text}
use Rattle.named_walks.proofs.walking.mapped_named_walks_of_threads.Given as goal

abbrev pub invariant-loop-thread : goal.invariant-loop-thread
invariant-loop-thread g l = record {
  told : (all : List ℕ → List ℕ) → AreTold (g.F.Files.content l.fn.names.files) all → l.report ++ named_threads_text all l.fn.names.parts l.space l.limit l.index (threads_left l.threads) ≡ named_threads_text all l.fn.names.parts l.space l.limit 0 (threads_left l.fn.threads);
  mapped : AreMarkedMapped l.space l.limit (threads_left l.threads) ↔ AreMarkedMapped l.space l.limit (threads_left l.fn.threads);
  names : l.names ≡ l.fn.names;
  room : l.limit ≤ vec_capacity l.visited;
  fits : (all : List ℕ → List ℕ) → AreTold (g.F.Files.content l.fn.names.files) all → l.index ≤ length l.report;
}

abbrev pub decreases-loop-thread : goal.decreases-loop-thread
decreases-loop-thread g l = length (threads_left l.threads)
