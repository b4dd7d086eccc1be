use Rattle.std.proofs.Common.{◌≡◌, ◌++◌, ℕ, List, drop}
use Rattle.mapped_files.specs.Files.{AreTold}
use Rattle.named_walks.specs.Named.{named_lines}
use Rattle.named_walks.proofs.walking.put_states.Given as goal

abbrev pub invariant-loop-index : goal.invariant-loop-index
invariant-loop-index g l = record {
  told : (all : List ℕ → List ℕ) → AreTold (g.F.Files.content l.fn.names.files) all → l.report ++ named_lines all l.fn.names.parts l.index (drop l.index l.visited) ≡ l.initial.report ++ named_lines all l.fn.names.parts 0 l.visited;
  names : l.names ≡ l.fn.names;
}
