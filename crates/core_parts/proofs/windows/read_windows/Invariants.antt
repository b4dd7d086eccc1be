use Rattle.std.proofs.Common.{◌≡◌, ◌++◌, ℕ, List, drop, map}
use Rattle.core_file.specs.Fronts.{segment_by}
use Rattle.mapped_files.specs.Files.{AreTold}
use Rattle.core_parts.specs.Views.{window_span}
use Rattle.core_parts.proofs.windows.read_windows.Given as goal

abbrev pub invariant-loop-part : goal.invariant-loop-part
invariant-loop-part g l = (all : List ℕ → List ℕ) → AreTold (g.F.Files.content l.files) all
    → map window_span l.windows.items ++ map (segment_by (all l.path)) (drop l.part-index l.parts) ≡ map (segment_by (all l.path)) l.parts
