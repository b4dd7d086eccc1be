use Rattle.std.proofs.Common.{◌≡◌, ◌++◌, ℕ, List, length, map}
use Rattle.core_file.specs.MappedViews.{parts_left}
use Rattle.mapped_files.specs.Files.{AreTold}
use Rattle.mapped_modules.specs.Loading.{IsLastFront, loaded_from, loaded_value}
use Rattle.mapped_modules.proofs.loading.loaded_modules.Given as goal

abbrev pub invariant-loop-part : goal.invariant-loop-part
invariant-loop-part g l = record {
  told : (all : List ℕ → List ℕ) → AreTold (g.F.Files.content l.files) all → map loaded_value l.loaded.items ++ loaded_from all (parts_left l.parts) ≡ loaded_from all (parts_left l.fn.parts);
  last : (all : List ℕ → List ℕ) → AreTold (g.F.Files.content l.files) all → IsLastFront all l.last;
}

abbrev pub decreases-loop-part : goal.decreases-loop-part
decreases-loop-part g l = length (parts_left l.parts)
