use Rattle.std.proofs.Common.{◌≡◌, map, length}
use Rattle.std.specs.List.{AllByRecursion}
use Rattle.core_file.specs.Left.{threads_left}
use Rattle.mapped_modules.specs.Loading.{loaded_value}
use Rattle.mapped_modules.specs.Spaces.{tables_of}
use Rattle.core_parts.specs.Parts.{IsStackPart, stack_parts, with_stacks}
use Rattle.core_parts.proofs.places.stack_parts.Given as goal

abbrev pub invariant-loop-thread : goal.invariant-loop-thread
invariant-loop-thread l = record {
  exact : with_stacks l.front.places (tables_of (map loaded_value l.loaded)) l.size l.parts.items (threads_left l.threads) ≡ stack_parts l.front (map loaded_value l.loaded) l.size;
  each : AllByRecursion (IsStackPart l.front.places (tables_of (map loaded_value l.loaded))) l.parts.items;
}

abbrev pub decreases-loop-thread : goal.decreases-loop-thread
decreases-loop-thread l = length (threads_left l.threads)
