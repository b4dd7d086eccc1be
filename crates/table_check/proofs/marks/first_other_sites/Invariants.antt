use Rattle.std.proofs.Common.{List, map, take}
use Rattle.std.specs.List.{AllByRecursion}
use Rattle.memory_image.specs.Image.{Span}
use Rattle.unwind_definitions.specs.Pointers.{Bases}
use Rattle.unwind_definitions.specs.Entries.{Fde}
use Rattle.table_check.specs.AllEntries.{AllApart}
use Rattle.table_check.specs.ClaimViews.{function_of}
use Rattle.table_check.specs.Descriptions.{HasLanguage}
use Rattle.table_check.specs.Marks.{AreMarked}
use Rattle.table_check.specs.Scanned.{IsDescribedAmong}
use Rattle.table_check.proofs.marks.first_other_sites.Given as goal

abbrev pub invariant-loop-i : goal.invariant-loop-i
invariant-loop-i l = (image : List Span) (bases : Bases) (fdes : List Fde) → AllApart fdes → AreMarked image bases fdes l.claims → AllByRecursion (IsDescribedAmong fdes) (map function_of l.claims) →
    AllByRecursion (HasLanguage image bases fdes) (map function_of (take l.i l.claims))
