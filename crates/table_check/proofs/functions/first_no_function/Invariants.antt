use Rattle.std.proofs.Common.{map, take}
use Rattle.std.specs.List.{AllByRecursion}
use Rattle.unwind_definitions.specs.Prologue.{SystemV}
use Rattle.unwind_definitions.specs.Function.{IsFunction}
use Rattle.table_check.specs.ClaimViews.{function_of}
use Rattle.table_check.proofs.functions.first_no_function.Given as goal

abbrev pub invariant-loop-i : goal.invariant-loop-i
invariant-loop-i l = AllByRecursion (IsFunction SystemV) (map function_of (take l.i l.claims))
