use Rattle.std.proofs.Common.{◌≡◌, length}
use Rattle.macho_unwind_info.specs.Iteration.{functions_left}
use Rattle.macho_unwind_info.proofs.function_iter.FunctionIter.next.Given as goal

abbrev pub invariant-pages : goal.invariant-pages
invariant-pages l =
    functions_left l.self-inside.bytes.now l.self-inside.global_opcodes l.self-inside.page l.self-inside.pages
    ≡ functions_left l.initial.self-inside.bytes.now l.initial.self-inside.global_opcodes l.initial.self-inside.page l.initial.self-inside.pages

abbrev pub decreases-pages : goal.decreases-pages
decreases-pages l = length l.self-inside.pages
