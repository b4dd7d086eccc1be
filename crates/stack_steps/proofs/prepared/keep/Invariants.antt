use Rattle.std.proofs.Common.{◌≡◌, ◌++◌, length}
use Rattle.std.specs.Prelude.{is_some}
use Rattle.std.specs.List.{count_by}
use Rattle.std.specs.Vec.Iter.{into_iter_items, into_iter_len}
use Rattle.stack_steps.specs.AddedModule.{with_tables}
use Rattle.stack_steps.proofs.prepared.keep.Given as goal

abbrev pub invariant-loop-table : goal.invariant-loop-table
invariant-loop-table l = (l.yielded ++ into_iter_items l.table-iterator ≡ into_iter_items l.initial.table-iterator)
    × (into_iter_len l.table-iterator ≡ length (into_iter_items l.table-iterator))
    × (l.added ≡ with_tables l.fn.added l.yielded)
    × (l.count ≡ count_by is_some l.yielded)
    × (l.place ≡ length l.yielded)
