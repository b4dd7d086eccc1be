use Rattle.std.proofs.Common.{◌≡◌, Ok, map, ℕ, ◌<◌}
use Rattle.std.specs.Prelude.{slice_index_or}
use Rattle.unwind_definitions.specs.Entries.{Fde}
use Rattle.unwind_definitions.specs.Header.{pair_at}
use Rattle.unwind_definitions.specs.Module.{pair_of}
use Rattle.eh_frame.specs.HeaderViews.{pairs_of}
use Rattle.eh_frame.specs.Index.{described_fde}
use Rattle.eh_frame.specs.EntryViews.{table_of}
use Rattle.eh_frame.proofs.prepared.Prepared.is_listed_by.Given as goal

-- the pairs before are those of the descriptions before
abbrev pub invariant-loop-index : goal.invariant-loop-index
invariant-loop-index l = (k : ℕ) (d : Fde) → k < l.index → pair_at (pairs_of l.table) k ≡ Ok (pair_of (table_of l.frames).base (slice_index_or (map described_fde l.self.functions) k d))
