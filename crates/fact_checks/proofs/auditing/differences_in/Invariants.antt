use Rattle.std.proofs.Common.{ℕ, List, map, take, drop}
use Rattle.std.specs.List.{AllPairs}
use Rattle.unwind_definitions.specs.Entries.{Fde}
use Rattle.unwind_definitions.specs.Module.{DescriptionsApart}
use Rattle.encoded_pointers.specs.PointerViews.{bases_of}
use Rattle.fde_finders.specs.NamedTables.{named_of}
use Rattle.fact_checks.specs.Audits.{AreAudited}
use Rattle.fact_checks.specs.ClaimViews.{claim_of}
use Rattle.fact_checks.specs.InOrder.{AreInOrder}
use Rattle.fact_checks.specs.Looking.{FindsAmong, IsBegun, IsListed}
use Rattle.fact_checks.proofs.auditing.differences_in.Given as goal

-- the claims that are left begin where those before end, at the latest, and rows are gone through no further
abbrev pub invariant-loop-i : goal.invariant-loop-i
invariant-loop-i l =
    (low : ℕ) × AreInOrder low (map claim_of (drop l.i l.claims)) × IsBegun (bases_of l.table.bases) l.walk low l.begun
    × ((fdes : List Fde) → FindsAmong (named_of l.table) fdes → AllPairs DescriptionsApart fdes →
    IsListed fdes l.begun × AreAudited (bases_of l.table.bases) fdes 0 (map claim_of (take l.i l.claims)) l.differences.items)
