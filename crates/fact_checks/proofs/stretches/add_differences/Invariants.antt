use Rattle.std.proofs.Common.{◌≡◌, ◌-◌, ◌≤◌, ◌++◌, List}
use Rattle.encoded_pointers.specs.PointerViews.{bases_of}
use Rattle.eh_frame.specs.EntryViews.{fde_of}
use Rattle.fact_checks.specs.declared.stretches.Difference.{Difference}
use Rattle.fact_checks.specs.ClaimViews.{claim_of}
use Rattle.fact_checks.specs.Stretches.{AreDifferences, HasRowAt}
use Rattle.fact_checks.proofs.stretches.add_differences.Given as goal

-- the walk has the row at the address, and the differences of the rows before it were added
abbrev pub invariant-loop-pc : goal.invariant-loop-pc
invariant-loop-pc l =
    HasRowAt (bases_of l.bases) (fde_of l.fde) l.walk l.pc × (l.pc ≤ l.claim.to)
    × (own : List Difference) × (l.differences.items ≡ l.initial.differences.items ++ own) × AreDifferences (bases_of l.bases) (fde_of l.fde) l.index (claim_of l.claim) l.start l.pc own

abbrev pub decreases-loop-pc : goal.decreases-loop-pc
decreases-loop-pc l = l.claim.to - l.pc
