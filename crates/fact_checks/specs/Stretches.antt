-- The differences of one claim by one description, as its rows are gone through. No public clause cites this.
use Rattle.std.specs.Prelude.{◌≡◌, ◌⊎◌, ℕ, ◌<◌, ◌≤◌, List}
use Rattle.std.specs.List.{AllByRecursion}
use Rattle.unwind_definitions.specs.Pointers.{Bases}
use Rattle.unwind_definitions.specs.Entries.{Fde, coding_of}
use Rattle.frame_rows.specs.Walks.{IsBefore, IsWalking, end_of}
use Rattle.frame_rows.specs.declared.row_walk.RowWalk.{RowWalk}
use Rattle.eh_frame.specs.Walked.{due_row}
use Rattle.frame_facts.specs.Claims.{Claim}
use Rattle.fact_checks.specs.declared.stretches.Difference.{Difference}
use Rattle.fact_checks.specs.RowFacts.{Differs, SaysDue}
use Rattle.fact_checks.specs.Audits.{IsListedAt}

-- a walk through a description's rows has the one at an address
pub record HasRowAt (bases : Bases) (fde : Fde) (walk : RowWalk) (at : ℕ) : Type 0 where
  pub from : ℕ
  pub walking : IsWalking walk (coding_of bases fde.cie) from (due_row bases fde)
  pub reached : from ≤ at
  pub before : IsBefore at (end_of walk)

module _ (bases : Bases) (fde : Fde) (i : ℕ) (c : Claim) where
  -- a row inside the claim's range, before an address, differs so
  pub record IsDifference (high : ℕ) (d : Difference) : Type 0 where
    pub claim : d.claim ≡ i
    pub from : c.range.from ≤ d.address
    pub below : d.address < high
    pub differs : Differs c.facts (due_row bases fde d.address) d.mismatch

  -- the row at an address says the claim's facts, or the address lies in a difference
  abbrev pub IsSaidOrListed : List Difference → ℕ → Type 0
  IsSaidOrListed ds a = SaysDue c.facts (due_row bases fde a) ⊎ IsListedAt c (due_row bases fde) ds a

  -- all differences of the claim's range between these addresses
  pub record AreDifferences (low high : ℕ) (ds : List Difference) : Type 0 where
    pub each : AllByRecursion (IsDifference high) ds
    pub every : (a : ℕ) → low ≤ a → c.range.from ≤ a → a < high → IsSaidOrListed ds a
