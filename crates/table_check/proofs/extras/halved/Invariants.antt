use Rattle.std.proofs.Common.{ℕ, ◌-◌, ◌<◌, ◌≤◌, length, get_or}
use Rattle.table_check.specs.declared.claims.Claim.{Claim}
use Rattle.table_check.proofs.extras.halved.Given as goal

-- those below low end at or before the address, and those from high on after it
abbrev pub invariant-loop-low : goal.invariant-loop-low
invariant-loop-low l = (l.low ≤ l.high) × (l.high ≤ length l.claims) × ((k : ℕ) (d : Claim) → k < l.low → (get_or l.claims k d).end ≤ l.address)
    × ((k : ℕ) (d : Claim) → l.high ≤ k → k < length l.claims → l.address < (get_or l.claims k d).end)

abbrev pub decreases-loop-low : goal.decreases-loop-low
decreases-loop-low l = l.high - l.low
