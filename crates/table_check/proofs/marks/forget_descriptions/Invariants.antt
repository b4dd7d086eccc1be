use Rattle.std.proofs.Common.{◌≡◌, ◌<◌, ℕ, length, map, get_or}
use Rattle.table_check.specs.declared.claims.Claim.{Claim}
use Rattle.table_check.specs.ClaimViews.{function_of}
use Rattle.table_check.specs.Marks.{IsUnmarked}
use Rattle.table_check.proofs.marks.forget_descriptions.Given as goal

-- none is noted for those before
abbrev pub invariant-loop-i : goal.invariant-loop-i
invariant-loop-i l = (length l.claims ≡ length l.fn.claims) × (map function_of l.claims ≡ map function_of l.fn.claims)
    × ((k : ℕ) (d : Claim) → k < l.i → IsUnmarked (get_or l.claims k d))
