use Rattle.std.proofs.Common.{◌≡◌, drop}
use Rattle.serde_json.specs.View.{items_view}
use Rattle.fact_claims.specs.Claims.{claims_from}
use Rattle.fact_claims.proofs.Lists.{with_front}
use Rattle.fact_claims.proofs.reading.claim_list.Given as goal

-- the claims so far, and those of the items that are left, are those of all
abbrev pub invariant-loop-i : goal.invariant-loop-i
invariant-loop-i l = with_front l.claims.items (claims_from l.i (items_view (drop l.i l.items))) ≡ claims_from 0 (items_view l.items)
