-- What is written of an audit.
use Rattle.std.specs.Prelude.{ℕ, zero, suc, ◌+◌, nat_le, nat_lt, Bool, true, false, ◌||◌, ◌==◌, List, [], ◌∷◌, ◌++◌, length, slice_get, Option, Some, None, codes, if◌then◌else◌}
use Rattle.std.specs.Fmt.{decimal}
use Rattle.fact_checks.specs.declared.auditing.AuditError.{AuditError}
use Rattle.fact_checks.specs.declared.auditing.AuditError.TheVariants as error
use Rattle.fact_checks.specs.declared.facts.ClaimedFacts.{ClaimedFacts}
use Rattle.fact_checks.specs.declared.rows.Mismatch.{Mismatch}
use Rattle.fact_checks.specs.declared.rows.Mismatch.TheVariants as mismatch
use Rattle.fact_checks.specs.declared.stretches.Difference.{Difference}
use Rattle.stack_report.specs.Digits.{hexadecimal}
use Rattle.stack_report.specs.Report.{line}
use Rattle.fact_claims.specs.Claimed.{claimed_text}
use Rattle.fact_claims.specs.Said.{mismatch_text}

-- what is claimed at a place of the list
abbrev pub claim_text : Option ClaimedFacts → List ℕ
claim_text None = []
claim_text (Some c) = claimed_text c

-- where a row differs, from which of the claims, why, and what that claims
unfoldable pub difference_line : List ClaimedFacts → Difference → List ℕ
difference_line claims d =
    line (codes "differ " ++ hexadecimal d.address ++ codes " claim " ++ decimal d.claim
    ++ mismatch_text d.mismatch ++ claim_text (slice_get claims d.claim))

abbrev pub difference_lines : List ClaimedFacts → List Difference → List ℕ
difference_lines claims [] = []
difference_lines claims (d ∷ ds) = difference_line claims d ++ difference_lines claims ds

-- no description has rows for the claim, or it is one of a signal's frame
abbrev pub is_without_row : Mismatch → Bool
is_without_row mismatch.NoDescription = true
is_without_row mismatch.SignalFrame = true
is_without_row m = false

-- how many claims have no row: each is in one difference
abbrev pub without_row : List Difference → ℕ
without_row [] = 0
without_row (d ∷ ds) = (if is_without_row d.mismatch then 1 else 0) + without_row ds

abbrev pub is_claim : Option ℕ → ℕ → Bool
is_claim None i = false
is_claim (Some j) i = j == i

-- how many claims have a row that differs, where differences of one claim stand together, after one of this claim
abbrev pub differing_after : Option ℕ → List Difference → ℕ
differing_after last [] = 0
differing_after last (d ∷ ds) = (if is_without_row d.mismatch || is_claim last d.claim then 0 else 1) + differing_after (Some d.claim) ds

-- a line for each difference, and how many claims there are, how many differ, and how many have no row
abbrev pub audit_report : List ClaimedFacts → List Difference → List ℕ
audit_report claims ds =
    difference_lines claims ds ++ line (codes "claims " ++ decimal (length claims))
    ++ line (codes "differ " ++ decimal (differing_after None ds)) ++ line (codes "without a row " ++ decimal (without_row ds))

-- ---- refusals

abbrev pub start_of : Option ClaimedFacts → ℕ
start_of None = 0
start_of (Some c) = c.from

-- where the range before a place of the list begins, 0 before the first
abbrev pub start_before : List ClaimedFacts → ℕ → ℕ
start_before claims zero = 0
start_before claims (suc i) = start_of (slice_get claims i)

-- how a claim whose range is empty, or begins below the end of the one before, is wrong: it is empty; or it begins even below that one's
-- beginning, so that they aren't in order; or they overlap
unfoldable pub disorder_text : ℕ → ClaimedFacts → List ℕ
disorder_text before c =
    if nat_le c.to c.from then codes " empty" else (if nat_lt c.from before then codes " out of order" else codes " overlaps")

abbrev pub disorder_at : ℕ → Option ClaimedFacts → List ℕ
disorder_at before None = []
disorder_at before (Some c) = disorder_text before c

-- why claims aren't audited
abbrev pub refused_line : List ClaimedFacts → AuditError → List ℕ
refused_line claims (error.Claim i) =
    line (codes "refused: claim " ++ decimal i ++ disorder_at (start_before claims i) (slice_get claims i))
refused_line claims error.Tables = line (codes "refused: no frame table")
refused_line claims error.NoMemory = []
