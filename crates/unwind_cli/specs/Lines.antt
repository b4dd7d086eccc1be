-- The single lines that the program itself writes in a report's place.
use Rattle.std.specs.Prelude.{ℕ, List, ◌++◌, codes}
use Rattle.std.specs.Fmt.{decimal}
use Rattle.stack_report.specs.Report.{line}

abbrev pub usage_line : List ℕ
usage_line = line (codes "usage: unwind_cli deliver | throw | walk | generate COUNT SEED | fold | core | check | audit")

-- there is no list of claims
abbrev pub claims_line : List ℕ
claims_line = line (codes "bad snapshot: claims")

-- the item at this place of the list of claims says none
abbrev pub claim_line : ℕ → List ℕ
claim_line i = line (codes "bad snapshot: claim " ++ decimal i)
