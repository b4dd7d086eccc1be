-- What the entries of a frame table tell, beside functions that are claimed. No public clause cites this.
use Rattle.std.specs.Prelude.{◌≡◌, ◌⊎◌, ℕ, List, [], Option, Some, None, Ok, length, MatchOption}
use Rattle.std.specs.List.{AllByRecursion}
use Rattle.memory_image.specs.Image.{Span}
use Rattle.unwind_definitions.specs.Entries.{Entry, Fde, entry_at}
use Rattle.unwind_definitions.specs.Function.{Function}
use Rattle.unwind_definitions.specs.Module.{Tables}
use Rattle.unwind_definitions.specs.Scan.{fdes_of}
use Rattle.fde_finders.specs.FrameTables.{FrameTable}
use Rattle.table_check.specs.declared.claims.Claim.{Claim}
use Rattle.table_check.specs.declared.findings.Findings.{Findings}
use Rattle.table_check.specs.declared.header_tables.ListedSoFar.{ListedSoFar}
use Rattle.table_check.specs.declared.reason.Reason.{Reason}
use Rattle.table_check.specs.Descriptions.{AllDescribed}
use Rattle.table_check.specs.Marks.{AreMarked}
use Rattle.table_check.specs.Pairs.{SaysListed}
use Rattle.table_check.specs.Reasons.{AllStandBeside, RefusesTable}
use Rattle.table_check.specs.Scanned.{AllMayStand, EndsBy, IsFirstExtra, StandBefore}
use Rattle.table_check.specs.Verdicts.{RefusesDescriptions}

-- descriptions that stand beside each other and functions, and what is noted of them
pub record StandSoFar (image : List Span) (t : FrameTable) (functions : List Function) (claims : List Claim) (fdes : List Fde) (highest : ℕ) (so_far : ListedSoFar) : Type 0 where
  pub stand : AllMayStand functions [] fdes
  pub ends : AllByRecursion (EndsBy highest) fdes
  pub marks : AreMarked image t.bases fdes claims
  pub listed : SaysListed t.pairs t.entries.base fdes so_far

-- all descriptions so far stand so; or the first that doesn't starts at an address
abbrev pub Tells : List Span → FrameTable → List Function → List Claim → List Fde → Findings → Type 0
Tells image t functions claims fdes found = MatchOption found.extra (StandSoFar image t functions claims fdes found.highest found.listed) (λ start. IsFirstExtra t.bases t.entries functions start)

-- all entries read and have short lengths, and this is what they tell
pub record AreFound (image : List Span) (t : FrameTable) (functions : List Function) (claims : List Claim) (found : Findings) : Type 0 where
  pub entries : List Entry
  pub end : ℕ
  pub stand : StandBefore t.bases t.entries 0 entries end
  pub over : entry_at t.bases t.entries end ≡ Ok None
  pub count : found.descriptions ≡ length (fdes_of entries)
  pub tells : Tells image t functions claims (fdes_of entries) found

-- a table that stands beside functions, and what holds of its descriptions
pub record StandsWith (t : FrameTable) (functions : List Function) (P : List Fde → Type 0) : Type 0 where
  pub beside : AllStandBeside t.bases t.entries functions
  pub holds : P (fdes_of beside.descriptions.entries)

-- a table stands beside functions, and its descriptions describe them; or the first part of that which fails
abbrev pub IsAnswer : List Span → FrameTable → Tables → List Function → Option Reason → Type 0
IsAnswer image t tables functions None = StandsWith t functions (λ fdes. AllDescribed image t.bases fdes tables t.entries.base functions)
IsAnswer image t tables functions (Some r) = RefusesTable t.bases t.entries functions r ⊎ StandsWith t functions (λ fdes. RefusesDescriptions image t.bases fdes tables t.entries.base functions r)
