-- What an audit answers: where a module's tables don't say what is claimed, and why. DWARF 5 section 6.4.1; LSB, sections on the
-- .eh_frame and .eh_frame_hdr sections.
use Rattle.std.specs.Prelude.{◌≡◌, ◌≢◌, ◌⊎◌, ℕ, suc, ◌+◌, ◌≤◌, true, List, [], ◌∷◌, ◌++◌, Option, Some, None, IsTrue, Result, false}
use Rattle.std.specs.List.{AllByRecursion, Contains}
use Rattle.memory_image.specs.Image.{Span}
use Rattle.unwind_definitions.specs.declared.error.Error.{Error as Fault}
use Rattle.unwind_definitions.specs.Pointers.{Bases}
use Rattle.unwind_definitions.specs.Entries.{Fde}
use Rattle.unwind_definitions.specs.Row.{RowInstructions, row_at}
use Rattle.unwind_definitions.specs.DescribedRows.{HasRow}
use Rattle.unwind_definitions.specs.Function.{in_range}
use Rattle.frame_facts.specs.FactRows.{SaysFacts}
use Rattle.frame_facts.specs.Claims.{Claim, IsClaimSaid}
use Rattle.fde_finders.specs.declared.custom.FrameInfo.{FrameInfo}
use Rattle.fde_finders.specs.FrameTables.{FrameTable, table_by}
use Rattle.fact_checks.specs.declared.auditing.AuditError.{AuditError}
use Rattle.fact_checks.specs.declared.auditing.AuditError.TheVariants as error
use Rattle.fact_checks.specs.declared.rows.Mismatch.{Mismatch}
use Rattle.fact_checks.specs.declared.rows.Mismatch.TheVariants as mismatch
use Rattle.fact_checks.specs.declared.stretches.Difference.{Difference}
use Rattle.fact_checks.specs.InOrder.{first_out_of_order}
use Rattle.fact_checks.specs.RowFacts.{Differs}

-- a difference is listed, at this address of the claim's range or below it, and for its reason the rows from there on up to here differ
pub record IsListedAt (c : Claim) (due : ℕ → Result RowInstructions Fault) (ds : List Difference) (a : ℕ) : Type 0 where
  pub difference : Difference
  pub listed : Contains ds difference
  pub inside : c.range.from ≤ difference.address
  pub reached : difference.address ≤ a
  pub differs : (x : ℕ) → difference.address ≤ x → x ≤ a → Differs c.facts (due x) difference.mismatch

module _ (bases : Bases) (fdes : List Fde) where
  -- one of the descriptions contains a claim's range
  pub record ContainsRange (c : Claim) (fde : Fde) : Type 0 where
    pub listed : Contains fdes fde
    pub from : fde.start ≤ c.range.from
    pub to : c.range.to ≤ fde.start + fde.size

  -- the row of a description at an address of the claim's range differs so
  pub record DiffersAt (c : Claim) (a : ℕ) (m : Mismatch) : Type 0 where
    pub fde : Fde
    pub contains : ContainsRange c fde
    pub inside : IsTrue (in_range a c.range)
    pub differs : Differs c.facts (row_at bases fde a) m

  -- why the descriptions don't say a claim: none contains its range; or the one that does is of a signal's frame; or its row at an
  -- address of the range differs
  abbrev pub SaysNot : Claim → ℕ → Mismatch → Type 0
  SaysNot c a mismatch.NoDescription = (a ≡ c.range.from) × ((fde : Fde) → ContainsRange c fde → ⊥)
  SaysNot c a mismatch.SignalFrame = (a ≡ c.range.from) × (fde : Fde) × ContainsRange c fde × (fde.cie.letters.signal ≡ true)
  SaysNot c a m = DiffersAt c a m

  abbrev pub IsDifferenceOf : ℕ → Claim → Difference → Type 0
  IsDifferenceOf i c d = (d.claim ≡ i) × SaysNot c d.address d.mismatch

  -- The differences of one claim: each is true; where a description that isn't of a signal's frame contains the range, each address
  -- of it has a row that says the claim, or lies in a difference; and there is none only where one of the descriptions says it.
  pub record AreDifferencesOf (i : ℕ) (c : Claim) (ds : List Difference) : Type 0 where
    pub each : AllByRecursion (IsDifferenceOf i c) ds
    pub every : (fde : Fde) → ContainsRange c fde → fde.cie.letters.signal ≡ false → (a : ℕ) → IsTrue (in_range a c.range) → HasRow bases fde a (SaysFacts c.facts) ⊎ IsListedAt c (row_at bases fde) ds a
    pub said : ds ≡ [] → IsClaimSaid bases fdes c

  -- the differences of claims, one claim's after those of the one before, by their places from one on
  abbrev pub AreAudited : ℕ → List Claim → List Difference → Type 0
  AreAudited i [] ds = ds ≡ []
  AreAudited i (c ∷ cs) ds = (own : List Difference) × (rest : List Difference) × (ds ≡ own ++ rest) × AreDifferencesOf i c own × AreAudited (suc i) cs rest

-- no difference is one of the claim at this place
abbrev pub NoneOf : ℕ → List Difference → Type 0
NoneOf i ds = AllByRecursion (λ (d : Difference). d.claim ≢ i) ds

-- Why nothing is audited: the first claim is out of order whose range is empty or begins below the end of the one before; or where
-- all are in order, no frame table is found.
abbrev pub refusal_by : Option FrameTable → Option ℕ → Option AuditError
refusal_by table (Some i) = Some (error.Claim i)
refusal_by None None = Some error.Tables
refusal_by (Some table) None = None

abbrev pub refusal_of : List Span → FrameInfo → List Claim → Option AuditError
refusal_of image frame claims = refusal_by (table_by frame image) (first_out_of_order 0 claims)
