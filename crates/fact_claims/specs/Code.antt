-- What bytes say as a module and as claims of its code, and what an audit of these finds.
use Rattle.std.specs.Prelude.{◌≡◌, ◌↔◌, ℕ, List, [], ◌∷◌, map, slice_get, Option, Some, None, Result, Ok, Err}
use Rattle.serde_json.specs.Data.{Data}
use Rattle.memory_image.specs.Image.{Span}
use Rattle.memory_image.specs.Results.{◌>>=◌}
use Rattle.unwind_definitions.specs.Module.{bases_of}
use Rattle.unwind_definitions.specs.Scan.{fdes_of}
use Rattle.frame_facts.specs.FactTables.{HasTables}
use Rattle.frame_facts.specs.Claims.{Claim, IsClaimSaid, SaysClaims}
use Rattle.fde_finders.specs.declared.custom.FrameInfo.{FrameInfo}
use Rattle.table_check.specs.Modules.{module_of}
use Rattle.fact_checks.specs.declared.auditing.AuditError.{AuditError}
use Rattle.fact_checks.specs.declared.facts.ClaimedFacts.{ClaimedFacts}
use Rattle.fact_checks.specs.declared.stretches.Difference.{Difference}
use Rattle.fact_checks.specs.Audits.{AreAudited, NoneOf, refusal_of}
use Rattle.fact_checks.specs.ClaimViews.{claim_of}
use Rattle.stack_steps.specs.declared.space.Module.{Module}
use Rattle.stack_steps.specs.declared.space.ModuleTables.{ModuleTables}
use Rattle.stack_steps.specs.declared.space.ModuleTables.TheVariants.{Elf}
use Rattle.stack_snapshot.specs.declared.errors.Field.{Field}
use Rattle.stack_snapshot.specs.declared.errors.Field.TheVariants as fields
use Rattle.stack_snapshot.specs.declared.errors.SnapshotError.TheVariants.{NoMemory, NotJson, Bad}
use Rattle.stack_snapshot.specs.Answers.{value_of}
use Rattle.stack_snapshot.specs.Content.{image_of}
use Rattle.stack_snapshot.specs.Memory.{MemoryContent, memory_of}
use Rattle.stack_snapshot.specs.Snapshot.{needs}
use Rattle.fact_claims.specs.declared.errors.ClaimsError.{ClaimsError}
use Rattle.fact_claims.specs.declared.errors.ClaimsError.TheVariants.{Snapshot}
use Rattle.fact_claims.specs.Claims.{claims_in}

-- memory with one ELF module, where the module's frame table is, and what is claimed of its code
pub record CodeContent : Type 0 where
  pub memory : MemoryContent
  pub frame : FrameInfo
  pub claims : List ClaimedFacts

abbrev pub frame_by : ModuleTables → Option FrameInfo
frame_by (Elf frame) = Some frame
frame_by tables = None

-- where the frame table of the one module is, where that is an ELF module
abbrev pub one_frame : List Module → Option FrameInfo
one_frame [] = None
one_frame (m ∷ []) = frame_by m.tables
one_frame (m ∷ n ∷ modules) = None

-- ---- reading

-- the first faulty field is a cause
abbrev pub by_field : {A : Type 0} → Result A Field → Result A ClaimsError
by_field (Ok x) = Ok x
by_field (Err field) = Err (Snapshot (Bad field))

-- the module and the claims that a value says, or what is faulty first
unfoldable pub code_of : Data → Result CodeContent ClaimsError
code_of d = do
  memory ← by_field (memory_of d)
  frame ← by_field (needs fields.Modules (one_frame memory.modules))
  claims ← claims_in d
  Ok (record { memory = memory; frame = frame; claims = claims })

abbrev pub code_by : Option Data → Result CodeContent ClaimsError
code_by None = Err (Snapshot NotJson)
code_by (Some d) = code_of d

-- the module and the claims that bytes say, or why they say none
abbrev pub code_in : List ℕ → Result CodeContent ClaimsError
code_in bytes = code_by (value_of bytes)

abbrev pub FailsSo : ClaimsError → Result CodeContent ClaimsError → Type 0
FailsSo (Snapshot NoMemory) reading = Unit {0}
FailsSo error reading = reading ≡ Err error

-- what was read is what the reading gives, unless memory ran out
abbrev pub GivesCode : Result CodeContent ClaimsError → Result CodeContent ClaimsError → Type 0
GivesCode (Ok code) reading = reading ≡ Ok code
GivesCode (Err error) reading = FailsSo error reading

-- ---- auditing

abbrev pub image_in : CodeContent → List Span
image_in c = image_of [] c.memory.regions

abbrev pub claims_of : CodeContent → List Claim
claims_of c = map claim_of c.claims

-- why the claims aren't audited
abbrev pub refusal_in : CodeContent → Option AuditError
refusal_in c = refusal_of (image_in c) c.frame (claims_of c)

-- Differences are those of the claims: where the module's tables read, each difference is true, and a claim is in none exactly where
-- a description's rows say it, so that there is none where they say all.
pub record AreDifferencesIn (c : CodeContent) (ds : List Difference) : Type 0 where
  pub audited : (start end : ℕ) (d : HasTables (image_in c) (module_of start end c.frame)) → AreAudited (bases_of (module_of start end c.frame) d.frame) (fdes_of d.entries) 0 (claims_of c) ds
  pub exact : (start end : ℕ) (d : HasTables (image_in c) (module_of start end c.frame)) (i : ℕ) (claim : Claim) → slice_get (claims_of c) i ≡ Some claim →
      NoneOf i ds ↔ IsClaimSaid (bases_of (module_of start end c.frame) d.frame) (fdes_of d.entries) claim
  pub said : (start end : ℕ) → SaysClaims (image_in c) (module_of start end c.frame) (claims_of c) → ds ≡ []
