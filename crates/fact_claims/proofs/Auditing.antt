-- What an audit of claims finds, of the image and the claims that code says.
use Rattle.std.proofs.Common.{◌≡◌, ℕ, None, Some, Ok, Err, List, [], Vec, Global, map, subst}
use Rattle.std.specs.Prelude.{◌↔◌, ◌⊎◌, IfErr, IfOk, Result, slice_get}
use Rattle.memory_image.specs.Image.{Span}
use Rattle.unwind_definitions.specs.Module.{bases_of}
use Rattle.unwind_definitions.specs.Scan.{fdes_of}
use Rattle.frame_facts.specs.FactTables.{HasTables}
use Rattle.frame_facts.specs.Claims.{Claim, IsClaimSaid, SaysClaims}
use Rattle.fde_finders.specs.declared.custom.FrameInfo.{FrameInfo}
use Rattle.table_check.specs.Modules.{module_of}
use Rattle.fact_checks.specs.declared.auditing.AuditError.{AuditError}
use Rattle.fact_checks.specs.declared.auditing.AuditError.TheVariants.{NoMemory}
use Rattle.fact_checks.specs.declared.facts.ClaimedFacts.{ClaimedFacts}
use Rattle.fact_checks.specs.declared.stretches.Difference.{Difference}
use Rattle.fact_checks.specs.Audits.{AreAudited, NoneOf, refusal_of}
use Rattle.fact_checks.specs.ClaimViews.{claim_of}
use Rattle.fact_claims.specs.Code.{AreDifferencesIn, CodeContent, image_in}

-- what an audit answers, of an image and claims
pub record Answers (frame : FrameInfo) (result : Result (Vec Difference Global) AuditError) (image : List Span) (claims : List ClaimedFacts) : Type 0 where
  pub refused : IfErr result (λ error. (error ≡ NoMemory) ⊎ (refusal_of image frame (map claim_of claims) ≡ Some error))
  pub taken : IfOk result (λ ds. refusal_of image frame (map claim_of claims) ≡ None)
  pub audited : IfOk result (λ ds. (start end : ℕ) (d : HasTables image (module_of start end frame)) → AreAudited (bases_of (module_of start end frame) d.frame) (fdes_of d.entries) 0 (map claim_of claims) ds.items)
  pub exact : IfOk result (λ ds. (start end : ℕ) (d : HasTables image (module_of start end frame)) (i : ℕ) (claim : Claim) → slice_get (map claim_of claims) i ≡ Some claim →
      NoneOf i ds.items ↔ IsClaimSaid (bases_of (module_of start end frame) d.frame) (fdes_of d.entries) claim)
  pub said : IfOk result (λ ds. (start end : ℕ) → SaysClaims image (module_of start end frame) (map claim_of claims) → ds.items ≡ [])

-- the same of those that code says
abbrev pub AnswersFor : Result (Vec Difference Global) AuditError → CodeContent → Type 0
AnswersFor result code = Answers code.frame result (image_in code) code.claims

pub answers_of : (code self : CodeContent) (result : Result (Vec Difference Global) AuditError) (image : List Span) (claims : List ClaimedFacts) → code ≡ self → image ≡ image_in code → claims ≡ code.claims → Answers code.frame result image claims → AnswersFor result self
answers_of code self result image claims seen same equal answers =
    subst (AnswersFor result) seen (subst (Answers code.frame result (image_in code)) equal (subst (λ i. Answers code.frame result i claims) same answers))

pub differences_of : (code : CodeContent) (result : Result (Vec Difference Global) AuditError) → AnswersFor result code → IfOk result (λ ds. AreDifferencesIn code ds.items)
differences_of code (Ok ds) answers = record { audited = answers.audited; exact = answers.exact; said = answers.said }
differences_of code (Err error) answers = tt
