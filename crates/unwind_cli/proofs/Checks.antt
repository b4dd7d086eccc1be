-- What is written of a check and of an audit.
use Rattle.std.proofs.Common.{inl, inr, ◌≡◌, ◌≢◌, ℕ, ◌<◌, List, [], length, Option, None, Some, Result, Ok, ap, sym, subst, ◌∙◌, arith}
use Rattle.table_check.specs.declared.verdict.Verdict.TheVariants.{Yes}
use Rattle.table_check.specs.declared.verdict.Verdict.{Verdict as Answer}
use Rattle.claim_checks.specs.Claimed.{Describes, IsTheVerdictOn, claimed_in}
use Rattle.claim_checks.specs.declared.claimed.ClaimedModule.{ClaimedModule}
use Rattle.fact_checks.specs.declared.stretches.Difference.{Difference}
use Rattle.fact_claims.specs.Code.{AreDifferencesIn, CodeContent, claims_of, code_in, image_in}
use Rattle.frame_facts.specs.Claims.{SaysClaims}
use Rattle.table_check.specs.Modules.{module_of}
use Rattle.fact_claims.specs.declared.errors.ClaimsError.{ClaimsError}
use Rattle.stack_snapshot.specs.declared.errors.SnapshotError.{SnapshotError}
use Rattle.command_ends.specs.declared.status.Status.{Status}
use Rattle.command_ends.specs.declared.status.Status.TheVariants.{Done, ReadFault, Memory}
use Rattle.command_ends.specs.Verdicts.{IsReadyOrFailed, Tells, Verdict}
use Rattle.unwind_cli.specs.declared.command.Task.{Task}
use Rattle.unwind_cli.specs.declared.command.Task.TheVariants.{Audit, Check}
use Rattle.unwind_cli.specs.declared.command.Command.TheVariants.{OnSnapshot}
use Rattle.unwind_cli.specs.Commands.{command_of, task_of}
use Rattle.unwind_cli.specs.Due.{AreFoundOf, Findings, IfRead, TellsDifferences, TellsRight, TellsVerdict, checked_due, differences_due}

-- what stands where nothing is checked or audited
abbrev pub none_found : Findings
none_found = record { verdict = Yes; differences = [] }

-- what is found for bytes that say functions is the verdict on these
pub verdict_read : (words : List (List ℕ)) (bytes : List ℕ) (c : ClaimedModule) (found : Findings) → command_of words ≡ Some (OnSnapshot Check) → claimed_in bytes ≡ Ok c → AreFoundOf (task_of words) bytes found → IsTheVerdictOn c found.verdict
verdict_read words bytes c found named reads are =
    let there : AreFoundOf (Some Check) bytes found = rw named at are in
    subst (λ (r : Result ClaimedModule SnapshotError). IfRead (λ c. IsTheVerdictOn c found.verdict) r) reads there

-- what is found for bytes that say claims are the differences of these
pub differences_read : (words : List (List ℕ)) (bytes : List ℕ) (c : CodeContent) (found : Findings) → command_of words ≡ Some (OnSnapshot Audit) → code_in bytes ≡ Ok c → AreFoundOf (task_of words) bytes found → AreDifferencesIn c found.differences
differences_read words bytes c found named reads are =
    let there : AreFoundOf (Some Audit) bytes found = rw named at are in
    subst (λ (r : Result CodeContent ClaimsError). IfRead (λ c. AreDifferencesIn c found.differences) r) reads there

module _ {A : Type 0} (IsRight : A → Type 0) (due : A → Verdict) (answer : A) (status : Status) (text : List ℕ) (ready : IsReadyOrFailed (due answer) status text) (right : status ≡ Done → IsRight answer) (done : (due answer).status ≡ Done) where
  -- a run that isn't silent wrote a right answer
  loud : (result : Status) → result ≢ Memory → result ≢ ReadFault → (result ≢ status → 0 < length text) → IsRight answer
  loud result m r some = go ready
    where
      go : IsReadyOrFailed (due answer) status text → IsRight answer
      go (inl f) = let none : length text ≡ 0 = ap length f.1 in let long = some (λ e. r (e ∙ f.0)) in absurd (omega arith)
      go (inr (inl f)) = let none : length text ≡ 0 = ap length f.1 in let long = some (λ e. m (e ∙ f.0)) in absurd (omega arith)
      go (inr (inr is)) = right (is.0 ∙ done)

  pub right_told : (result : Status) (before after : Option (List ℕ)) → (result ≢ status → 0 < length text) → Tells (due answer) result before after → TellsRight IsRight due result before after
  right_told Memory before after some told = told
  right_told ReadFault before after some told = told
  right_told result before after some told = (answer, loud result (λ e. cc) (λ e. cc) some, told)

-- where there is one right answer, it is that one
pub only_told : {A : Type 0} (IsRight : A → Type 0) (due : A → Verdict) (one : A) (result : Status) (before after : Option (List ℕ)) → ((answer : A) → IsRight answer → answer ≡ one) → TellsRight IsRight due result before after → Tells (due one) result before after
only_told IsRight due one Memory before after only told = told
only_told IsRight due one ReadFault before after only told = told
only_told {A} IsRight due one result before after only told = subst (λ (answer : A). Tells (due answer) result before after) (only told.0 told.1) told.2

-- where the module describes the functions, it is yes
pub yes_told : (c : ClaimedModule) (result : Status) (before after : Option (List ℕ)) → Describes c → TellsVerdict c result before after → Tells (checked_due Yes) result before after
yes_told c result before after described told = only_told (IsTheVerdictOn c) checked_due Yes result before after (λ answer is. is.only Yes described) told

-- where the module's tables say all claims, there is no difference
pub none_told : (c : CodeContent) (start end : ℕ) (result : Status) (before after : Option (List ℕ)) → SaysClaims (image_in c) (module_of start end c.frame) (claims_of c) → TellsDifferences c result before after → Tells (differences_due c []) result before after
none_told c start end result before after says told = only_told (AreDifferencesIn c) (differences_due c) [] result before after (λ ds are. are.said start end says) told
