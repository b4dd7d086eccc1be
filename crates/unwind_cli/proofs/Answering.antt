-- What is answered to bytes whose claims are checked or audited.
use Rattle.std.proofs.Common.{inl, inr, ◌≡◌, ℕ, List, [], Result, Ok, Err, sym, subst, ap, ◌∙◌}
use Rattle.std.specs.Prelude.{◌⊎◌}
use Rattle.table_check.specs.declared.verdict.Verdict.{Verdict as Answer}
use Rattle.table_check.specs.declared.verdict.Verdict.TheVariants.{Yes}
use Rattle.claim_checks.specs.Claimed.{IsTheVerdictOn, claimed_in}
use Rattle.claim_checks.specs.declared.claimed.ClaimedModule.{ClaimedModule}
use Rattle.fact_checks.specs.declared.stretches.Difference.{Difference}
use Rattle.fact_claims.specs.Code.{AreDifferencesIn, CodeContent, FailsSo, GivesCode, code_in}
use Rattle.fact_claims.specs.declared.errors.ClaimsError.{ClaimsError}
use Rattle.fact_claims.specs.declared.errors.ClaimsError.TheVariants.{Snapshot, Claims, Claim}
use Rattle.stack_snapshot.specs.declared.errors.SnapshotError.{SnapshotError}
use Rattle.stack_snapshot.specs.declared.errors.SnapshotError.TheVariants as faults
use Rattle.command_ends.specs.declared.status.Status.{Status}
use Rattle.command_ends.specs.declared.status.Status.TheVariants.{Done, Memory}
use Rattle.command_ends.specs.Answers.{AnswersBytes, fault_due}
use Rattle.command_ends.specs.Verdicts.{Verdict, verdict}
use Rattle.unwind_cli.specs.declared.command.Task.{Task}
use Rattle.unwind_cli.specs.declared.command.Task.TheVariants.{Audit, Check}
use Rattle.unwind_cli.specs.Due.{AreFoundFor, Findings, IfRead, audited_due, checked_due, claims_fault_due, code_due, read_due, task_due}
use Rattle.unwind_cli.proofs.Checks.{none_found}

-- an answer is due for something that is found, which is right where all is done
abbrev pub AnswersTask : Task → List ℕ → Status → List ℕ → Type 0
AnswersTask task bytes status text = (found : Findings) × AnswersBytes (task_due task bytes found) status text × (status ≡ Done → AreFoundFor task bytes found)

module _ (status : Status) (text : List ℕ) (out : AnswersBytes (verdict Memory []) status text) where
  -- where memory ran out, that may be answered whatever is due
  silent : (due : Verdict) → AnswersBytes due status text
  silent due = go out
    where
      go : AnswersBytes (verdict Memory []) status text → AnswersBytes due status text
      go (inl none, a, b, d, e) = (inl none, a, b, d, e)
      go (inr same, a, b, d, e) = (inl same, a, b, d, e)

  undone : status ≡ Done → ⊥
  undone done = go out
    where
      go : AnswersBytes (verdict Memory []) status text → ⊥
      go (inl none, a, b, d, e) = let memory : status ≡ Memory = none.0 in cc
      go (inr same, a, b, d, e) = let memory : status ≡ Memory = same.0 in cc

  no_memory : (task : Task) (bytes : List ℕ) → AnswersTask task bytes status text
  no_memory task bytes = (none_found, silent (task_due task bytes none_found), λ done. absurd (undone done))

abbrev failed : SnapshotError → Result ClaimedModule SnapshotError
failed e = Err e

module _ (given bytes : List ℕ) (equal : given ≡ bytes) (status : Status) (text : List ℕ) where
  -- ---- a check

  abbrev Checked : Answer → Result ClaimedModule SnapshotError → Type 0
  Checked answer read = AnswersBytes (read_due (λ c. checked_due answer) read) status text

  abbrev RightAnswer : Answer → Result ClaimedModule SnapshotError → Type 0
  RightAnswer answer read = IfRead (λ c. IsTheVerdictOn c answer) read

  checked_read : (c : ClaimedModule) → claimed_in bytes ≡ Ok c → (answer : Answer) → AnswersBytes (checked_due answer) status text → (status ≡ Done → IsTheVerdictOn c answer) → AnswersTask Check bytes status text
  checked_read c reads answer answers right = (record { verdict = answer; differences = [] }, subst (Checked answer) (sym reads) answers, λ done. subst (RightAnswer answer) (sym reads) (right done))

  pub checked_given : (r : Result ClaimedModule SnapshotError) (c : ClaimedModule) → r ≡ Ok c → (r ≡ Err faults.NoMemory) ⊎ (r ≡ claimed_in given) → (answer : Answer) → AnswersBytes (checked_due answer) status text → (status ≡ Done → IsTheVerdictOn c answer) → AnswersTask Check bytes status text
  checked_given r c is (inl none) answer answers right = absurd (let no : Ok c ≡ Err faults.NoMemory = sym is ∙ none in cc)
  checked_given r c is (inr same) answer answers right = checked_read c (ap claimed_in (sym equal) ∙ (sym same ∙ is)) answer answers right

  pub unchecked_given : (r : Result ClaimedModule SnapshotError) (e : SnapshotError) → r ≡ Err e → (r ≡ Err faults.NoMemory) ⊎ (r ≡ claimed_in given) → AnswersBytes (fault_due e) status text → AnswersTask Check bytes status text
  unchecked_given r e is (inl none) answers =
      let both : failed e ≡ failed faults.NoMemory = sym is ∙ none in
      let memory : e ≡ faults.NoMemory = cc in
      no_memory status text (subst (λ (x : SnapshotError). AnswersBytes (fault_due x) status text) memory answers) Check bytes
  unchecked_given r e is (inr same) answers =
      let fails : claimed_in bytes ≡ Err e = ap claimed_in (sym equal) ∙ (sym same ∙ is) in
      (none_found, subst (Checked Yes) (sym fails) answers, λ done. subst (RightAnswer Yes) (sym fails) tt)

  -- ---- an audit

  abbrev Audited : List Difference → Result CodeContent ClaimsError → Type 0
  Audited ds read = AnswersBytes (code_due ds read) status text

  abbrev RightDifferences : List Difference → Result CodeContent ClaimsError → Type 0
  RightDifferences ds read = IfRead (λ c. AreDifferencesIn c ds) read

  audited_read : (c : CodeContent) → code_in bytes ≡ Ok c → (ds : List Difference) → AnswersBytes (audited_due c ds) status text → (status ≡ Done → AreDifferencesIn c ds) → AnswersTask Audit bytes status text
  audited_read c reads ds answers right = (record { verdict = Yes; differences = ds }, subst (Audited ds) (sym reads) answers, λ done. subst (RightDifferences ds) (sym reads) (right done))

  pub audited_given : (r : Result CodeContent ClaimsError) (c : CodeContent) → r ≡ Ok c → GivesCode r (code_in given) → (ds : List Difference) → AnswersBytes (audited_due c ds) status text → (status ≡ Done → AreDifferencesIn c ds) → AnswersTask Audit bytes status text
  audited_given r c is gives ds answers right =
      let reads : code_in given ≡ Ok c = subst (λ (x : Result CodeContent ClaimsError). GivesCode x (code_in given)) is gives in
      audited_read c (ap code_in (sym equal) ∙ reads) ds answers right

  unread : (e : ClaimsError) → code_in bytes ≡ Err e → AnswersBytes (claims_fault_due e) status text → AnswersTask Audit bytes status text
  unread e fails answers = (none_found, subst (Audited []) (sym fails) answers, λ done. subst (RightDifferences []) (sym fails) tt)

  fails_so : (e : ClaimsError) → FailsSo e (code_in bytes) → AnswersBytes (claims_fault_due e) status text → AnswersTask Audit bytes status text
  fails_so (Snapshot faults.NoMemory) fails answers = no_memory status text answers Audit bytes
  fails_so (Snapshot faults.NotJson) fails answers = unread (Snapshot faults.NotJson) fails answers
  fails_so (Snapshot (faults.Bad field)) fails answers = unread (Snapshot (faults.Bad field)) fails answers
  fails_so Claims fails answers = unread Claims fails answers
  fails_so (Claim i) fails answers = unread (Claim i) fails answers

  pub unaudited_given : (r : Result CodeContent ClaimsError) (e : ClaimsError) → r ≡ Err e → GivesCode r (code_in given) → AnswersBytes (claims_fault_due e) status text → AnswersTask Audit bytes status text
  unaudited_given r e is gives answers =
      fails_so e (subst (λ (b : List ℕ). FailsSo e (code_in b)) equal (subst (λ (x : Result CodeContent ClaimsError). GivesCode x (code_in given)) is gives)) answers
