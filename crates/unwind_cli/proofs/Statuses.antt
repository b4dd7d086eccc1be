-- When a status comes.
use Rattle.std.proofs.Common.{inl, inr, ◌≡◌, ◌≢◌, ℕ, ◌^◌, ◌<◌, ◌≤◌, Bool, true, false, List, length, Option, Some, None, Result, Ok, Err, refl, sym, subst, ap, ◌∙◌, ltb, arith}
use Rattle.std.specs.Prelude.{◌⊎◌, IsSome, codes, if◌then◌else◌}
use Rattle.std.specs.Result.{result_err}
use Rattle.std.proofs.lemmas.Bool.{le-ltb, lt-ltb}
use Rattle.std.proofs.lemmas.Bool.Decides.{nat_tests}
use Rattle.unwind_arch.specs.declared.x86_64.Context.{Context}
use Rattle.stack_deliver.specs.StackDelivery.{DeliveryValue}
use Rattle.stack_steps.specs.declared.error.DeliverError.{DeliverError}
use Rattle.stack_steps.specs.declared.error.DeliverError.TheVariants.{NoMemory}
use Rattle.stack_snapshot.specs.declared.errors.Field.{Field}
use Rattle.stack_snapshot.specs.declared.errors.SnapshotError.{SnapshotError}
use Rattle.stack_snapshot.specs.declared.errors.SnapshotError.TheVariants as faults
use Rattle.command_ends.specs.declared.status.Status.{Status}
use Rattle.command_ends.specs.declared.status.Status.TheVariants.{Done, ReadFault, WriteFault, TooLong, NotJson, BadSnapshot, Refused, Memory}
use Rattle.unwind_cli.specs.declared.command.Task.{Task}
use Rattle.unwind_cli.specs.declared.command.Task.TheVariants.{Deliver, Throw, Walk, Fold, Core, Check, Audit}
use Rattle.unwind_cli.specs.declared.command.Command.{Command}
use Rattle.unwind_cli.specs.declared.command.Command.TheVariants.{OnSnapshot, Generate}
use Rattle.unwind_cli.specs.Commands.{task_in}
use Rattle.stack_snapshot.specs.Answers.{content_of}
use Rattle.stack_snapshot.specs.Content.{Content}
use Rattle.stack_snapshot.specs.Sampled.{SampledContent, sampled_in}
use Rattle.stack_snapshot.specs.Thrown.{ThrownContent, thrown_in}
use Rattle.stack_report.specs.Report.{line}
use Rattle.command_ends.specs.Verdicts.{Verdict, verdict, Tells, ComesExactly}
use Rattle.command_ends.proofs.VerdictLemmas.{comes, told_as}
use Rattle.stack_snapshot.specs.Cores.{CoreContent, core_content_of}
use Rattle.stack_snapshot.specs.declared.cores.CoreSnapshotError.{CoreSnapshotError}
use Rattle.stack_snapshot.specs.declared.cores.CoreSnapshotError.TheVariants as causes
use Rattle.command_ends.specs.Answers.{fault_due}
use Rattle.claim_checks.specs.Claimed.{claimed_in}
use Rattle.claim_checks.specs.declared.claimed.ClaimedModule.{ClaimedModule}
use Rattle.fact_checks.specs.declared.auditing.AuditError.{AuditError}
use Rattle.fact_checks.specs.declared.auditing.AuditError.TheVariants as audits
use Rattle.fact_checks.specs.declared.facts.ClaimedFacts.{ClaimedFacts}
use Rattle.fact_checks.specs.declared.stretches.Difference.{Difference}
use Rattle.fact_checks.specs.Audits.{refusal_by}
use Rattle.fact_checks.specs.InOrder.{first_out_of_order}
use Rattle.fde_finders.specs.FrameTables.{FrameTable, table_by}
use Rattle.fact_claims.specs.Code.{CodeContent, claims_of, code_in, image_in, refusal_in}
use Rattle.fact_claims.specs.declared.errors.ClaimsError.{ClaimsError}
use Rattle.fact_claims.specs.declared.errors.ClaimsError.TheVariants.{Snapshot, Claims, Claim}
use Rattle.unwind_cli.specs.Due.{Findings, LacksClaims, RefusesAudit, audited_by, claims_fault_due, code_due, code_fault, unaudited_due, checked_due, delivery_from, thrown_from, walk_from, refused_due, delivery_due, walk_due, folded_due, fault_of, read_due, core_due, core_fault, task_due, bytes_due, command_due, Refuses, RefusesCore, RefusesThrow}

-- ---- what is due for a snapshot

refused_is : (P : Status → Type 0) → P Memory → P Refused → (e : DeliverError) → P (refused_due e).status
refused_is P memory refused NoMemory = memory
refused_is P memory refused e = refused

delivery_is : (P : Status → Type 0) → P Done → P Memory → P Refused → (r : Result DeliveryValue DeliverError) → P (delivery_due r).status
delivery_is P done memory refused (Ok d) = done
delivery_is P done memory refused (Err e) = refused_is P memory refused e

walk_is : (P : Status → Type 0) → P Done → P Memory → P Refused → (r : Result (List Context) DeliverError) → P (walk_due r).status
walk_is P done memory refused (Ok cs) = done
walk_is P done memory refused (Err e) = refused_is P memory refused e

-- what is due, by what is read or by why nothing is
read_is : {A : Type 0} (P : Status → Option SnapshotError → Type 0) (due : A → Verdict) → ((s : A) → P (due s).status None) → ((e : SnapshotError) → P (fault_due e).status (Some e))
    → (r : Result A SnapshotError) → P (read_due due r).status (result_err r)
read_is P due good bad (Ok s) = good s
read_is P due good bad (Err e) = bad e

core_is : (P : Status → Option SnapshotError → Type 0) → P Done None → P Refused None → ((e : SnapshotError) → P (fault_due e).status (Some e)) → (r : Result CoreContent CoreSnapshotError) → P (core_due r).status (core_fault r)
core_is P done refused bad (Ok c) = done
core_is P done refused bad (Err (causes.Snapshot e)) = bad e
core_is P done refused bad (Err (causes.Core e)) = refused
core_is P done refused bad (Err (causes.Region i)) = refused

audited_is : (P : Status → Type 0) → P Done → P Memory → P Refused → (c : CodeContent) (ds : List Difference) (o : Option AuditError) → P (audited_by c ds o).status
audited_is P done memory refused c ds None = done
audited_is P done memory refused c ds (Some audits.NoMemory) = memory
audited_is P done memory refused c ds (Some (audits.Claim i)) = refused
audited_is P done memory refused c ds (Some audits.Tables) = refused

code_is : (P : Status → Option SnapshotError → Type 0) → P Done None → P Memory None → P Refused None → ((e : SnapshotError) → P (fault_due e).status (Some e)) → (ds : List Difference) (r : Result CodeContent ClaimsError) → ((r ≡ Err Claims) ⊎ ((i : ℕ) × (r ≡ Err (Claim i))) → P BadSnapshot None)
    → P (code_due ds r).status (code_fault r)
code_is P done memory refused bad ds (Ok c) lacking = audited_is (λ x. P x None) done memory refused c ds (refusal_in c)
code_is P done memory refused bad ds (Err (Snapshot e)) lacking = bad e
code_is P done memory refused bad ds (Err Claims) lacking = lacking (inl refl)
code_is P done memory refused bad ds (Err (Claim i)) lacking = lacking (inr (i, refl))

task_is : (P : Status → Option SnapshotError → Type 0) → P Done None → P Memory None → P Refused None → ((e : SnapshotError) → P (fault_due e).status (Some e)) → (found : Findings) (task : Task) (bytes : List ℕ) → (LacksClaims (Some task) bytes → P BadSnapshot None)
    → P (task_due task bytes found).status (fault_of (Some task) bytes)
task_is P done memory refused bad found Deliver bytes lacking = read_is P (λ s. delivery_due (delivery_from s)) (λ s. delivery_is (λ x. P x None) done memory refused (delivery_from s)) bad (content_of bytes)
task_is P done memory refused bad found Throw bytes lacking = read_is P (λ s. delivery_due (thrown_from s)) (λ s. delivery_is (λ x. P x None) done memory refused (thrown_from s)) bad (thrown_in bytes)
task_is P done memory refused bad found Walk bytes lacking = read_is P (λ s. walk_due (walk_from s)) (λ s. walk_is (λ x. P x None) done memory refused (walk_from s)) bad (content_of bytes)
task_is P done memory refused bad found Fold bytes lacking = read_is P folded_due (λ s. done) bad (sampled_in bytes)
task_is P done memory refused bad found Core bytes lacking = core_is P done refused bad (core_content_of bytes)
task_is P done memory refused bad found Check bytes lacking = read_is P (λ c. checked_due found.verdict) (λ c. done) bad (claimed_in bytes)
task_is P done memory refused bad found Audit bytes lacking = code_is P done memory refused bad found.differences (code_in bytes) lacking

task_short : (found : Findings) (task : Task) (bytes : List ℕ) → (task_due task bytes found).status ≢ TooLong
task_short found task bytes = task_is (λ x o. x ≢ TooLong) (λ e. cc) (λ e. cc) (λ e. cc) bad found task bytes (λ lacking e. cc)
  where
    bad : (e : SnapshotError) → (fault_due e).status ≢ TooLong
    bad (faults.Bad field) = λ e. cc
    bad faults.NotJson = λ e. cc
    bad faults.NoMemory = λ e. cc

task_unread : (found : Findings) (task : Task) (bytes : List ℕ) → (task_due task bytes found).status ≡ NotJson → fault_of (Some task) bytes ≡ Some faults.NotJson
task_unread found task bytes = task_is (λ x o. x ≡ NotJson → o ≡ Some faults.NotJson) (λ e. absurd cc) (λ e. absurd cc) (λ e. absurd cc) bad found task bytes (λ lacking e. absurd cc)
  where
    bad : (e : SnapshotError) → (fault_due e).status ≡ NotJson → Some e ≡ Some faults.NotJson
    bad (faults.Bad field) e = absurd cc
    bad faults.NotJson e = refl
    bad faults.NoMemory e = absurd cc

unread_task : (found : Findings) (task : Task) (bytes : List ℕ) → fault_of (Some task) bytes ≡ Some faults.NotJson → (task_due task bytes found).status ≡ NotJson
unread_task found task bytes = task_is (λ x o. o ≡ Some faults.NotJson → x ≡ NotJson) (λ e. absurd cc) (λ e. absurd cc) (λ e. absurd cc) bad found task bytes (λ lacking e. absurd cc)
  where
    bad : (e : SnapshotError) → Some e ≡ Some faults.NotJson → (fault_due e).status ≡ NotJson
    bad (faults.Bad field) e = absurd cc
    bad faults.NotJson e = refl
    bad faults.NoMemory e = absurd cc

-- a field is faulty, or claims are
abbrev pub IsFaultIn : Option Task → List ℕ → Type 0
IsFaultIn task bytes = ((field : Field) × (fault_of task bytes ≡ Some (faults.Bad field))) ⊎ LacksClaims task bytes

task_faulty : (found : Findings) (task : Task) (bytes : List ℕ) → (task_due task bytes found).status ≡ BadSnapshot → IsFaultIn (Some task) bytes
task_faulty found task bytes = task_is (λ x o. x ≡ BadSnapshot → ((field : Field) × (o ≡ Some (faults.Bad field))) ⊎ LacksClaims (Some task) bytes) (λ e. absurd cc) (λ e. absurd cc) (λ e. absurd cc) bad found task bytes (λ lacking e. inr lacking)
  where
    bad : (e : SnapshotError) → (fault_due e).status ≡ BadSnapshot → ((field : Field) × (Some e ≡ Some (faults.Bad field))) ⊎ LacksClaims (Some task) bytes
    bad (faults.Bad field) e = inl (field, refl)
    bad faults.NotJson e = absurd cc
    bad faults.NoMemory e = absurd cc

faulty_task : (field : Field) (found : Findings) (task : Task) (bytes : List ℕ) → fault_of (Some task) bytes ≡ Some (faults.Bad field) → (task_due task bytes found).status ≡ BadSnapshot
faulty_task field found task bytes = task_is (λ x o. o ≡ Some (faults.Bad field) → x ≡ BadSnapshot) (λ e. absurd cc) (λ e. absurd cc) (λ e. absurd cc) bad found task bytes (λ lacking e. refl)
  where
    bad : (e : SnapshotError) → Some e ≡ Some (faults.Bad field) → (fault_due e).status ≡ BadSnapshot
    bad (faults.Bad other) e = refl
    bad faults.NotJson e = absurd cc
    bad faults.NoMemory e = absurd cc

lacking_task : (found : Findings) (task : Task) (bytes : List ℕ) → LacksClaims (Some task) bytes → (task_due task bytes found).status ≡ BadSnapshot
lacking_task found Deliver bytes is = absurd is
lacking_task found Throw bytes is = absurd is
lacking_task found Walk bytes is = absurd is
lacking_task found Fold bytes is = absurd is
lacking_task found Core bytes is = absurd is
lacking_task found Check bytes is = absurd is
lacking_task found Audit bytes (inl is) = rw is refl
lacking_task found Audit bytes (inr (i, is)) = rw is refl

faults_task : (found : Findings) (task : Task) (bytes : List ℕ) → IsFaultIn (Some task) bytes → (task_due task bytes found).status ≡ BadSnapshot
faults_task found task bytes (inl (field, is)) = faulty_task field found task bytes is
faults_task found task bytes (inr is) = lacking_task found task bytes is

-- ---- what is due for all bytes

-- either too many bytes, or what they say
bytes_are : (P : Status → Type 0) (found : Findings) (task : Task) (bytes : List ℕ) → (2 ^ 26 < length bytes → P TooLong) → (length bytes ≤ 2 ^ 26 → P (task_due task bytes found).status) → P (bytes_due task bytes found).status
bytes_are P found task bytes long short = go (ltb (2 ^ 26) (length bytes)) refl
  where
    go : (b : Bool) → ltb (2 ^ 26) (length bytes) ≡ b → P (if b then verdict TooLong (line (codes "too long")) else task_due task bytes found).status
    go true is = long (grind (arith, nat_tests))
    go false is = short (grind (arith, nat_tests))

short_due : (found : Findings) (task : Task) (bytes : List ℕ) → length bytes ≤ 2 ^ 26 → bytes_due task bytes found ≡ task_due task bytes found
short_due found task bytes short = rw (le-ltb (2 ^ 26) (length bytes) short) refl

-- ---- too many bytes

abbrev pub IsTooLong : Option Task → List ℕ → Type 0
IsTooLong task bytes = IsSome task × (2 ^ 26 < length bytes)

long_cause : (o : Option Command) (bytes : List ℕ) (probes : ℕ) (found : Findings) → (command_due o bytes probes found).status ≡ TooLong → IsTooLong (task_in o) bytes
long_cause None bytes probes found is = absurd cc
long_cause (Some (OnSnapshot task)) bytes probes found is =
    (refl, bytes_are (λ x. x ≡ TooLong → 2 ^ 26 < length bytes) found task bytes (λ long e. long) (λ short e. absurd (task_short found task bytes e)) is)
long_cause (Some (Generate count seed)) bytes probes found is = absurd cc

long_due : (o : Option Command) (bytes : List ℕ) (probes : ℕ) (found : Findings) → IsTooLong (task_in o) bytes → (command_due o bytes probes found).status ≡ TooLong
long_due None bytes probes found is = absurd (let some : IsSome {T = Task} None = is.0 in cc)
long_due (Some (OnSnapshot task)) bytes probes found is = rw (lt-ltb (2 ^ 26) (length bytes) is.1) refl
long_due (Some (Generate count seed)) bytes probes found is = absurd (let some : IsSome {T = Task} None = is.0 in cc)

-- ---- no JSON text

abbrev pub IsUnread : Option Task → List ℕ → Type 0
IsUnread task bytes = IsSome task × (length bytes ≤ 2 ^ 26) × (fault_of task bytes ≡ Some faults.NotJson)

unread_cause : (o : Option Command) (bytes : List ℕ) (probes : ℕ) (found : Findings) → (command_due o bytes probes found).status ≡ NotJson → IsUnread (task_in o) bytes
unread_cause None bytes probes found is = absurd cc
unread_cause (Some (OnSnapshot task)) bytes probes found is =
    bytes_are (λ x. x ≡ NotJson → IsUnread (Some task) bytes) found task bytes (λ long e. absurd cc) (λ short e. (refl, short, task_unread found task bytes e)) is
unread_cause (Some (Generate count seed)) bytes probes found is = absurd cc

unread_due : (o : Option Command) (bytes : List ℕ) (probes : ℕ) (found : Findings) → IsUnread (task_in o) bytes → (command_due o bytes probes found).status ≡ NotJson
unread_due None bytes probes found is = absurd (let some : IsSome {T = Task} None = is.0 in cc)
unread_due (Some (OnSnapshot task)) bytes probes found is = rw (le-ltb (2 ^ 26) (length bytes) is.1) (unread_task found task bytes is.2)
unread_due (Some (Generate count seed)) bytes probes found is = absurd (let some : IsSome {T = Task} None = is.0 in cc)

-- ---- a faulty field

abbrev pub IsFaulty : Option Task → List ℕ → Type 0
IsFaulty task bytes = IsSome task × (length bytes ≤ 2 ^ 26) × IsFaultIn task bytes

faulty_cause : (o : Option Command) (bytes : List ℕ) (probes : ℕ) (found : Findings) → (command_due o bytes probes found).status ≡ BadSnapshot → IsFaulty (task_in o) bytes
faulty_cause None bytes probes found is = absurd cc
faulty_cause (Some (OnSnapshot task)) bytes probes found is =
    bytes_are (λ x. x ≡ BadSnapshot → IsFaulty (Some task) bytes) found task bytes (λ long e. absurd cc) (λ short e. (refl, short, task_faulty found task bytes e)) is
faulty_cause (Some (Generate count seed)) bytes probes found is = absurd cc

faulty_due : (o : Option Command) (bytes : List ℕ) (probes : ℕ) (found : Findings) → IsFaulty (task_in o) bytes → (command_due o bytes probes found).status ≡ BadSnapshot
faulty_due None bytes probes found is = absurd (let some : IsSome {T = Task} None = is.0 in cc)
faulty_due (Some (OnSnapshot task)) bytes probes found is = rw (le-ltb (2 ^ 26) (length bytes) is.1) (faults_task found task bytes is.2)
faulty_due (Some (Generate count seed)) bytes probes found is = absurd (let some : IsSome {T = Task} None = is.0 in cc)

-- ---- a task that is refused

abbrev status_of : Verdict → Status
status_of due = due.status

-- a snapshot was read, and the task on it meets an error other than out of memory
abbrev pub RefusesSnapshot : Option Task → List ℕ → Type 0
RefusesSnapshot task bytes = (s : Content) × (content_of bytes ≡ Ok s) × ((error : DeliverError) × (error ≢ NoMemory) × Refuses task s error)

-- so it is, or a core file isn't taken, or claims aren't audited, or a delivery by the rules of languages meets an error
abbrev pub IsRefusalOf : Option Task → List ℕ → Type 0
IsRefusalOf task bytes = RefusesSnapshot task bytes ⊎ (RefusesCore task bytes ⊎ (RefusesAudit task bytes ⊎ RefusesThrow task bytes))

abbrev pub IsRefused : Option Task → List ℕ → Type 0
IsRefused task bytes = IsSome task × (length bytes ≤ 2 ^ 26) × IsRefusalOf task bytes

some_error : (e : DeliverError) → (refused_due e).status ≡ Refused → e ≢ NoMemory
some_error e is same = let m : (refused_due NoMemory).status ≡ Refused = subst (λ (x : DeliverError). (refused_due x).status ≡ Refused) same is in absurd cc

error_due : (e : DeliverError) → e ≢ NoMemory → (refused_due e).status ≡ Refused
error_due NoMemory other = absurd (other refl)
error_due e other = refl

delivery_refused : (r : Result DeliveryValue DeliverError) → (delivery_due r).status ≡ Refused → (error : DeliverError) × (error ≢ NoMemory) × (r ≡ Err error)
delivery_refused (Ok d) is = absurd cc
delivery_refused (Err e) is = (e, some_error e is, refl)

walk_refused : (r : Result (List Context) DeliverError) → (walk_due r).status ≡ Refused → (error : DeliverError) × (error ≢ NoMemory) × (r ≡ Err error)
walk_refused (Ok cs) is = absurd cc
walk_refused (Err e) is = (e, some_error e is, refl)

task_refused : (found : Findings) (task : Task) (bytes : List ℕ) → (task_due task bytes found).status ≡ Refused → IsRefusalOf (Some task) bytes
task_refused found Deliver bytes is = go (content_of bytes) refl is
  where
    go : (r : Result Content SnapshotError) → content_of bytes ≡ r → (read_due (λ s. delivery_due (delivery_from s)) r).status ≡ Refused → IsRefusalOf (Some Deliver) bytes
    go (Ok s) at is = inl (s, at, delivery_refused (delivery_from s) is)
    go (Err (faults.Bad field)) at is = absurd cc
    go (Err faults.NotJson) at is = absurd cc
    go (Err faults.NoMemory) at is = absurd cc
task_refused found Throw bytes is = inr (inr (inr (go (thrown_in bytes) refl is)))
  where
    go : (r : Result ThrownContent SnapshotError) → thrown_in bytes ≡ r → (read_due (λ s. delivery_due (thrown_from s)) r).status ≡ Refused → RefusesThrow (Some Throw) bytes
    go (Ok s) at is = (s, at, delivery_refused (thrown_from s) is)
    go (Err (faults.Bad field)) at is = absurd cc
    go (Err faults.NotJson) at is = absurd cc
    go (Err faults.NoMemory) at is = absurd cc
task_refused found Walk bytes is = go (content_of bytes) refl is
  where
    go : (r : Result Content SnapshotError) → content_of bytes ≡ r → (read_due (λ s. walk_due (walk_from s)) r).status ≡ Refused → IsRefusalOf (Some Walk) bytes
    go (Ok s) at is = inl (s, at, walk_refused (walk_from s) is)
    go (Err (faults.Bad field)) at is = absurd cc
    go (Err faults.NotJson) at is = absurd cc
    go (Err faults.NoMemory) at is = absurd cc
task_refused found Fold bytes is = absurd (go (sampled_in bytes) is)
  where
    go : (r : Result SampledContent SnapshotError) → (read_due folded_due r).status ≡ Refused → ⊥
    go (Ok s) is = cc
    go (Err (faults.Bad field)) is = cc
    go (Err faults.NotJson) is = cc
    go (Err faults.NoMemory) is = cc
task_refused found Core bytes is = inr (inl (go (core_content_of bytes) refl is))
  where
    go : (r : Result CoreContent CoreSnapshotError) → core_content_of bytes ≡ r → (core_due r).status ≡ Refused → RefusesCore (Some Core) bytes
    go (Ok c) at is = absurd cc
    go (Err (causes.Snapshot (faults.Bad field))) at is = absurd cc
    go (Err (causes.Snapshot faults.NotJson)) at is = absurd cc
    go (Err (causes.Snapshot faults.NoMemory)) at is = absurd cc
    go (Err (causes.Core error)) at is = inl (error, at)
    go (Err (causes.Region i)) at is = inr (i, at)
task_refused found Check bytes is = absurd (go (claimed_in bytes) is)
  where
    go : (r : Result ClaimedModule SnapshotError) → (read_due (λ c. checked_due found.verdict) r).status ≡ Refused → ⊥
    go (Ok c) is = cc
    go (Err (faults.Bad field)) is = cc
    go (Err faults.NotJson) is = cc
    go (Err faults.NoMemory) is = cc
task_refused found Audit bytes is = inr (inr (inl (go (code_in bytes) refl is)))
  where
    refusal : (c : CodeContent) (o : Option AuditError) → refusal_in c ≡ o → (audited_by c found.differences o).status ≡ Refused → (error : AuditError) × (refusal_in c ≡ Some error)
    refusal c None at is = absurd cc
    refusal c (Some error) at is = (error, at)

    go : (r : Result CodeContent ClaimsError) → code_in bytes ≡ r → (code_due found.differences r).status ≡ Refused → RefusesAudit (Some Audit) bytes
    go (Ok c) at is = (c, at, refusal c (refusal_in c) refl is)
    go (Err (Snapshot (faults.Bad field))) at is = absurd cc
    go (Err (Snapshot faults.NotJson)) at is = absurd cc
    go (Err (Snapshot faults.NoMemory)) at is = absurd cc
    go (Err Claims) at is = absurd cc
    go (Err (Claim i)) at is = absurd cc

refused_cause : (o : Option Command) (bytes : List ℕ) (probes : ℕ) (found : Findings) → (command_due o bytes probes found).status ≡ Refused → IsRefused (task_in o) bytes
refused_cause None bytes probes found is = absurd cc
refused_cause (Some (OnSnapshot task)) bytes probes found is =
    bytes_are (λ x. x ≡ Refused → IsRefused (Some task) bytes) found task bytes (λ long e. absurd cc) (λ short e. (refl, short, task_refused found task bytes e)) is
refused_cause (Some (Generate count seed)) bytes probes found is = absurd cc

-- a refusal of claims isn't that memory ran out
unaudited_is : (claims : List ClaimedFacts) (table : Option FrameTable) (o : Option ℕ) (error : AuditError) → refusal_by table o ≡ Some error → (unaudited_due claims error).status ≡ Refused
unaudited_is claims table (Some i) error is = let same : audits.Claim i ≡ error = cc in subst (λ (e : AuditError). (unaudited_due claims e).status ≡ Refused) same refl
unaudited_is claims None None error is = let same : audits.Tables ≡ error = cc in subst (λ (e : AuditError). (unaudited_due claims e).status ≡ Refused) same refl
unaudited_is claims (Some table) None error is = absurd cc

refused_task : (found : Findings) (task : Task) (bytes : List ℕ) → IsRefusalOf (Some task) bytes → (task_due task bytes found).status ≡ Refused
refused_task found Deliver bytes (inl (s, reads, (error, other, is))) = rw (reads, is) (error_due error other)
refused_task found Deliver bytes (inr (inl is)) = absurd is
refused_task found Deliver bytes (inr (inr (inl is))) = absurd is
refused_task found Deliver bytes (inr (inr (inr is))) = absurd is
refused_task found Throw bytes (inl (s, reads, (error, other, is))) = absurd is
refused_task found Throw bytes (inr (inl is)) = absurd is
refused_task found Throw bytes (inr (inr (inl is))) = absurd is
refused_task found Throw bytes (inr (inr (inr (s, reads, (error, other, is))))) = rw (reads, is) (error_due error other)
refused_task found Walk bytes (inl (s, reads, (error, other, is))) = rw (reads, is) (error_due error other)
refused_task found Walk bytes (inr (inl is)) = absurd is
refused_task found Walk bytes (inr (inr (inl is))) = absurd is
refused_task found Walk bytes (inr (inr (inr is))) = absurd is
refused_task found Fold bytes (inl (s, reads, (error, other, is))) = absurd is
refused_task found Fold bytes (inr (inl is)) = absurd is
refused_task found Fold bytes (inr (inr (inl is))) = absurd is
refused_task found Fold bytes (inr (inr (inr is))) = absurd is
refused_task found Core bytes (inl (s, reads, (error, other, is))) = absurd is
refused_task found Core bytes (inr (inl (inl (error, is)))) = rw is refl
refused_task found Core bytes (inr (inl (inr (i, is)))) = rw is refl
refused_task found Core bytes (inr (inr (inl is))) = absurd is
refused_task found Core bytes (inr (inr (inr is))) = absurd is
refused_task found Check bytes (inl (s, reads, (error, other, is))) = absurd is
refused_task found Check bytes (inr (inl is)) = absurd is
refused_task found Check bytes (inr (inr (inl is))) = absurd is
refused_task found Check bytes (inr (inr (inr is))) = absurd is
refused_task found Audit bytes (inl (s, reads, (error, other, is))) = absurd is
refused_task found Audit bytes (inr (inl is)) = absurd is
refused_task found Audit bytes (inr (inr (inr is))) = absurd is
refused_task found Audit bytes (inr (inr (inl (c, reads, (error, is))))) =
    let due : task_due Audit bytes found ≡ unaudited_due c.claims error = ap (code_due found.differences) reads ∙ ap (audited_by c found.differences) is in
    ap status_of due ∙ unaudited_is c.claims (table_by c.frame (image_in c)) (first_out_of_order 0 (claims_of c)) error is

refused_for : (o : Option Command) (bytes : List ℕ) (probes : ℕ) (found : Findings) → IsRefused (task_in o) bytes → (command_due o bytes probes found).status ≡ Refused
refused_for None bytes probes found is = absurd (let some : IsSome {T = Task} None = is.0 in cc)
refused_for (Some (OnSnapshot task)) bytes probes found is = rw (le-ltb (2 ^ 26) (length bytes) is.1) (refused_task found task bytes is.2)
refused_for (Some (Generate count seed)) bytes probes found is = absurd (let some : IsSome {T = Task} None = is.0 in cc)

-- ---- when each of them is answered

module _ (o : Option Command) (bytes : List ℕ) (probes : ℕ) (found : Findings) (result : Status) (before after : Option (List ℕ)) (told : Tells (command_due o bytes probes found) result before after) where
  abbrev due : Verdict
  due = command_due o bytes probes found

  pub long_told : ComesExactly result TooLong (IsTooLong (task_in o) bytes)
  long_told = comes (IsTooLong (task_in o) bytes) due result TooLong before after told (λ is. sym (told_as due result TooLong before after told is).0) (long_cause o bytes probes found) (long_due o bytes probes found)

  pub unread_told : ComesExactly result NotJson (IsUnread (task_in o) bytes)
  unread_told = comes (IsUnread (task_in o) bytes) due result NotJson before after told (λ is. sym (told_as due result NotJson before after told is).0) (unread_cause o bytes probes found) (unread_due o bytes probes found)

  pub faulty_told : ComesExactly result BadSnapshot (IsFaulty (task_in o) bytes)
  faulty_told = comes (IsFaulty (task_in o) bytes) due result BadSnapshot before after told (λ is. sym (told_as due result BadSnapshot before after told is).0) (faulty_cause o bytes probes found) (faulty_due o bytes probes found)

  pub refused_told : ComesExactly result Refused (IsRefused (task_in o) bytes)
  refused_told = comes (IsRefused (task_in o) bytes) due result Refused before after told (λ is. sym (told_as due result Refused before after told is).0) (refused_cause o bytes probes found) (refused_for o bytes probes found)
