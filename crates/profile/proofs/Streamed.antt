-- What is due of a file that is read from a source, and what is answered.
use Rattle.std.proofs.Common.{◌≡◌, ◌≢◌, inl, inr, ℕ, List, Option, Some, Result, Ok, Err, refl, sym, ap, subst, ◌∙◌}
use Rattle.std.specs.Prelude.{IfSome, IsErrAnd}
use Rattle.memory_image.specs.Results.{result_map}
use Rattle.perf_data.specs.declared.errors.PerfError.{PerfError}
use Rattle.perf_data.specs.declared.stream.StreamError.{StreamError}
use Rattle.perf_data.specs.declared.stream.StreamError.TheVariants.{NoMemory, Fault, Unread}
use Rattle.perf_data.specs.FileValue.{PerfValue, perf_of}
use Rattle.perf_data.specs.Records.{RecordValue}
use Rattle.perf_data.specs.Streams.{DueRecords, records_in}
use Rattle.folded_stacks.specs.Counts.{StackCount}
use Rattle.stack_snapshot.specs.Content.{Content}
use Rattle.stack_snapshot.specs.Origins.{OriginValue}
use Rattle.stack_snapshot.specs.declared.errors.SnapshotError.{SnapshotError}
use Rattle.sampled_profile.specs.Profiles.{Tables, profile_text}
use Rattle.sampled_profile.specs.Streamed.{GivesStreamed, profile_due}
use Rattle.sampled_profile.proofs.StreamedLemmas.{of_all, of_each}
use Rattle.command_ends.specs.declared.status.Status.{Status}
use Rattle.command_ends.specs.declared.status.Status.TheVariants.{Done}
use Rattle.command_ends.specs.Verdicts.{IsReadyOrFailed, ReadsWhole}
use Rattle.profile.specs.declared.request.Form.{Form}
use Rattle.profile.specs.declared.request.Form.TheVariants.{Folded}
use Rattle.profile.specs.Due.{content_due, file_due, lines_due, read_due, tables_of, told_by, told_due}
use Rattle.profile.specs.Reading.{IsFailure}

abbrev made : {A : Type 0} → StreamError → Result A StreamError
made e = Err e

-- ---- the distinct stacks

told_folded : (t : Tables) (due : DueRecords) → told_due t Folded due ≡ result_map profile_text (profile_due t due)
told_folded t (Ok records) = refl
told_folded t (Err e) = refl

pub folded_done : (t : Tables) (o : Option DueRecords) (lines : List StackCount) (text : List ℕ) → text ≡ profile_text lines → IfSome o (λ due. profile_due t due ≡ Ok lines) → IfSome o (λ due. told_due t Folded due ≡ Ok text)
folded_done t o lines text is told =
    of_each o (λ due. profile_due t due ≡ Ok lines) (λ due. told_due t Folded due ≡ Ok text) (λ due p. told_folded t due ∙ rw p (ap (λ (x : List ℕ). Ok x) (sym is))) told

folded_error : (f : StreamError) (t : Tables) (o : Option DueRecords) → IfSome o (λ due. GivesStreamed {A = List StackCount} (made f) (profile_due t due)) → IfSome o (λ due. GivesStreamed {A = List ℕ} (made f) (told_due t Folded due))
folded_error NoMemory t o told = of_all o (λ due. Unit {0}) (λ due. tt)
folded_error Fault t o told = of_all o (λ due. Unit {0}) (λ due. tt)
folded_error (Unread e) t o told = of_each o (λ due. profile_due t due ≡ Err e) (λ due. told_due t Folded due ≡ Err e) (λ due p. told_folded t due ∙ rw p refl) told

pub folded_failed : (result : Result (List ℕ) StreamError) (f : StreamError) (t : Tables) (o : Option DueRecords) → IsErrAnd result (λ e. e ≡ f) → IfSome o (λ due. GivesStreamed {A = List StackCount} (made f) (profile_due t due))
    → IfSome o (λ due. GivesStreamed result (told_due t Folded due))
folded_failed (Ok text) f t o same told = absurd same
folded_failed (Err e) f t o same told = subst (λ (x : StreamError). IfSome o (λ due. GivesStreamed {A = List ℕ} (made x) (told_due t Folded due))) (sym same) (folded_error f t o told)

-- a result that doesn't depend on the file
pub no_memory : (result : Result (List ℕ) StreamError) (t : Tables) (form : Form) (o : Option DueRecords) → IsErrAnd result (λ e. e ≡ NoMemory) → IfSome o (λ due. GivesStreamed result (told_due t form due))
no_memory (Ok text) t form o same = absurd same
no_memory (Err e) t form o same = subst (λ (x : StreamError). IfSome o (λ due. GivesStreamed {A = List ℕ} (made x) (told_due t form due))) (sym same) (of_all o (λ due. Unit {0}) (λ due. tt))

-- ---- over other tables that tell the same

told_like : (t u : Tables) (form : Form) → ((records : List (Result RecordValue PerfError)) → told_by t form records ≡ told_by u form records) → (due : DueRecords) → told_due t form due ≡ told_due u form due
told_like t u form same (Ok records) = same records
told_like t u form same (Err e) = refl

pub given_like : (result : Result (List ℕ) StreamError) (t u : Tables) (form : Form) (o : Option DueRecords) → ((records : List (Result RecordValue PerfError)) → told_by t form records ≡ told_by u form records)
    → IfSome o (λ due. GivesStreamed result (told_due t form due)) → IfSome o (λ due. GivesStreamed result (told_due u form due))
given_like result t u form o same = of_each o (λ due. GivesStreamed result (told_due t form due)) (λ due. GivesStreamed result (told_due u form due)) (λ due given. subst (GivesStreamed result) (told_like t u form same due) given)

-- ---- what is answered

pub answer_done : (t : Tables) (form : Form) (o : Option DueRecords) (text answered : List ℕ) (status : Status) → status ≡ Done → answered ≡ text → IfSome o (λ due. told_due t form due ≡ Ok text)
    → IfSome o (λ due. IsReadyOrFailed (lines_due (told_due t form due)) status answered)
answer_done t form o text answered status done same = of_each o (λ due. told_due t form due ≡ Ok text) (λ due. IsReadyOrFailed (lines_due (told_due t form due)) status answered) (λ due p. rw p (inr (inr (done, same))))

pub answer_failed : (t : Tables) (form : Form) (o : Option DueRecords) (f : StreamError) (answered : List ℕ) (status : Status) → IsFailure f status answered → IfSome o (λ due. GivesStreamed {A = List ℕ} (made f) (told_due t form due))
    → IfSome o (λ due. IsReadyOrFailed (lines_due (told_due t form due)) status answered)
answer_failed t form o NoMemory answered status fails told = of_all o (λ due. IsReadyOrFailed (lines_due (told_due t form due)) status answered) (λ due. inr (inl fails))
answer_failed t form o Fault answered status fails told = of_all o (λ due. IsReadyOrFailed (lines_due (told_due t form due)) status answered) (λ due. inl fails)
answer_failed t form o (Unread e) answered status fails told = of_each o (λ due. told_due t form due ≡ Err e) (λ due. IsReadyOrFailed (lines_due (told_due t form due)) status answered) (λ due p. rw p (inr fails)) told

-- by all bytes of the source
pub due_read : (origins : List OriginValue) (form : Form) (bytes : List ℕ) (content : Result Content SnapshotError) → read_due origins form (records_in bytes) content ≡ content_due origins form bytes content
due_read origins form bytes (Err error) = refl
due_read origins form bytes (Ok s) = go (perf_of bytes)
  where
    go : (file : Result PerfValue PerfError) → read_due origins form (result_map (λ (f : PerfValue). f.records) file) (Ok s) ≡ file_due (tables_of s origins) form file
    go (Ok f) = refl
    go (Err e) = refl

pub answer_read : (origins : List OriginValue) (form : Form) (content : Result Content SnapshotError) (left : Option (List ℕ)) (due : Option DueRecords) (status : Status) (answered : List ℕ)
    → IfSome left (λ bytes. due ≡ Some (records_in bytes)) → IfSome due (λ d. IsReadyOrFailed (read_due origins form d content) status answered)
    → IfSome left (λ bytes. IsReadyOrFailed (content_due origins form bytes content) status answered)
answer_read origins form content left due status answered is ready =
    of_each left (λ bytes. due ≡ Some (records_in bytes)) (λ bytes. IsReadyOrFailed (content_due origins form bytes content) status answered)
    (λ bytes same.
    let here : IfSome (Some (records_in bytes)) (λ d. IsReadyOrFailed (read_due origins form d content) status answered) = subst (λ (o : Option DueRecords). IfSome o (λ d. IsReadyOrFailed (read_due origins form d content) status answered)) same ready in
    subst (λ due. IsReadyOrFailed due status answered) (due_read origins form bytes content) here) is

-- no bytes were read to their end where reading them failed
pub never_whole : (f : StreamError) (status : Status) (text : List ℕ) → IsFailure f status text → ((cause : PerfError) → f ≢ Unread cause) → ReadsWhole status → ⊥
never_whole NoMemory status text fails other whole = subst ReadsWhole fails.0 whole
never_whole Fault status text fails other whole = subst ReadsWhole fails.0 whole
never_whole (Unread e) status text fails other whole = other e refl
