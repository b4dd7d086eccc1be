-- What is due of records that are read one at a time.
use Rattle.std.proofs.Common.{◌≡◌, ◌⊎◌, inl, inr, ℕ, Bool, true, false, List, [], ◌∷◌, Option, Some, None, Result, Ok, Err, refl, sym, ap, subst, ◌∙◌}
use Rattle.std.specs.Prelude.{IfErr, IfSome, IsErrAnd, IsOk}
use Rattle.memory_image.specs.Results.{result_map}
use Rattle.perf_data.specs.declared.errors.PerfError.{PerfError}
use Rattle.perf_data.specs.declared.errors.PerfError.TheVariants as errors
use Rattle.perf_data.specs.declared.stream.StreamError.{StreamError}
use Rattle.perf_data.specs.declared.stream.StreamError.TheVariants.{NoMemory, Fault, Unread}
use Rattle.perf_data.specs.Records.{RecordValue}
use Rattle.perf_data.specs.Streams.{DueRecords, Follows}
use Rattle.sampled_profile.specs.Profiles.{Tables, profile_of, read_after, stacks_of}
use Rattle.folded_stacks.specs.Counts.{StackCount, counts_of}
use Rattle.stack_snapshot.specs.Origins.{OriginValue}
use Rattle.sampled_profile.specs.declared.stack_table.StackTable.{StackTable}
use Rattle.sampled_profile.specs.Scripts.{script_of, script_text}
use Rattle.sampled_profile.specs.Tables.{ShowsStacks}
use Rattle.sampled_profile.specs.Streamed.{CountsDue, CountsStreamed, EndsAt, GivesStreamed, IsCause, Leads, LeadsTo, ScriptStreamed, TakesRecord, profile_due, read_due, script_due}

-- ---- one step after another

pub follows_weaker : {A B : Type 0} (a : Option A) (b : Option B) (P Q : A → B → Type 0) → ((x : A) (y : B) → P x y → Q x y) → Follows a b P → Follows a b Q
follows_weaker None b P Q weaker p = tt
follows_weaker (Some x) None P Q weaker p = absurd p
follows_weaker (Some x) (Some y) P Q weaker p = weaker x y p

pub follows_again : {A B C : Type 0} (a : Option A) (b : Option B) (c : Option C) (P : A → B → Type 0) (Q : B → C → Type 0) (R : A → C → Type 0) → ((x : A) (y : B) (z : C) → P x y → Q y z → R x z) → Follows a b P → Follows b c Q → Follows a c R
follows_again None b c P Q R both p q = tt
follows_again (Some x) None c P Q R both p q = absurd p
follows_again (Some x) (Some y) None P Q R both p q = absurd q
follows_again (Some x) (Some y) (Some z) P Q R both p q = both x y z p q

-- ---- the records so far

-- what is read from the start is what is read after these
abbrev pub ReadsOn : List RecordValue → Option DueRecords → Option DueRecords → Type 0
ReadsOn earlier due later = Follows due later (λ all rest. read_due [] all ≡ read_due earlier rest)

pub reads_nothing : (due : Option DueRecords) → ReadsOn [] due due
reads_nothing None = tt
reads_nothing (Some all) = refl

pub reads_one : (earlier : List RecordValue) (r : RecordValue) (due later rest : Option DueRecords) → ReadsOn earlier due later → TakesRecord r later rest → ReadsOn (r ∷ earlier) due rest
reads_one earlier r due later rest on takes =
    follows_again due later rest (λ all x. read_due [] all ≡ read_due earlier x) (λ x y. (before : List RecordValue) → read_due before x ≡ read_due (r ∷ before) y) (λ all y. read_due [] all ≡ read_due (r ∷ earlier) y)
    (λ all x y p q. p ∙ q earlier) on takes

pub takes_of : (r : RecordValue) (due later : Option DueRecords) → Follows due later (λ all rest. all ≡ result_map (λ records. Ok r ∷ records) rest) → TakesRecord r due later
takes_of r due later step =
    follows_weaker due later (λ all rest. all ≡ result_map (λ records. Ok r ∷ records) rest) (λ all rest. (earlier : List RecordValue) → read_due earlier all ≡ read_due (r ∷ earlier) rest)
    (λ all rest is earlier. ap (read_due earlier) is ∙ go earlier rest) step
  where
    go : (earlier : List RecordValue) (rest : DueRecords) → read_due earlier (result_map (λ records. Ok r ∷ records) rest) ≡ read_due (r ∷ earlier) rest
    go earlier (Ok records) = refl
    go earlier (Err e) = refl

-- ---- where reading stops

pub failed_by : (result : Result Bool StreamError) (e : PerfError) (due later : Option DueRecords) → IsErrAnd result (λ f. f ≡ Unread e) → EndsAt (Err e ∷ []) due later
    → IfErr result (λ f. (cause : PerfError) → f ≡ Unread cause → EndsAt (Err cause ∷ []) due later)
failed_by (Ok b) e due later is ends = absurd is
failed_by (Err f) e due later is ends = λ cause same.
    let one : e ≡ cause = cc in
    subst (λ (x : PerfError). EndsAt (Err x ∷ []) due later) one ends

-- what reading these after the records so far tells
pub leads_to : (earlier : List RecordValue) (left : List (Result RecordValue PerfError)) (told : Result (List RecordValue) PerfError) (due later rest : Option DueRecords) → read_after earlier left ≡ told
    → ReadsOn earlier due later → EndsAt left later rest → LeadsTo told due rest
leads_to earlier left told due later rest is on ends =
    follows_again due later rest (λ all x. read_due [] all ≡ read_due earlier x) (λ x y. (x ≡ y) × ((y ≡ Err errors.Records) ⊎ (y ≡ Ok left))) (λ all y. Leads told all y)
    (λ all x y p q. go all y (p ∙ ap (read_due earlier) q.0) q.1) on ends
  where
    go : (all y : DueRecords) → read_due [] all ≡ read_due earlier y → (y ≡ Err errors.Records) ⊎ (y ≡ Ok left) → Leads told all y
    go all y same (inl cut) = record {
      whole = λ ok. let bad : false ≡ true = subst IsOk cut ok in absurd cc;
      cut = λ e. same ∙ ap (read_due earlier) cut;
    }
    go all y same (inr ended) = record {
      whole = λ ok. same ∙ (ap (read_due earlier) ended ∙ is);
      cut = λ e. absurd cc;
    }

-- after the whole section
pub leads_whole : (told : Result (List RecordValue) PerfError) (due later : Option DueRecords) → LeadsTo told due later → IfSome later (λ rest. IsOk rest) → IfSome due (λ all. read_due [] all ≡ told)
leads_whole told None later leads ok = tt
leads_whole told (Some all) None leads ok = absurd leads
leads_whole told (Some all) (Some rest) leads ok = leads.whole ok

pub leads_cut : (told : Result (List RecordValue) PerfError) (due later : Option DueRecords) → LeadsTo told due later → IfSome later (λ rest. rest ≡ Err errors.Records) → IfSome due (λ all. read_due [] all ≡ Err errors.Records)
leads_cut told None later leads cut = tt
leads_cut told (Some all) None leads cut = absurd leads
leads_cut told (Some all) (Some rest) leads cut = leads.cut cut

pub of_all : {A : Type 0} (o : Option A) (P : A → Type 0) → ((x : A) → P x) → IfSome o P
of_all None P all = tt
of_all (Some x) P all = all x

pub of_each : {A : Type 0} (o : Option A) (P Q : A → Type 0) → ((x : A) → P x → Q x) → IfSome o P → IfSome o Q
of_each None P Q each p = tt
of_each (Some x) P Q each p = each x p

-- ---- what is told where reading stops

abbrev made : {A : Type 0} → StreamError → Result A StreamError
made e = Err e

counts_left : (e : StreamError) (tables_by : List OriginValue → Tables) (due later rest : Option DueRecords) (earlier : List RecordValue) → ReadsOn earlier due later
    → ((cause : PerfError) → e ≡ Unread cause → EndsAt (Err cause ∷ []) later rest) → CountsStreamed (made e) tables_by due rest
counts_left NoMemory tables_by due later rest earlier on ends = tt
counts_left Fault tables_by due later rest earlier on ends = tt
counts_left (Unread cause) tables_by due later rest earlier on ends = leads_to earlier (Err cause ∷ []) (Err cause) due later rest refl on (ends cause refl)

pub counts_failed : (result : Result StackTable StreamError) (e : StreamError) (tables_by : List OriginValue → Tables) (due later rest : Option DueRecords) (earlier : List RecordValue) → IsErrAnd result (λ f. f ≡ e) → ReadsOn earlier due later
    → ((cause : PerfError) → e ≡ Unread cause → EndsAt (Err cause ∷ []) later rest) → CountsStreamed result tables_by due rest
counts_failed (Ok table) e tables_by due later rest earlier is on ends = absurd is
counts_failed (Err f) e tables_by due later rest earlier is on ends = subst (λ (x : StreamError). CountsStreamed (made x) tables_by due rest) (sym is) (counts_left e tables_by due later rest earlier on ends)

script_left : (e : StreamError) (t : Tables) (due later rest : Option DueRecords) (earlier : List RecordValue) → ReadsOn earlier due later
    → ((cause : PerfError) → e ≡ Unread cause → EndsAt (Err cause ∷ []) later rest) → ScriptStreamed (made e) t due rest
script_left NoMemory t due later rest earlier on ends = tt
script_left Fault t due later rest earlier on ends = tt
script_left (Unread cause) t due later rest earlier on ends = leads_to earlier (Err cause ∷ []) (Err cause) due later rest refl on (ends cause refl)

pub script_stopped : (result : Result (List ℕ) StreamError) (e : StreamError) (t : Tables) (due later rest : Option DueRecords) (earlier : List RecordValue) → IsErrAnd result (λ f. f ≡ e) → ReadsOn earlier due later
    → ((cause : PerfError) → e ≡ Unread cause → EndsAt (Err cause ∷ []) later rest) → ScriptStreamed result t due rest
script_stopped (Ok text) e t due later rest earlier is on ends = absurd is
script_stopped (Err f) e t due later rest earlier is on ends = subst (λ (x : StreamError). ScriptStreamed (made x) t due rest) (sym is) (script_left e t due later rest earlier on ends)

-- ---- and after the rest of the source

-- the error that is told is the one that is due
abbrev IsDueError : StreamError → Option DueRecords → Type 0
IsDueError NoMemory due = Unit {0}
IsDueError Fault due = Unit {0}
IsDueError (Unread e) due = IfSome due (λ all. read_due [] all ≡ Err e)

pub cause_due : (f : StreamError) (e : PerfError) (due later : Option DueRecords) → LeadsTo (Err e) due later → IsCause f e later → IsDueError f due
cause_due NoMemory e due later leads is = tt
cause_due Fault e due later leads is = tt
cause_due (Unread x) e due later leads (inl is) = subst (λ (y : PerfError). IfSome due (λ all. read_due [] all ≡ Err y)) (sym is.0) (leads_whole (Err e) due later leads is.1)
cause_due (Unread x) e due later leads (inr is) = subst (λ (y : PerfError). IfSome due (λ all. read_due [] all ≡ Err y)) (sym is.0) (leads_cut (Err e) due later leads is.1)

pub cut_due : (f : StreamError) (told : Result (List RecordValue) PerfError) (due later : Option DueRecords) → LeadsTo told due later
    → ((cause : PerfError) → f ≡ Unread cause → (cause ≡ errors.Records) × IfSome later (λ rest. rest ≡ Err errors.Records)) → IsDueError f due
cut_due NoMemory told due later leads cut = tt
cut_due Fault told due later leads cut = tt
cut_due (Unread x) told due later leads cut =
    let is = cut x refl in
    subst (λ (y : PerfError). IfSome due (λ all. read_due [] all ≡ Err y)) (sym is.0) (leads_cut told due later leads is.1)

pub counts_due : (f : StreamError) (tables_by : List OriginValue → Tables) (due : Option DueRecords) → IsDueError f due → CountsDue (made f) tables_by due
counts_due NoMemory tables_by due is = tt
counts_due Fault tables_by due is = tt
counts_due (Unread e) tables_by due is = is

pub counts_cut : (result : Result StackTable StreamError) (f : StreamError) (tables_by : List OriginValue → Tables) (due : Option DueRecords) → IsErrAnd result (λ e. e ≡ f) → IsDueError f due → CountsDue result tables_by due
counts_cut (Ok table) f tables_by due same is = absurd same
counts_cut (Err e) f tables_by due same is = subst (λ (x : StreamError). CountsDue (made x) tables_by due) (sym same) (counts_due f tables_by due is)

-- ---- what is due

pub profile_by : (t : Tables) (due : DueRecords) → profile_due t due ≡ result_map (λ read. counts_of (stacks_of t read)) (read_due [] due)
unfolding profile_of
profile_by t (Ok records) = refl
profile_by t (Err e) = refl

pub script_by : (t : Tables) (due : DueRecords) → script_due t due ≡ result_map (script_text t) (read_due [] due)
unfolding script_of
script_by t (Ok records) = refl
script_by t (Err e) = refl

pub script_error : (f : StreamError) (t : Tables) (due : Option DueRecords) → IsDueError f due → IfSome due (λ all. GivesStreamed {A = List ℕ} (made f) (script_due t all))
script_error NoMemory t due is = of_all due (λ all. Unit {0}) (λ all. tt)
script_error Fault t due is = of_all due (λ all. Unit {0}) (λ all. tt)
script_error (Unread e) t due is = of_each due (λ all. read_due [] all ≡ Err e) (λ all. script_due t all ≡ Err e) (λ all p. script_by t all ∙ rw p refl) is

pub script_cut : (result : Result (List ℕ) StreamError) (f : StreamError) (t : Tables) (due : Option DueRecords) → IsErrAnd result (λ e. e ≡ f) → IsDueError f due → IfSome due (λ all. GivesStreamed result (script_due t all))
script_cut (Ok text) f t due same is = absurd same
script_cut (Err e) f t due same is = subst (λ (x : StreamError). IfSome due (λ all. GivesStreamed {A = List ℕ} (made x) (script_due t all))) (sym same) (script_error f t due is)

pub script_whole : (text : List ℕ) (read : List RecordValue) (t : Tables) (due : Option DueRecords) → text ≡ script_text t read → IfSome due (λ all. read_due [] all ≡ Ok read) → IfSome due (λ all. script_due t all ≡ Ok text)
script_whole text read t due is told = of_each due (λ all. read_due [] all ≡ Ok read) (λ all. script_due t all ≡ Ok text) (λ all p. script_by t all ∙ rw p (ap (λ (x : List ℕ). Ok x) (sym is))) told

profile_error : (f : StreamError) (tables_by : List OriginValue → Tables) (t : Tables) (due : Option DueRecords) → CountsDue (made f) tables_by due → IfSome due (λ all. GivesStreamed {A = List StackCount} (made f) (profile_due t all))
profile_error NoMemory tables_by t due is = of_all due (λ all. Unit {0}) (λ all. tt)
profile_error Fault tables_by t due is = of_all due (λ all. Unit {0}) (λ all. tt)
profile_error (Unread e) tables_by t due is = of_each due (λ all. read_due [] all ≡ Err e) (λ all. profile_due t all ≡ Err e) (λ all p. profile_by t all ∙ rw p refl) is

pub profile_stopped : (result : Result (List StackCount) StreamError) (f : StreamError) (tables_by : List OriginValue → Tables) (t : Tables) (due : Option DueRecords) → IsErrAnd result (λ e. e ≡ f) → CountsDue (made f) tables_by due
    → IfSome due (λ all. GivesStreamed result (profile_due t all))
profile_stopped (Ok lines) f tables_by t due same is = absurd same
profile_stopped (Err e) f tables_by t due same is = subst (λ (x : StreamError). IfSome due (λ all. GivesStreamed {A = List StackCount} (made x) (profile_due t all))) (sym same) (profile_error f tables_by t due is)

pub profile_counted : (table : StackTable) (lines : List StackCount) (tables_by : List OriginValue → Tables) (origins : List OriginValue) (due : Option DueRecords) → CountsDue (Ok table) tables_by due
    → ((stacks : List (List ℕ)) → ShowsStacks origins table.counts.entries stacks → lines ≡ counts_of stacks) → IfSome due (λ all. profile_due (tables_by origins) all ≡ Ok lines)
profile_counted table lines tables_by origins due counted told =
    let same : lines ≡ counts_of (stacks_of (tables_by origins) counted.0) = told (stacks_of (tables_by origins) counted.0) (counted.1.shows origins) in
    of_each due (λ all. read_due [] all ≡ Ok counted.0) (λ all. profile_due (tables_by origins) all ≡ Ok lines) (λ all p. profile_by (tables_by origins) all ∙ rw p (ap (λ (x : List StackCount). Ok x) (sym same))) counted.2
