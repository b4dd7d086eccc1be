-- A snapshot has one backtrace, and what is due is by it.
use Rattle.std.proofs.Common.{inl, inr, ◌≡◌, ℕ, ◌+◌, ◌^◌, ◌++◌, Bool, true, false, List, [], ◌∷◌, length, Option, Some, None, Result, Ok, Err, refl, sym, ap, ◌∙◌, ltb}
use Rattle.std.specs.Prelude.{IfSome, codes, if◌then◌else◌}
use Rattle.std.proofs.lemmas.Bool.{le-ltb}
use Rattle.command_ends.specs.declared.status.Status.{Status}
use Rattle.command_ends.specs.declared.status.Status.TheVariants.{Done, TooLong}
use Rattle.command_ends.specs.Verdicts.{verdict, IsReadyOrFailed}
use Rattle.stack_steps.specs.Modules.{SpaceValue}
use Rattle.stack_snapshot.specs.declared.errors.SnapshotError.{SnapshotError}
use Rattle.stack_snapshot.specs.Answers.{content_of, value_of}
use Rattle.stack_snapshot.specs.Content.{Content, space_of}
use Rattle.backtrace.specs.Code.{PlacesValue, places_by}
use Rattle.stack_snapshot.specs.Sampled.{SampledContent, sampled_in, sampled_space}
use Rattle.stack_report.specs.Report.{line}
use Rattle.folded_stacks.specs.declared.samples.Sample.{Sample}
use Rattle.backtrace.specs.declared.options.Options.{Options}
use Rattle.backtrace.specs.Options.{options_of}
use Rattle.backtrace.specs.Tracing.{TraceValue}
use Rattle.backtrace.specs.Lines.{thread_line}
use Rattle.backtrace.specs.Threads.{AreThreads, IsThreadsOf}
use Rattle.backtrace.specs.Due.{IsTraceOf, IsBacktraceOf, IsBacktraceBy, IsBacktraceIn, IsOfSamples, IsOfSnapshot, IsBacktrace, text_of}
use Rattle.backtrace.specs.Due.{content_due, error_in, error_of, read_due, options_due, due_of, Asks, AsksFor, AsksPointers, AsksSamples, AreGuessesOf, guessed_text_of}
use Rattle.backtrace.proofs.StackTexts.{one_stack_text, pointers_text, tables_text}

-- ---- one backtrace

one_backtrace : (o : Options) (s : Content) (places : PlacesValue) (x y : List ℕ) → IsBacktraceOf o s places x → IsBacktraceOf o s places y → x ≡ y
one_backtrace o s places x y is other = one_stack_text o (space_of s) s.limit places s.start s.interrupted x y is other

one_of_threads : (o : Options) (space : SpaceValue) (limit : ℕ) (places : PlacesValue) (index : ℕ) (xs : List Sample) (a b : List ℕ) → AreThreads o space limit places index xs a → AreThreads o space limit places index xs b → a ≡ b
one_of_threads o space limit places index [] a b is other = is ∙ sym other
one_of_threads o space limit places index (x ∷ xs) a b is other =
    let stack : is.2.0 ≡ other.2.0 = one_stack_text o space limit places x.start x.interrupted is.2.0 other.2.0 is.2.1 other.2.1 in
    let own : is.0 ≡ other.0 = is.2.2 ∙ (ap (λ t. thread_line index ++ t) stack ∙ sym other.2.2) in
    let rest : is.1 ≡ other.1 = one_of_threads o space limit places (index + 1) xs is.1 other.1 is.3 other.3 in
    is.4 ∙ (ap (λ n. n ++ is.1) own ∙ (ap (λ n. other.0 ++ n) rest ∙ sym other.4))

one_of_snapshot : (o : Options) (r : Result Content SnapshotError) (places : PlacesValue) (x y : List ℕ) → error_of r ≡ None → IsOfSnapshot o r places x → IsOfSnapshot o r places y → x ≡ y
one_of_snapshot o (Err e) places x y none is other = absurd cc
one_of_snapshot o (Ok s) places x y none is other = one_backtrace o s places x y is other

one_of_samples : (o : Options) (r : Result SampledContent SnapshotError) (places : PlacesValue) (x y : List ℕ) → error_of r ≡ None → IsOfSamples o r places x → IsOfSamples o r places y → x ≡ y
one_of_samples o (Err e) places x y none is other = absurd cc
one_of_samples o (Ok s) places x y none is other = one_of_threads o (sampled_space s) s.limit places 0 s.samples x y is other

pub one_read : (several : Bool) (o : Options) (bytes x y : List ℕ) → error_in several bytes ≡ None → IsBacktraceIn several o bytes x → IsBacktraceIn several o bytes y → x ≡ y
one_read false o bytes x y none is other = one_of_snapshot o (content_of bytes) (places_by (value_of bytes)) x y none is other
one_read true o bytes x y none is other = one_of_samples o (sampled_in bytes) (places_by (value_of bytes)) x y none is other

-- ---- what is due by it

-- an answer that is due by its own text is due by another, which is that text where it is an answer
ready_content : {X : Type 0} (r : Result X SnapshotError) (x text : List ℕ) (status : Status) → IsReadyOrFailed (content_due x r) status x
    → (error_of r ≡ None → status ≡ Done → x ≡ text) → IsReadyOrFailed (content_due text r) status x
ready_content (Err e) x text status ready same = ready
ready_content (Ok s) x text status (inl failed) same = inl failed
ready_content (Ok s) x text status (inr (inl none)) same = inr (inl none)
ready_content (Ok s) x text status (inr (inr told)) same = inr (inr (told.0, same refl told.0))

ready_read : (several : Bool) (o : Options) (bytes x text : List ℕ) (status : Status) → IsReadyOrFailed (read_due several x bytes) status x
    → (status ≡ Done → IsBacktraceIn several o bytes x) → IsBacktraceIn several o bytes text → IsReadyOrFailed (read_due several text bytes) status x
ready_read false o bytes x text status ready done is = ready_content (content_of bytes) x text status ready (λ none all. one_read false o bytes x text none (done all) is)
ready_read true o bytes x text status ready done is = ready_content (sampled_in bytes) x text status ready (λ none all. one_read true o bytes x text none (done all) is)

ready_sized : (b : Bool) (o : Options) (bytes x text : List ℕ) (status : Status)
    → IsReadyOrFailed (if b then verdict TooLong (line (codes "too long")) else read_due o.samples x bytes) status x
    → (status ≡ Done → IsBacktraceIn o.samples o bytes x) → IsBacktraceIn o.samples o bytes text
    → IsReadyOrFailed (if b then verdict TooLong (line (codes "too long")) else read_due o.samples text bytes) status x
ready_sized true o bytes x text status ready done is = ready
ready_sized false o bytes x text status ready done is = ready_read o.samples o bytes x text status ready done is

ready_by : (o : Option Options) (bytes x text : List ℕ) (status : Status) → IsReadyOrFailed (options_due x o bytes) status x
    → (status ≡ Done → IsBacktraceBy o bytes x) → IsBacktraceBy o bytes text → IsReadyOrFailed (options_due text o bytes) status x
ready_by None bytes x text status ready done is = ready
ready_by (Some o) bytes x text status ready done is = ready_sized (ltb (2 ^ 26) (length bytes)) o bytes x text status ready done is

pub ready_with : (words : List (List ℕ)) (bytes x text : List ℕ) (status : Status) → IsReadyOrFailed (due_of words bytes x) status x
    → (status ≡ Done → IsBacktrace words bytes x) → IsBacktrace words bytes text → IsReadyOrFailed (due_of words bytes text) status x
ready_with words bytes x text status ready done is = ready_by (options_of words) bytes x text status ready done is

-- what holds by two facts of what is there, one of them under a condition
pub if_some_both : {A : Type 0} (o : Option A) (S : Type 0) (P Q R : A → Type 0) → ((x : A) → P x → (S → Q x) → R x) → IfSome o P → (S → IfSome o Q) → IfSome o R
if_some_both None S P Q R h p q = tt
if_some_both (Some x) S P Q R h p q = h x p q

-- ---- of what is asked for

pub asked_due : (pointers : Bool) (o : Options) (words : List (List ℕ)) (source : Option (List ℕ)) (s : Content) (places : PlacesValue) (text : List ℕ) (asks : AsksFor pointers o words source s places) → due_of words asks.bytes text ≡ verdict Done text
asked_due pointers o words source s places text asks =
    let read : due_of words asks.bytes text ≡ content_due text (content_of asks.bytes) = rw (asks.named, asks.single, le-ltb (2 ^ 26) (length asks.bytes) asks.short) refl in
    read ∙ ap (content_due text) asks.reads

pub asked_backtrace : (o : Options) (words : List (List ℕ)) (source : Option (List ℕ)) (s : Content) (places : PlacesValue) (t : TraceValue) (asks : Asks o words source s places) → IsTraceOf s places t → IsBacktrace words asks.bytes (text_of o s places t)
asked_backtrace o words source s places t asks is =
    let text = tables_text o (space_of s) s.limit places s.start s.interrupted asks.by t is in
    rw (asks.named, asks.single, asks.reads, asks.files) text

pub asked_guesses : (o : Options) (words : List (List ℕ)) (source : Option (List ℕ)) (s : Content) (places : PlacesValue) (t : TraceValue) (ts : List TraceValue) (asks : AsksPointers o words source s places) → IsTraceOf s places t → AreGuessesOf s places t ts →
    IsBacktrace words asks.bytes (guessed_text_of o s places t ts)
asked_guesses o words source s places t ts asks is guesses =
    let text = pointers_text o (space_of s) s.limit places s.start s.interrupted asks.by t ts is guesses in
    rw (asks.named, asks.single, asks.reads, asks.files) text

pub sampled_due : (o : Options) (words : List (List ℕ)) (source : Option (List ℕ)) (s : SampledContent) (places : PlacesValue) (text : List ℕ) (asks : AsksSamples o words source s places) → due_of words asks.bytes text ≡ verdict Done text
sampled_due o words source s places text asks =
    let read : due_of words asks.bytes text ≡ content_due text (sampled_in asks.bytes) = rw (asks.named, asks.several, le-ltb (2 ^ 26) (length asks.bytes) asks.short) refl in
    read ∙ ap (content_due text) asks.reads

pub sampled_backtraces : (o : Options) (words : List (List ℕ)) (source : Option (List ℕ)) (s : SampledContent) (places : PlacesValue) (text : List ℕ) (asks : AsksSamples o words source s places) → IsThreadsOf o s places text → IsBacktrace words asks.bytes text
sampled_backtraces o words source s places text asks is = rw (asks.named, asks.several, asks.reads, asks.files) is
