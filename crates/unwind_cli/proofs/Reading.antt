-- What is answered where the source wasn't read, and where it isn't asked for.
use Rattle.std.proofs.Common.{inl, inr, ◌≡◌, ℕ, ◌^◌, List, length, Option, Some, None}
use Rattle.std.specs.Prelude.{IfSome}
use Rattle.std.proofs.lemmas.Bool.{lt-ltb}
use Rattle.generated_cases.specs.Counted.{AreFewProbes}
use Rattle.command_ends.specs.declared.status.Status.{Status}
use Rattle.command_ends.specs.declared.status.Status.TheVariants.{Done, ReadFault, TooLong, Usage, Memory}
use Rattle.command_ends.specs.Answers.{IsUnread}
use Rattle.command_ends.specs.Verdicts.{IsReady, IsReadyOrFailed, verdict}
use Rattle.command_ends.proofs.VerdictLemmas.{if_some_weaker}
use Rattle.unwind_cli.specs.declared.command.Task.{Task}
use Rattle.unwind_cli.specs.declared.command.Command.TheVariants.{Generate}
use Rattle.unwind_cli.specs.Commands.{command_of, task_of}
use Rattle.unwind_cli.specs.Lines.{usage_line}
use Rattle.unwind_cli.specs.Due.{AreFoundFor, AreFoundOf, Findings, bytes_due, case_due, due_of}
use Rattle.unwind_cli.proofs.Checks.{none_found}

abbrev pub AnswersInput : Task → Status → List ℕ → List ℕ → Type 0
AnswersInput task status text bytes = (found : Findings) × IsReadyOrFailed (bytes_due task bytes found) status text × (status ≡ Done → AreFoundFor task bytes found)

unread_answers : (task : Task) (status : Status) (text bytes : List ℕ) → IsUnread bytes status text → AnswersInput task status text bytes
unread_answers task status text bytes (inl fault) = (none_found, inl fault, λ done. absurd (let e : status ≡ ReadFault = fault.0 in cc))
unread_answers task status text bytes (inr (inl memory)) = (none_found, inr (inl memory), λ done. absurd (let e : status ≡ Memory = memory.0 in cc))
unread_answers task status text bytes (inr (inr long)) =
    let due : IsReadyOrFailed (bytes_due task bytes none_found) status text = rw (lt-ltb (2 ^ 26) (length bytes) long.0) (inr (inr (long.1, long.2))) in
    (none_found, due, λ done. absurd (let e : status ≡ TooLong = long.1 in cc))

pub unread_input : (task : Task) (o : Option (List ℕ)) (status : Status) (text : List ℕ) → IfSome o (λ left. IsUnread left status text) → IfSome o (λ bytes. AnswersInput task status text bytes)
unread_input task o status text unread = if_some_weaker o (λ left. IsUnread left status text) (λ bytes. AnswersInput task status text bytes) (unread_answers task status text) unread

abbrev pub AnswersWords : List (List ℕ) → Status → List ℕ → List ℕ → Type 0
AnswersWords words status text bytes =
    (probes : ℕ) × (found : Findings) × IsReadyOrFailed (due_of words bytes probes found) status text × (status ≡ Done → AreFoundOf (task_of words) bytes found)

for_all : (o : Option (List ℕ)) (P : List ℕ → Type 0) → ((bytes : List ℕ) → P bytes) → IfSome o P
for_all None P all = tt
for_all (Some bytes) P all = all bytes

pub generated_answers : (words : List (List ℕ)) (count seed : ℕ) (o : Option (List ℕ)) (status : Status) (text : List ℕ) → command_of words ≡ Some (Generate count seed)
    → (probes : ℕ) × AreFewProbes count probes × IsReady (case_due count probes) status text → IfSome o (λ bytes. AnswersWords words status text bytes)
generated_answers words count seed o status text named answer = for_all o (λ bytes. AnswersWords words status text bytes) (λ bytes. rw named (answer.0, none_found, inr answer.2, λ done. tt))

pub usage_answers : (words : List (List ℕ)) (o : Option (List ℕ)) (status : Status) (text : List ℕ) → command_of words ≡ None → IsReady (verdict Usage usage_line) status text → IfSome o (λ bytes. AnswersWords words status text bytes)
usage_answers words o status text named ready = for_all o (λ bytes. AnswersWords words status text bytes) (λ bytes. rw named (0, none_found, inr ready, λ done. tt))
