-- The lines of a core's threads, and the answer with them.
use Rattle.std.proofs.Common.{◌≡◌, ◌⊎◌, inl, inr, ℕ, Bool, List, [], Result, Ok, Err, IfOk, MatchResult, ap, ◌∙◌}
use Rattle.core_file.specs.CoreValue.{CoreValue, core_of}
use Rattle.core_file.specs.MappedParts.{PartValue}
use Rattle.unwind_arch.specs.declared.x86_64.Context.{Context}
use Rattle.stack_steps.specs.Modules.{SpaceValue}
use Rattle.command_ends.specs.declared.status.Status.{Status}
use Rattle.command_ends.specs.declared.status.Status.TheVariants.{Done, Memory, ReadFault}
use Rattle.command_ends.specs.Verdicts.{IsReadyOrFailed}
use Rattle.mapped_files.specs.declared.files.PartError.{PartError}
use Rattle.mapped_files.specs.declared.files.PartError.TheVariants.{Fault}
use Rattle.named_walks.specs.Named.{named_threads_text}
use Rattle.core_stacks.specs.Due.{core_due, lines_due}

-- the lines are those over the same parts, space and threads
pub lines_over_same : {E : Type 0} (files : List ℕ → List ℕ) (parts others : List PartValue) (space other : SpaceValue) (limit : ℕ) (threads those : List Context) (r : Result (List ℕ) E) → parts ≡ others → space ≡ other → threads ≡ those
    → IfOk r (λ report. report ≡ named_threads_text files parts space limit 0 threads) → IfOk r (λ report. report ≡ named_threads_text files others other limit 0 those)
lines_over_same files parts others space other limit threads those (Ok report) same_parts same_space same_threads is =
    is ∙ ap (λ (ps : List PartValue). named_threads_text files ps space limit 0 threads) same_parts ∙ ap (λ (s : SpaceValue). named_threads_text files others s limit 0 threads) same_space
    ∙ ap (λ (ts : List Context). named_threads_text files others other limit 0 ts) same_threads
lines_over_same files parts others space other limit threads those (Err error) same_parts same_space same_threads is = tt

-- what is due is answered, or that a read failed or memory ran out
pub lines_answered : (names : Bool) (files : List ℕ → List ℕ) (bytes : List ℕ) (core : CoreValue) (r : Result (List ℕ) PartError) (status : Status) (text : List ℕ) → core_of bytes ≡ Ok core → IfOk r (λ report. report ≡ lines_due names files bytes core)
    → MatchResult r (λ report. (status ≡ Done) × (text ≡ report)) (λ error. (text ≡ []) × ((status ≡ ReadFault) × (error ≡ Fault) ⊎ (status ≡ Memory))) → IsReadyOrFailed (core_due names files bytes (core_of bytes)) status text
lines_answered names files bytes core (Ok report) status text reads is (done, written) = rw reads (inr (inr (done, written ∙ is)))
lines_answered names files bytes core (Err error) status text reads is (silent, inl (fault, same)) = inl (fault, silent)
lines_answered names files bytes core (Err error) status text reads is (silent, inr memory) = inr (inl (memory, silent))
