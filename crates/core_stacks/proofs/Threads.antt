-- What is due for a core of which one thread's stack is described or known.
use Rattle.std.proofs.Common.{◌≡◌, ℕ, List, ◌∷◌, length, Some, slice_get, Bool, true, false, ltb, refl, ap, ◌∙◌}
use Rattle.std.proofs.lemmas.Bool.{le-ltb}
use Rattle.core_file.specs.CoreValue.{CoreValue}
use Rattle.unwind_arch.specs.declared.x86_64.Context.{Context}
use Rattle.unwind_definitions.specs.State.{State}
use Rattle.unwind_definitions.specs.Function.{Function}
use Rattle.unwind_definitions.specs.Chain.{Call}
use Rattle.core_file.specs.MappedParts.{mapped_parts}
use Rattle.stack_steps.specs.Stopped.{StartsStopped}
use Rattle.stack_walks.specs.KnownWalks.{StartsKnownStack}
use Rattle.core_walks.specs.Lines.{stopped_text, thread_text}
use Rattle.core_walks.specs.ThreadLines.{thread_lines}
use Rattle.core_walks.proofs.KnownThreads.{known_is}
use Rattle.core_walks.proofs.ThreadText.{placed_among, stopped_is}
use Rattle.command_ends.specs.declared.status.Status.TheVariants.{Done}
use Rattle.command_ends.specs.Verdicts.{verdict}
use Rattle.mapped_modules.proofs.Standing.{core_apart, core_laid_out}
use Rattle.mapped_names.specs.Places.{parts_of}
use Rattle.named_walks.specs.Named.{named_threads_text}
use Rattle.core_stacks.specs.Due.{Asks, AsksFor, AsksNames, due_of, lines_due, lines_with, modules_in, most_bytes, most_states, space_in}

due_for : (names : Bool) (files : List ℕ → List ℕ) (words : List (List ℕ)) (bytes : List ℕ) (core : CoreValue) → AsksFor names files words bytes core → due_of files words ≡ verdict Done (lines_due names files bytes core)
due_for names files words bytes core asks =
    let short : ltb most_bytes (length bytes) ≡ false = le-ltb most_bytes (length bytes) asks.short in
    rw (asks.named, asks.has, short, asks.reads) refl

pub names_due : (files : List ℕ → List ℕ) (words : List (List ℕ)) (bytes : List ℕ) (core : CoreValue) → AsksNames files words bytes core
    → due_of files words ≡ verdict Done (named_threads_text files (parts_of (mapped_parts bytes)) (space_in files bytes core) most_states 0 core.threads)
names_due files words bytes core asks = due_for true files words bytes core asks

with_lines : (files : List ℕ → List ℕ) (words : List (List ℕ)) (bytes : List ℕ) (core : CoreValue) (index : ℕ) (thread : Context) (lines : List ℕ) → Asks files words bytes core → slice_get core.threads index ≡ Some thread
    → thread_text (space_in files bytes core) most_states index thread ≡ lines → due_of files words ≡ verdict Done (lines_with (space_in files bytes core) core index lines)
with_lines files words bytes core index thread lines asks at is =
    due_for false files words bytes core asks ∙ ap (λ (text : List ℕ). verdict Done text) (placed_among (space_in files bytes core) most_states core.threads index thread lines at is)

pub stopped_due : (files : List ℕ → List ℕ) (words : List (List ℕ)) (bytes : List ℕ) (core : CoreValue) (index : ℕ) (thread : Context) (functions : List Function) (s : State) (call : Call) (calls : List Call)
    → Asks files words bytes core → slice_get core.threads index ≡ Some thread → StartsStopped (space_in files bytes core) thread most_states functions s call calls
    → due_of files words ≡ verdict Done (lines_with (space_in files bytes core) core index (stopped_text index s (call ∷ calls)))
stopped_due files words bytes core index thread functions s call calls asks at starts =
    let loaded = modules_in files (mapped_parts bytes) in
    with_lines files words bytes core index thread (stopped_text index s (call ∷ calls)) asks at
    (stopped_is (space_in files bytes core) most_states index thread functions s call calls (core_apart loaded core.segments) (core_laid_out loaded core.segments) starts)

pub known_due : (files : List ℕ → List ℕ) (words : List (List ℕ)) (bytes : List ℕ) (core : CoreValue) (index : ℕ) (thread : Context) (s : State) (callers : List State)
    → Asks files words bytes core → slice_get core.threads index ≡ Some thread → StartsKnownStack (space_in files bytes core) thread most_states true s callers
    → due_of files words ≡ verdict Done (lines_with (space_in files bytes core) core index (thread_lines index (s ∷ callers)))
known_due files words bytes core index thread s callers asks at starts =
    let loaded = modules_in files (mapped_parts bytes) in
    with_lines files words bytes core index thread (thread_lines index (s ∷ callers)) asks at
    (known_is (space_in files bytes core) most_states index thread s callers (core_apart loaded core.segments) (core_laid_out loaded core.segments) starts)
