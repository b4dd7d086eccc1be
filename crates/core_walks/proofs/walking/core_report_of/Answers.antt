use Rattle.std.proofs.Common.{◌≡◌, ℕ, List, ◌∷◌, ◌++◌, Some, slice_get, true}
use Rattle.unwind_arch.specs.declared.x86_64.Context.{Context}
use Rattle.unwind_definitions.specs.State.{State}
use Rattle.unwind_definitions.specs.Function.{Function}
use Rattle.unwind_definitions.specs.Chain.{Call}
use Rattle.stack_steps.specs.Stopped.{StartsStopped}
use Rattle.core_file.specs.Left.{threads_left}
use Rattle.stack_snapshot.specs.Cores.{core_space_of, threads_of}
use Rattle.core_walks.specs.Lines.{threads_text, core_report_of, stopped_text, text_before, text_after}
use Rattle.core_walks.proofs.ThreadText.{stopped_place, threads_text-same, if_ok_as, same_report}
use Rattle.stack_walks.specs.KnownWalks.{StartsKnownStack}
use Rattle.core_walks.specs.ThreadLines.{thread_lines}
use Rattle.core_walks.proofs.KnownThreads.{known_place}
use Rattle.core_walks.proofs.walking.core_report_of.Goals as goal

pub returns-clause-text : goal.returns-clause-text
unfolding core_report_of
returns-clause-text c =
    let s = c.args.snapshot.now in
    let same : threads_text c.in_ok-space.space c.limit.result 0 (threads_left c.threads.result) ≡ threads_text (core_space_of s) s.limit 0 (threads_of s.file) =
    rw (c.limit.ensures, c.threads.ensures) (threads_text-same c.in_ok-space.space (core_space_of s) s.limit c.in_ok-space.ensures.walk 0 (threads_of s.file)) in
    same_report c.threads_report.result (threads_text c.in_ok-space.space c.limit.result 0 (threads_left c.threads.result)) (threads_text (core_space_of s) s.limit 0 (threads_of s.file)) c.threads_report.ensures same

pub returns-clause-stopped : goal.returns-clause-stopped
returns-clause-stopped c =
    let s = c.args.snapshot.now in
    let Stopped : List ℕ → Type 0 = λ report. (index : ℕ) (thread : Context) (functions : List Function) (start : State) (call : Call) (calls : List Call) → slice_get (threads_of s.file) index ≡ Some thread
    → StartsStopped (core_space_of s) thread s.limit functions start call calls → report ≡ text_before s index ++ stopped_text index start (call ∷ calls) ++ text_after s index in
    if_ok_as c.threads_report.result (core_report_of s) Stopped (returns-clause-text c)
    (λ index thread functions start call calls at starts. stopped_place s index thread functions start call calls c.in_ok-space.ensures.apart c.in_ok-space.ensures.laid_out at starts)

pub returns-clause-known : goal.returns-clause-known
returns-clause-known c =
    let s = c.args.snapshot.now in
    let Known : List ℕ → Type 0 = λ report. (index : ℕ) (thread : Context) (start : State) (callers : List State) → slice_get (threads_of s.file) index ≡ Some thread
    → StartsKnownStack (core_space_of s) thread s.limit true start callers → report ≡ text_before s index ++ thread_lines index (start ∷ callers) ++ text_after s index in
    if_ok_as c.threads_report.result (core_report_of s) Known (returns-clause-text c)
    (λ index thread start callers at starts. known_place s index thread start callers c.in_ok-space.ensures.apart c.in_ok-space.ensures.laid_out at starts)
