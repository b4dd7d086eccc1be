use Rattle.std.proofs.Common.{◌≡◌, ℕ, List, ◌∷◌, ◌++◌, Some, slice_get, true}
use Rattle.core_file.specs.Left.{threads_left}
use Rattle.unwind_arch.specs.declared.x86_64.Context.{Context}
use Rattle.unwind_definitions.specs.State.{State}
use Rattle.unwind_definitions.specs.Function.{Function}
use Rattle.unwind_definitions.specs.Chain.{Call}
use Rattle.stack_steps.specs.Stopped.{StartsStopped}
use Rattle.stack_walks.specs.KnownWalks.{StartsKnownStack}
use Rattle.core_walks.specs.Lines.{lines_after, lines_before, stopped_text, threads_text}
use Rattle.core_walks.specs.ThreadLines.{thread_lines}
use Rattle.core_walks.proofs.KnownThreads.{known_is}
use Rattle.core_walks.proofs.ThreadText.{if_ok_as, placed_among, stopped_is}
use Rattle.core_walks.proofs.walking.walks_of_threads.Goals as goal

pub returns-clause-stopped : goal.returns-clause-stopped
returns-clause-stopped c =
    let space = c.args.space.now in
    let limit = c.args.limit in
    let cs = threads_left c.args.threads in
    let Stopped : List ℕ → Type 0 = λ report. (index : ℕ) (thread : Context) (functions : List Function) (s : State) (call : Call) (calls : List Call) → slice_get cs index ≡ Some thread
    → StartsStopped space thread limit functions s call calls → report ≡ lines_before space limit cs index ++ stopped_text index s (call ∷ calls) ++ lines_after space limit cs index in
    if_ok_as c.threads_report.result (threads_text space limit 0 cs) Stopped c.threads_report.ensures
    (λ index thread functions s call calls at starts. placed_among space limit cs index thread (stopped_text index s (call ∷ calls)) at (stopped_is space limit index thread functions s call calls c.image.ensures.apart c.image.ensures.laid_out starts))

pub returns-clause-known : goal.returns-clause-known
returns-clause-known c =
    let space = c.args.space.now in
    let limit = c.args.limit in
    let cs = threads_left c.args.threads in
    let Known : List ℕ → Type 0 = λ report. (index : ℕ) (thread : Context) (s : State) (callers : List State) → slice_get cs index ≡ Some thread
    → StartsKnownStack space thread limit true s callers → report ≡ lines_before space limit cs index ++ thread_lines index (s ∷ callers) ++ lines_after space limit cs index in
    if_ok_as c.threads_report.result (threads_text space limit 0 cs) Known c.threads_report.ensures
    (λ index thread s callers at starts. placed_among space limit cs index thread (thread_lines index (s ∷ callers)) at (known_is space limit index thread s callers c.image.ensures.apart c.image.ensures.laid_out starts))
