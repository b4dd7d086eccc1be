-- The lines of a thread that begins a known stack.
use Rattle.std.proofs.Common.{◌≡◌, ℕ, List, ◌∷◌, ◌++◌, Some, slice_get, true, Result, ap, ◌∙◌}
use Rattle.std.specs.Prelude.{codes}
use Rattle.std.specs.Fmt.{decimal}
use Rattle.memory_image.specs.Image.{IsLaidOut}
use Rattle.unwind_arch.specs.declared.x86_64.Context.{Context}
use Rattle.unwind_definitions.specs.State.{State}
use Rattle.stack_steps.specs.Modules.{SpaceValue, AreApart}
use Rattle.stack_steps.specs.declared.error.DeliverError.{DeliverError}
use Rattle.stack_walks.specs.KnownWalks.{StartsKnownStack}
use Rattle.stack_walks.proofs.KnownLines.{known_walked}
use Rattle.stack_deliver.proofs.Chains.{shown_states}
use Rattle.stack_snapshot.specs.Cores.{CoreContent, core_space_of, threads_of}
use Rattle.stack_report.specs.Report.{line, walk_text}
use Rattle.stack_report.proofs.Shows.{walk_shown}
use Rattle.core_walks.specs.Lines.{walked_text, thread_text, core_report_of, text_before, text_after}
use Rattle.core_walks.specs.ThreadLines.{thread_lines}
use Rattle.core_walks.proofs.ThreadText.{placed}

pub known_is : (space : SpaceValue) (limit index : ℕ) (thread : Context) (s : State) (callers : List State) → AreApart 0 space.modules → IsLaidOut 0 space.image
    → StartsKnownStack space thread limit true s callers → thread_text space limit index thread ≡ thread_lines index (s ∷ callers)
unfolding thread_text
known_is space limit index thread s callers apart laid starts =
    let w = known_walked space apart laid thread limit true s callers starts in
    ap (λ (r : Result (List Context) DeliverError). line (codes "thread " ++ decimal index) ++ walked_text r) w.1
    ∙ ap (λ (text : List ℕ). line (codes "thread " ++ decimal index) ++ text) (walk_shown w.0 ∙ ap walk_text (shown_states w.0 (s ∷ callers) w.2.each))

-- they stand in their place in what is written of the core file
pub known_place : (c : CoreContent) (index : ℕ) (thread : Context) (s : State) (callers : List State) → AreApart 0 (core_space_of c).modules → IsLaidOut 0 (core_space_of c).image
    → slice_get (threads_of c.file) index ≡ Some thread → StartsKnownStack (core_space_of c) thread c.limit true s callers → core_report_of c ≡ text_before c index ++ thread_lines index (s ∷ callers) ++ text_after c index
known_place c index thread s callers apart laid at starts = placed c index thread (thread_lines index (s ∷ callers)) at (known_is (core_space_of c) c.limit index thread s callers apart laid starts)
