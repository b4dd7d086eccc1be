-- The lines of threads.
use Rattle.std.proofs.Common.{◌≡◌, ℕ, zero, suc, ◌+◌, List, [], ◌∷◌, ◌++◌, take, drop, slice_get, Some, Result, Ok, Err, true, Bool, ◌≤◌, length, refl, sym, ap, subst, ◌∙◌, append_assoc, arith}
use Rattle.std.specs.Prelude.{codes, IfOk, IsTrue}
use Rattle.std.specs.Fmt.{decimal}
use Rattle.memory_image.specs.Image.{IsLaidOut}
use Rattle.unwind_arch.specs.declared.x86_64.Context.{Context}
use Rattle.unwind_definitions.specs.State.{State}
use Rattle.unwind_definitions.specs.Function.{Function}
use Rattle.unwind_definitions.specs.Chain.{Call, states_of}
use Rattle.stack_steps.specs.Modules.{SpaceValue, AreApart}
use Rattle.stack_steps.specs.Stopped.{StartsStopped}
use Rattle.stack_steps.specs.declared.error.DeliverError.{DeliverError}
use Rattle.stack_walks.specs.Lines.{line_of}
use Rattle.stack_walks.proofs.StoppedWalk.{stopped_walked}
use Rattle.stack_deliver.proofs.Chains.{shown_states}
use Rattle.stack_snapshot.specs.Cores.{CoreContent, core_space_of, threads_of}
use Rattle.stack_report.specs.Report.{line, walk_text}
use Rattle.stack_report.proofs.Shows.{walk_shown}
use Rattle.core_walks.specs.MappedWalks.{AreMapped, is_mapped}
use Rattle.core_walks.specs.Lines.{walked_text, thread_text, threads_text, core_report_of, lines_before, lines_after, stopped_text, text_before, text_after}

-- a thread that was stopped in a described function
pub stopped_is : (space : SpaceValue) (limit index : ℕ) (thread : Context) (functions : List Function) (s : State) (call : Call) (calls : List Call) → AreApart 0 space.modules → IsLaidOut 0 space.image
    → StartsStopped space thread limit functions s call calls → thread_text space limit index thread ≡ stopped_text index s (call ∷ calls)
unfolding thread_text
stopped_is space limit index thread functions s call calls apart laid starts =
    let w = stopped_walked space functions s call calls thread apart laid limit starts in
    ap (λ (r : Result (List Context) DeliverError). line (codes "thread " ++ decimal index) ++ walked_text r) w.1
    ∙ ap (λ (text : List ℕ). line (codes "thread " ++ decimal index) ++ text) (walk_shown w.0 ∙ ap walk_text (shown_states w.0 (states_of s (call ∷ calls)) w.2.states))

pub thread_text-same : (space other : SpaceValue) (limit index : ℕ) (c : Context) → line_of space limit c true ≡ line_of other limit c true → thread_text space limit index c ≡ thread_text other limit index c
unfolding thread_text
thread_text-same space other limit index c e = rw e refl

-- spaces with the same lines have the same texts
pub threads_text-same : (space other : SpaceValue) (limit : ℕ) → ((l : ℕ) (c : Context) (interrupted : Bool) → line_of space l c interrupted ≡ line_of other l c interrupted) → (index : ℕ) (cs : List Context) → threads_text space limit index cs ≡ threads_text other limit index cs
threads_text-same space other limit same index [] = refl
threads_text-same space other limit same index (c ∷ cs) =
    let later = threads_text-same space other limit same (index + 1) cs in
    let here = thread_text-same space other limit index c (same limit c true) in
    rw (here, later) refl

-- the texts are the same over a space over which each walk is the same that met nothing unmapped
pub threads_mapped : (part whole : SpaceValue) (limit : ℕ) → ((c : Context) → IsTrue (is_mapped (line_of part limit c true)) → line_of whole limit c true ≡ line_of part limit c true)
    → (index : ℕ) (cs : List Context) → AreMapped part limit cs → threads_text whole limit index cs ≡ threads_text part limit index cs
threads_mapped part whole limit same index [] mapped = refl
threads_mapped part whole limit same index (c ∷ cs) mapped =
    let later = threads_mapped part whole limit same (index + 1) cs mapped.1 in
    let here = thread_text-same whole part limit index c (same c mapped.0) in
    rw (here, later) refl

-- the texts of threads, taken apart at one of them
threads_split : (space : SpaceValue) (limit from : ℕ) (cs : List Context) (i : ℕ) (c : Context) → slice_get cs i ≡ Some c →
    threads_text space limit from cs ≡ threads_text space limit from (take i cs) ++ thread_text space limit (from + i) c ++ threads_text space limit (from + i + 1) (drop (suc i) cs)
threads_split space limit from [] i c e = absurd cc
threads_split space limit from (d ∷ ds) zero c e =
    let same : d ≡ c = cc in
    let place : from ≡ from + 0 = omega arith in
    ap (λ (x : Context). thread_text space limit from x ++ threads_text space limit (from + 1) ds) same ∙ ap (λ n. thread_text space limit n c ++ threads_text space limit (n + 1) ds) place
threads_split space limit from (d ∷ ds) (suc i) c e =
    let at = thread_text space limit from d in
    let before = threads_text space limit (from + 1) (take i ds) in
    let here = thread_text space limit (from + 1 + i) c in
    let after = threads_text space limit (from + 1 + i + 1) (drop (suc i) ds) in
    let place : from + 1 + i ≡ from + suc i = omega arith in
    ap (λ t. at ++ t) (threads_split space limit (from + 1) ds i c e)
    ∙ sym (append_assoc at (before ++ here) after)
    ∙ ap (λ t. t ++ after) (sym (append_assoc at before here))
    ∙ ap (λ n. at ++ before ++ thread_text space limit n c ++ threads_text space limit (n + 1) (drop (suc i) ds)) place

-- what is written of threads has the lines of one in their place
pub placed_among : (space : SpaceValue) (limit : ℕ) (cs : List Context) (index : ℕ) (thread : Context) (lines : List ℕ) → slice_get cs index ≡ Some thread → thread_text space limit index thread ≡ lines →
    threads_text space limit 0 cs ≡ lines_before space limit cs index ++ lines ++ lines_after space limit cs index
placed_among space limit cs index thread lines at is =
    let text : ℕ → List ℕ = λ n. thread_text space limit n thread in
    let others : ℕ → ℕ → List ℕ = λ n m. threads_text space limit n (drop m cs) in
    let before = lines_before space limit cs index in
    let after = lines_after space limit cs index in
    let from : 0 + index ≡ index = omega arith in
    let next : suc index ≡ index + 1 = omega arith in
    threads_split space limit 0 cs index thread at
    ∙ ap (λ n. before ++ text n ++ others (n + 1) (suc index)) from
    ∙ ap (λ n. before ++ text index ++ others (index + 1) n) next
    ∙ ap (λ t. before ++ t ++ after) is

-- so has what is written of a core file
pub placed : (c : CoreContent) (index : ℕ) (thread : Context) (text : List ℕ) → slice_get (threads_of c.file) index ≡ Some thread → thread_text (core_space_of c) c.limit index thread ≡ text →
    core_report_of c ≡ text_before c index ++ text ++ text_after c index
unfolding core_report_of
placed c index thread lines at is = placed_among (core_space_of c) c.limit (threads_of c.file) index thread lines at is

pub stopped_place : (c : CoreContent) (index : ℕ) (thread : Context) (functions : List Function) (s : State) (call : Call) (calls : List Call) → AreApart 0 (core_space_of c).modules → IsLaidOut 0 (core_space_of c).image
    → slice_get (threads_of c.file) index ≡ Some thread → StartsStopped (core_space_of c) thread c.limit functions s call calls → core_report_of c ≡ text_before c index ++ stopped_text index s (call ∷ calls) ++ text_after c index
stopped_place c index thread functions s call calls apart laid at starts = placed c index thread (stopped_text index s (call ∷ calls)) at (stopped_is (core_space_of c) c.limit index thread functions s call calls apart laid starts)

-- the texts so far and those of what is left
pub text_next : (text : List ℕ) (space : SpaceValue) (limit index : ℕ) (c : Context) (cs : List Context) → text ++ thread_text space limit index c ++ threads_text space limit (index + 1) cs ≡ text ++ threads_text space limit index (c ∷ cs)
text_next text space limit index c cs = append_assoc text (thread_text space limit index c) (threads_text space limit (index + 1) cs)

-- a thread has a line
pub thread_text-some : (space : SpaceValue) (limit index : ℕ) (c : Context) → 1 ≤ length (thread_text space limit index c)
unfolding thread_text
thread_text-some space limit index c = omega arith

pub same_report : {E : Type 0} (r : Result (List ℕ) E) (a b : List ℕ) → IfOk r (λ x. x ≡ a) → a ≡ b → IfOk r (λ x. x ≡ b)
same_report (Ok x) a b is e = is ∙ e
same_report (Err x) a b is e = tt

-- what holds of a report's text holds of the report
pub if_ok_as : {E : Type 0} (r : Result (List ℕ) E) (x : List ℕ) (P : List ℕ → Type 0) → IfOk r (λ y. y ≡ x) → P x → IfOk r P
if_ok_as (Ok y) x P is p = subst P (sym is) p
if_ok_as (Err e) x P is p = tt
