-- How many contexts are met on the way outwards, turn by turn.
use Rattle.std.proofs.Common.{◌≡◌, ℕ, zero, suc, ◌+◌, ◌≤◌, Bool, List, [], ◌∷◌, ◌++◌, length, Option, Some, None, Result, Ok, Err, refl, sym, ap, ◌∙◌, arith, length-append, append-nil}
use Rattle.unwind_arch.specs.declared.x86_64.Context.{Context}
use Rattle.format_frames.specs.declared.machine.Stepped.{Stepped}
use Rattle.stack_steps.specs.declared.error.DeliverError.{DeliverError}
use Rattle.stack_steps.specs.Modules.{SpaceValue}
use Rattle.stack_walks.specs.WalkEnds.{Reached, reached_after, reached_by, caller_from, caller_turned, start_state, turned_from, contexts_to_end}
use Rattle.stack_walks.specs.FrameVisits.{Line, Pass, FrameVisit, Ends, Stops, Goes, visit_for, with_context, line_visit, line_for}
use Rattle.stack_walks.specs.ContextsMet.{contexts_met}
use Rattle.stack_walks.proofs.Reaching.{reached, met_before, same_reached, turned_called}

-- ---- on the way outwards

-- one more than before, where it goes no further
pub met_here : (whole : Reached) (front : List Context) (s : Stepped) (n : ℕ) → length front ≡ n → whole ≡ reached (front ++ s.context ∷ []) s → length whole.contexts ≡ n + 1
met_here whole front s n counted is = ap (λ (r : Reached). length r.contexts) is ∙ length-append front (s.context ∷ []) ∙ omega arith

-- as many as there may be
pub met_all : (next : Stepped → Option Stepped) (whole : Reached) (front : List Context) (s : Stepped) (n left : ℕ) → length front ≡ n → left ≡ 0 → met_before front (reached_by next left s) ≡ whole → length whole.contexts ≡ n
met_all next whole front s n left counted none is =
    let at_end : reached (front ++ []) s ≡ whole = rw none at is in
    sym (ap (λ (r : Reached). length r.contexts) at_end) ∙ ap length (append-nil front) ∙ counted

few_reached : (next : Stepped → Option Stepped) (room : ℕ) (s : Stepped) → length (reached_by next room s).contexts ≤ room
few_reached next zero s = omega arith
few_reached next (suc room) s = go (next s) (few_reached next room)
  where
    go : (o : Option Stepped) → ((t : Stepped) → length (reached_by next room t).contexts ≤ room) → length (reached_after s o (reached_by next room)).contexts ≤ suc room
    go None few = omega arith
    go (Some t) few = let less = few t in omega arith

-- no more than there may be
pub few_met : (p : Option Pass) (space : SpaceValue) (limit : ℕ) (c : Context) (interrupted : Bool) → contexts_met p space limit c interrupted ≤ limit
few_met p space limit c interrupted = few_reached (turned_from p space) limit (start_state c interrupted)

-- those of a walk
pub walk_met : (space : SpaceValue) (limit : ℕ) (c : Context) (interrupted : Bool) → contexts_met None space limit c interrupted ≡ length (contexts_to_end space limit c interrupted)
walk_met space limit c interrupted = ap (λ (r : Reached). length r.contexts) (same_reached (turned_from None space) (caller_from space) (turned_called space) limit (start_state c interrupted))

-- the contexts of the line
pub line_met : (p : Option Pass) (space : SpaceValue) (room : ℕ) (c : Context) (interrupted : Bool) (line : Line) → line_for p space room c interrupted ≡ Ok line → contexts_met p space room c interrupted ≡ length line.contexts
line_met p space zero c interrupted line is = absurd cc
line_met p space (suc room) c interrupted line is = go (visit_for p space c interrupted) (λ d i l. line_met p space room d i l) is
  where
    some_line : (x y : Line) → ◌≡◌ {A = Result Line DeliverError} (Ok x) (Ok y) → length x.contexts ≡ length y.contexts
    some_line x y e = let same : x ≡ y = cc in ap (λ (l : Line). length l.contexts) same

    on : (next : Stepped) → ((d : Context) (i : Bool) (l : Line) → line_for p space room d i ≡ Ok l → contexts_met p space room d i ≡ length l.contexts) → (r : Result Line DeliverError) → line_for p space room next.context next.signal ≡ r → with_context c r ≡ Ok line → suc (contexts_met p space room next.context next.signal) ≡ length line.contexts
    on next later (Ok l) at e = ap suc (later next.context next.signal l at) ∙ some_line (record l { contexts = c ∷ l.contexts }) line e
    on next later (Err f) at e = absurd cc

    go : (t : Result FrameVisit DeliverError) → ((d : Context) (i : Bool) (l : Line) → line_for p space room d i ≡ Ok l → contexts_met p space room d i ≡ length l.contexts) → line_visit c interrupted t (line_for p space room) ≡ Ok line → length (reached_after (start_state c interrupted) (caller_turned t) (reached_by (turned_from p space) room)).contexts ≡ length line.contexts
    go (Ok Ends) later e = some_line _ line e
    go (Ok (Stops _ _)) later e = some_line _ line e
    go (Ok (Goes next)) later e = on next later (line_for p space room next.context next.signal) refl e
    go (Err f) later e = absurd cc

-- one more than from the caller on
pub met_beyond : (p : Option Pass) (space : SpaceValue) (room n : ℕ) (c : Context) (interrupted : Bool) (next : Stepped) → room ≡ suc n → visit_for p space c interrupted ≡ Ok (Goes next) →
    contexts_met p space room c interrupted ≡ suc (contexts_met p space n next.context next.signal)
met_beyond p space room n c interrupted next turns goes = rw (turns, goes) refl
