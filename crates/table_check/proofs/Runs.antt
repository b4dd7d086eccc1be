-- Steps of a prologue that are run one after another.
use Rattle.std.proofs.Common.{◌≡◌, ℕ, suc, ◌+◌, ◌<◌, ◌≤◌, List, [], ◌∷◌, ◌++◌, length, map, drop, get_or, Option, Some, None, refl, sym, ap, subst, ◌∙◌, arith, append_assoc}
use Rattle.std.proofs.Math.Numerals.{suc-eq-add-one}
use Rattle.std.proofs.lemmas.List.{append-nil}
use Rattle.unwind_definitions.specs.Prologue.{PrologueStep, Step}
use Rattle.unwind_definitions.specs.DescribedRows.{ended_by}
use Rattle.table_check.specs.declared.claims.ClaimedStep.{ClaimedStep}
use Rattle.table_check.specs.declared.running.RunningFrame.{RunningFrame}
use Rattle.table_check.specs.ClaimViews.{prologue_step_of}
use Rattle.table_check.specs.Frames.{IsFrameAfter, MayBeNext, MayGoOn}
use Rattle.frame_rows.specs.Walks.{IsBefore}
use Rattle.table_check.specs.Running.{IsRunning, first_end, next_end_of}
use Rattle.table_check.proofs.GoneThrough.{left_is, none_left}
use Rattle.table_check.proofs.Prologues.{ended_none, ended_not, ended_one}

pub runs_longer : (r : RunningFrame) (low high : ℕ) (steps : List ClaimedStep) → low ≤ high → IsRunning r low steps → IsRunning r high steps
runs_longer r low high steps le is = record { before = is.before; last = is.last; frame = is.frame; reached = (let a = is.reached in omega (arith, a, le)); goes_on = is.goes_on; ended = is.ended }

module _ (r : RunningFrame) (offset : ℕ) (steps : List ClaimedStep) (is : IsRunning r offset steps) where
  -- all have run
  pub all_run : length steps ≤ r.taken → IsFrameAfter r.frame (ended_by offset (map prologue_step_of steps))
  all_run over =
      let none : ended_by offset (map prologue_step_of (drop r.taken steps)) ≡ [] = ap (ended_by offset) (none_left prologue_step_of steps r.taken over) in
      subst (IsFrameAfter r.frame) (sym (is.ended offset is.reached ∙ ap (λ l. is.before ++ l) none ∙ append-nil is.before)) is.frame

  module _ (i : ℕ) (at : r.taken ≡ i) (d : ClaimedStep) (there : i < length steps) where
    abbrev p : PrologueStep
    p = prologue_step_of (get_or steps i d)

    abbrev rest : List PrologueStep
    rest = map prologue_step_of (drop (suc i) steps)

    left : map prologue_step_of (drop r.taken steps) ≡ p ∷ rest
    left = ap (λ n. map prologue_step_of (drop n steps)) at ∙ left_is prologue_step_of steps i d there

    on : MayGoOn is.last is.before (p ∷ rest)
    on = subst (MayGoOn is.last is.before) left is.goes_on

    -- the next one hasn't ended
    pub next_later : offset < p.end → IsFrameAfter r.frame (ended_by offset (map prologue_step_of steps))
    next_later past =
        let none = ended_not offset p rest past ∙ ended_none offset p.end (is.before ++ p.step ∷ []) rest past on.2 in
        subst (IsFrameAfter r.frame) (sym (is.ended offset is.reached ∙ ap (λ l. is.before ++ ended_by offset l) left ∙ ap (λ l. is.before ++ l) none ∙ append-nil is.before)) is.frame

    pub next_may : MayBeNext is.before p.step
    next_may = on.1

    -- the next one runs
    pub next_runs : (new : RunningFrame) → new.taken ≡ i + 1 → IsFrameAfter new.frame (is.before ++ p.step ∷ []) → p.end ≤ offset → IsRunning new offset steps
    next_runs new taken frame past =
        let one : suc i ≡ new.taken = suc-eq-add-one i ∙ sym taken in
        let low = on.0 in
        record {
          before = is.before ++ p.step ∷ [];
          last = p.end;
          frame = frame;
          reached = past;
          goes_on = subst (λ n. MayGoOn p.end (is.before ++ p.step ∷ []) (map prologue_step_of (drop n steps))) one on.2;
          ended = λ o le. is.ended o (omega (arith, le, low)) ∙ ap (λ l. is.before ++ ended_by o l) left ∙ ap (λ l. is.before ++ l) (ended_one o p rest le) ∙ sym (append_assoc is.before (p.step ∷ []) (ended_by o rest))
              ∙ ap (λ n. (is.before ++ p.step ∷ []) ++ ended_by o (map prologue_step_of (drop n steps))) one;
        }

-- none of the steps that are left has ended before the first of them
left_none : (o last : ℕ) (before : List Step) (ps : List PrologueStep) → MayGoOn last before ps → IsBefore o (first_end ps) → ended_by o ps ≡ []
left_none o last before [] on past = refl
left_none o last before (p ∷ ps) on past = ended_not o p ps past ∙ ended_none o p.end (before ++ p.step ∷ []) ps past on.2

sooner : (low o : ℕ) (end : Option ℕ) → low ≤ o → IsBefore o end → IsBefore low end
sooner low o None le past = tt
sooner low o (Some end) le past = omega (arith, le, past)

-- up to the end of the next step the same ones have ended
pub ended_still : (r : RunningFrame) (low o : ℕ) (steps : List ClaimedStep) → IsRunning r low steps → low ≤ o → IsBefore o (next_end_of r steps) → ended_by o (map prologue_step_of steps) ≡ ended_by low (map prologue_step_of steps)
ended_still r low o steps is le past =
    let reached = is.reached in
    all_before o (omega (arith, reached, le)) past ∙ sym (all_before low reached (sooner low o (next_end_of r steps) le past))
  where
    all_before : (x : ℕ) → is.last ≤ x → IsBefore x (next_end_of r steps) → ended_by x (map prologue_step_of steps) ≡ is.before
    all_before x from below = is.ended x from ∙ ap (λ l. is.before ++ l) (left_none x is.last is.before (map prologue_step_of (drop r.taken steps)) is.goes_on below) ∙ append-nil is.before

-- which step is the next
pub next_at : (r : RunningFrame) (steps : List ClaimedStep) (i : ℕ) → r.taken ≡ i → (d : ClaimedStep) → i < length steps → next_end_of r steps ≡ Some (get_or steps i d).end
next_at r steps i at d there = ap (λ n. first_end (map prologue_step_of (drop n steps))) at ∙ ap first_end (left_is prologue_step_of steps i d there)

pub no_next : (r : RunningFrame) (steps : List ClaimedStep) → length steps ≤ r.taken → next_end_of r steps ≡ None
no_next r steps over = ap first_end (none_left prologue_step_of steps r.taken over)
