-- Walks whose states have their marks, state by state; and without the marks they are walks.
use Rattle.std.proofs.Common.{◌≡◌, ℕ, zero, suc, List, [], ◌∷◌, ◌++◌, map, Option, Some, None, Result, Ok, Err, refl, sym, ap, subst, ◌∙◌, append_assoc}
use Rattle.memory_image.specs.Results.{result_map}
use Rattle.format_frames.specs.declared.machine.Stepped.{Stepped}
use Rattle.stack_steps.specs.declared.error.DeliverError.{DeliverError}
use Rattle.stack_steps.specs.declared.error.DeliverError.TheVariants.{FrameLimit}
use Rattle.stack_steps.specs.Modules.{SpaceValue}
use Rattle.stack_steps.specs.Stepping.{step_of}
use Rattle.stack_walks.specs.Lines.{line_after, line_of, with_first}
use Rattle.named_walks.specs.Marking.{before_line, context_of, marked_after, marked_line_of}

abbrev pub with_front : List Stepped → Result (List Stepped) DeliverError → Result (List Stepped) DeliverError
with_front front = result_map (λ ss. front ++ ss)

pub front_none : (r : Result (List Stepped) DeliverError) → with_front [] r ≡ r
front_none (Ok ss) = refl
front_none (Err e) = refl

front_more : (front : List Stepped) (s : Stepped) (r : Result (List Stepped) DeliverError) → with_front front (before_line s r) ≡ with_front (front ++ s ∷ []) r
front_more front s (Ok ss) = ap (λ (xs : List Stepped). Ok xs) (sym (append_assoc front (s ∷ []) ss))
front_more front s (Err e) = refl

-- what a step answers, put where it stands in the line
stepped : (space stepper : SpaceValue) (front : List Stepped) (n m : ℕ) (s : Stepped) (whole : Result (List Stepped) DeliverError) (r : Result (Option Stepped) DeliverError) → stepper ≡ space → m ≡ suc n
    → with_front front (marked_line_of space m s) ≡ whole → r ≡ step_of stepper s.context s.signal → with_front front (marked_after s r (marked_line_of space n)) ≡ whole
stepped space stepper front n m s whole r over turns line step =
    let here : with_front front (marked_line_of space (suc n) s) ≡ whole = subst (λ (k : ℕ). with_front front (marked_line_of space k s) ≡ whole) turns line in
    let at : r ≡ step_of space s.context s.signal = step ∙ ap (λ (v : SpaceValue). step_of v s.context s.signal) over in
    ap (λ (o : Result (Option Stepped) DeliverError). with_front front (marked_after s o (marked_line_of space n))) at ∙ here

pub marked_faults : (space stepper : SpaceValue) (front : List Stepped) (n m : ℕ) (s : Stepped) (whole : Result (List Stepped) DeliverError) (e : DeliverError) → stepper ≡ space → m ≡ suc n
    → with_front front (marked_line_of space m s) ≡ whole → Err e ≡ step_of stepper s.context s.signal → Err e ≡ whole
marked_faults space stepper front n m s whole e over turns line step = stepped space stepper front n m s whole (Err e) over turns line step

pub marked_ends : (space stepper : SpaceValue) (front : List Stepped) (n m : ℕ) (s : Stepped) (whole : Result (List Stepped) DeliverError) → stepper ≡ space → m ≡ suc n
    → with_front front (marked_line_of space m s) ≡ whole → Ok None ≡ step_of stepper s.context s.signal → Ok (front ++ s ∷ []) ≡ whole
marked_ends space stepper front n m s whole over turns line step = stepped space stepper front n m s whole (Ok None) over turns line step

pub marked_goes : (space stepper : SpaceValue) (front : List Stepped) (n m : ℕ) (s t : Stepped) (whole : Result (List Stepped) DeliverError) → stepper ≡ space → m ≡ suc n
    → with_front front (marked_line_of space m s) ≡ whole → Ok (Some t) ≡ step_of stepper s.context s.signal → with_front (front ++ s ∷ []) (marked_line_of space n t) ≡ whole
marked_goes space stepper front n m s t whole over turns line step =
    sym (front_more front s (marked_line_of space n t)) ∙ stepped space stepper front n m s whole (Ok (Some t)) over turns line step

pub marked_limit : (space : SpaceValue) (front : List Stepped) (m : ℕ) (s : Stepped) (whole : Result (List Stepped) DeliverError) → m ≡ 0 → with_front front (marked_line_of space m s) ≡ whole → Err FrameLimit ≡ whole
marked_limit space front m s whole none line = subst (λ (k : ℕ). with_front front (marked_line_of space k s) ≡ whole) none line

-- ---- without the marks

contexts_before : (s : Stepped) (r : Result (List Stepped) DeliverError) → result_map (map context_of) (before_line s r) ≡ with_first s.context (result_map (map context_of) r)
contexts_before s (Ok ss) = refl
contexts_before s (Err e) = refl

pub without_marks : (space : SpaceValue) (room : ℕ) (s : Stepped) → result_map (map context_of) (marked_line_of space room s) ≡ line_of space room s.context s.signal
without_marks space zero s = refl
without_marks space (suc room) s = go (step_of space s.context s.signal) refl (λ t. without_marks space room t)
  where
    go : (r : Result (Option Stepped) DeliverError) → step_of space s.context s.signal ≡ r → ((t : Stepped) → result_map (map context_of) (marked_line_of space room t) ≡ line_of space room t.context t.signal)
        → result_map (map context_of) (marked_after s r (marked_line_of space room)) ≡ line_after s.context r (line_of space room)
    go (Err e) is more = refl
    go (Ok None) is more = refl
    go (Ok (Some t)) is more = contexts_before s (marked_line_of space room t) ∙ ap (with_first s.context) (more t)
