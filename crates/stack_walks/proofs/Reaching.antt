-- How far the way outwards comes, turn by turn.
use Rattle.std.proofs.Common.{◌≡◌, ℕ, zero, suc, Bool, List, [], ◌∷◌, ◌++◌, Option, Some, None, Result, Ok, Err, refl, sym, ap, subst, ◌∙◌, append_assoc, append-nil}
use Rattle.stack_steps.specs.declared.asking.FrameAction.{FrameAction}
use Rattle.unwind_arch.specs.declared.x86_64.Context.{Context}
use Rattle.format_frames.specs.declared.machine.Stepped.{Stepped}
use Rattle.stack_steps.specs.declared.error.DeliverError.{DeliverError}
use Rattle.stack_steps.specs.Growing.{advanced_to}
use Rattle.stack_steps.specs.Modules.{SpaceValue}
use Rattle.memory_image.specs.Results.{◌>>=◌, result_map}
use Rattle.stack_steps.specs.Frames.{FrameAt}
use Rattle.stack_steps.specs.Stepping.{frame_of, caller_by, caller_at, step_of}
use Rattle.stack_walks.specs.Walking.{RoomValue}
use Rattle.stack_walks.specs.FrameVisits.{Pass, FrameVisit, Ends, Stops, Goes, visit_in, visit_for}
use Rattle.stack_walks.specs.VisitViews.{AreVisited}
use Rattle.stack_walks.specs.WalkEnds.{Reached, reached_after, reached_by, caller_in, caller_from, caller_turned, turned_from, IsReached}

-- contexts that were met before
abbrev pub met_before : List Context → Reached → Reached
met_before front r = record { contexts = front ++ r.contexts; state = r.state }

abbrev pub reached : List Context → Stepped → Reached
reached contexts s = record { contexts = contexts; state = s }

pub none_met : (r : Reached) → met_before [] r ≡ r
none_met r = refl

front_met : (front : List Context) (c : Context) (r : Reached) → met_before front (reached (c ∷ r.contexts) r.state) ≡ met_before (front ++ c ∷ []) r
front_met front c r = ap (λ (contexts : List Context). reached contexts r.state) (sym (append_assoc front (c ∷ []) r.contexts))

module _ (next : Stepped → Option Stepped) (room n : ℕ) (s : Stepped) (front : List Context) (whole : Reached) (turns : room ≡ suc n)
    (is : met_before front (reached_by next room s) ≡ whole) where
  turned : met_before front (reached_after s (next s) (reached_by next n)) ≡ whole
  turned = rw turns at is

  pub reached_here : next s ≡ None → whole ≡ reached (front ++ s.context ∷ []) s
  reached_here ends = sym (rw ends at turned)

  pub reached_next : (t : Stepped) → next s ≡ Some t → met_before (front ++ s.context ∷ []) (reached_by next n t) ≡ whole
  reached_next t goes = sym (front_met front s.context (reached_by next n t)) ∙ rw goes at turned

-- ---- what a turn comes to

module _ (pass : Option Pass) (space : SpaceValue) (s : Stepped) where
  pub turned_faults : (e : DeliverError) → visit_for pass space s.context s.signal ≡ Err e → turned_from pass space s ≡ None
  turned_faults e is = rw is refl

  pub turned_ends : visit_for pass space s.context s.signal ≡ Ok Ends → turned_from pass space s ≡ None
  turned_ends is = rw is refl

  pub turned_stops : (action : FrameAction) (past : Context) → visit_for pass space s.context s.signal ≡ Ok (Stops action past) → turned_from pass space s ≡ None
  turned_stops action past is = rw is refl

  pub turned_goes : (t : Stepped) → visit_for pass space s.context s.signal ≡ Ok (Goes t) → turned_from pass space s ≡ Some t
  turned_goes t is = rw is refl

-- ---- what is left

-- it goes no further
pub stands : (b : Bool) (room : RoomValue) (state s : Stepped) (front : List Context) (due : Reached) →
    AreVisited b room (front ++ s.context ∷ []) → state ≡ s → due ≡ reached (front ++ s.context ∷ []) s → IsReached b room state due
stands b room state s front due visited same is = rw is (visited, same)

same_visited : (b : Bool) (room : RoomValue) (few many : List Context) → few ≡ many → AreVisited b room few → AreVisited b room many
same_visited b room few many same visited = subst (AreVisited b room) same visited

-- there are as many contexts as there may be
pub reached_limit : (next : Stepped → Option Stepped) (b : Bool) (room : RoomValue) (s : Stepped) (front : List Context) (due : Reached) (left : ℕ) → left ≡ 0 →
    AreVisited b room front → met_before front (reached_by next left s) ≡ due → IsReached b room s due
reached_limit next b room s front due left none visited is =
    let at_end : reached (front ++ []) s ≡ due = rw none at is in
    rw (← at_end) (same_visited b room front (front ++ []) (sym (append-nil front)) visited, refl)

-- ---- a walk's turns are its steps

pub turned_called : (space : SpaceValue) (s : Stepped) → turned_from None space s ≡ caller_from space s
unfolding visit_for step_of
turned_called space s = go (frame_of space s.context s.signal)
  where
    called : (r : Result Stepped DeliverError) → caller_turned (result_map Goes r) ≡ caller_in (result_map Some r)
    called (Ok t) = refl
    called (Err e) = refl

    go : (r : Result (Option FrameAt) DeliverError) → caller_turned (r >>= visit_in None space.image s.context s.signal) ≡ caller_in (r >>= caller_at space.image s.context)
    go (Ok None) = refl
    go (Ok (Some f)) = called (caller_by space.image s.context f)
    go (Err e) = refl

-- what a walk meets, by a step
abbrev pub turn_to : Option Stepped → FrameVisit
turn_to None = Ends
turn_to (Some s) = Goes s

visit_steps : (space : SpaceValue) (c : Context) (interrupted : Bool) → visit_for None space c interrupted ≡ result_map turn_to (step_of space c interrupted)
unfolding visit_for step_of
visit_steps space c interrupted = go (frame_of space c interrupted)
  where
    called : (r : Result Stepped DeliverError) → result_map Goes r ≡ result_map turn_to (result_map Some r)
    called (Ok t) = refl
    called (Err e) = refl

    go : (r : Result (Option FrameAt) DeliverError) → (r >>= visit_in None space.image c interrupted) ≡ result_map turn_to (r >>= caller_at space.image c)
    go (Ok None) = refl
    go (Ok (Some f)) = called (caller_by space.image c f)
    go (Err e) = refl

-- and by what a step in place answers
pub visit_advanced : (space stepper : SpaceValue) (s next : Stepped) (r : Result Bool DeliverError) → stepper ≡ space → result_map (advanced_to next) r ≡ step_of stepper s.context s.signal →
    visit_for None space s.context s.signal ≡ result_map turn_to (result_map (advanced_to next) r)
visit_advanced space stepper s next r same steps =
    visit_steps space s.context s.signal ∙ ap (result_map turn_to) (ap (λ (sp : SpaceValue). step_of sp s.context s.signal) (sym same) ∙ sym steps)

-- the same next states lead as far
pub same_reached : (f g : Stepped → Option Stepped) → ((s : Stepped) → f s ≡ g s) → (room : ℕ) (s : Stepped) → reached_by f room s ≡ reached_by g room s
same_reached f g same zero s = refl
same_reached f g same (suc room) s = rw (same s) (go (λ t. same_reached f g same room t) (g s))
  where
    go : ((t : Stepped) → reached_by f room t ≡ reached_by g room t) → (o : Option Stepped) → reached_after s o (reached_by f room) ≡ reached_after s o (reached_by g room)
    go later None = refl
    go later (Some t) = ap (λ (r : Reached). reached (s.context ∷ r.contexts) r.state) (later t)
