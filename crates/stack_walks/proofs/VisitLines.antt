-- One turn on the way outwards: what it leaves.
use Rattle.std.proofs.Common.{◌≡◌, ℕ, zero, suc, ◌+◌, length, length-append, Bool, true, false, List, [], ◌∷◌, ◌++◌, Option, Some, None, Result, Ok, Err, refl, sym, ap, ◌∙◌, append_assoc, arith}
use Rattle.stack_steps.specs.declared.asking.FrameAction.{FrameAction}
use Rattle.unwind_arch.specs.declared.x86_64.Context.{Context}
use Rattle.format_frames.specs.declared.machine.Stepped.{Stepped}
use Rattle.stack_steps.specs.declared.error.DeliverError.{DeliverError}
use Rattle.stack_walks.specs.declared.unwind.Stop.{Stop as CodeStop}
use Rattle.stack_walks.specs.declared.unwind.FrameVisit.TheVariants as code
use Rattle.stack_steps.specs.Modules.{SpaceValue}
use Rattle.memory_image.specs.Results.{◌>>=◌, result_map}
use Rattle.stack_steps.specs.Frames.{FrameAt}
use Rattle.stack_steps.specs.Stepping.{frame_of, caller_by, caller_at, step_of}
use Rattle.stack_walks.specs.Lines.{with_first, line_after, line_of}
use Rattle.stack_walks.specs.Walking.{RoomValue, IsWalked}
use Rattle.stack_walks.specs.FrameVisits.{Line, Pass, Stop, Ends, Goes, visit_in, visit_for, line_visit, with_context, line_for}
use Rattle.stack_walks.specs.VisitViews.{with_contexts, visit_shown, line_shown, AreVisited, IsUnwinding, visited_with}

-- where a pass stops, without the contexts
abbrev pub stop_in : Result Line DeliverError → Result (Option Stop) DeliverError
stop_in (Ok line) = Ok line.stop
stop_in (Err e) = Err e

-- ---- a turn on the way outwards

-- a context more in front
front_first : (front : List Context) (c : Context) (r : Result Line DeliverError) → with_contexts front (with_context c r) ≡ with_contexts (front ++ c ∷ []) r
front_first front c (Ok line) = ap (λ (contexts : List Context). ok (record line { contexts = contexts })) (sym (append_assoc front (c ∷ []) line.contexts))
  where
    ok : Line → Result Line DeliverError
    ok x = Ok x
front_first front c (Err e) = refl

-- no contexts in front
pub no_contexts : (r : Result Line DeliverError) → with_contexts [] r ≡ r
no_contexts (Ok line) = refl
no_contexts (Err e) = refl

abbrev pub stop_at : Context → Bool → FrameAction → Context → Stop
stop_at c interrupted action past = record { context = c; interrupted = interrupted; action = action; past = past }

module _ (pass : Option Pass) (space : SpaceValue) (room n : ℕ) (at : Stepped) (front : List Context) (whole : Result Line DeliverError) (turns : room ≡ suc n)
    (is : with_contexts front (line_for pass space room at.context at.signal) ≡ whole) where
  turned : with_contexts front (line_visit at.context at.signal (visit_for pass space at.context at.signal) (line_for pass space n)) ≡ whole
  turned = rw turns at is

  pub line_faults : (e : DeliverError) → visit_for pass space at.context at.signal ≡ Err e → whole ≡ Err e
  line_faults e fails = sym (rw fails at turned)

  pub line_ends : (state : Stepped) → visit_for pass space at.context at.signal ≡ Ok Ends → whole ≡ Ok (line_shown (front ++ at.context ∷ []) state None)
  line_ends state ends = sym (rw ends at turned)

  pub line_stops : (state : Stepped) (action : FrameAction) (arguments : ℕ) → state ≡ at → visit_for pass space at.context at.signal ≡ Ok (visit_shown state (code.Stop action arguments)) →
      whole ≡ Ok (line_shown (front ++ at.context ∷ []) state (Some (record { action = action; arguments = arguments })))
  line_stops state action arguments same stops = rw same (sym (rw (stops, same) at turned))

  pub line_goes : (next : Stepped) → visit_for pass space at.context at.signal ≡ Ok (Goes next) → with_contexts (front ++ at.context ∷ []) (line_for pass space n next.context next.signal) ≡ whole
  line_goes next goes = sym (front_first front at.context (line_for pass space n next.context next.signal)) ∙ rw goes at turned

-- ---- the contexts that are visited

pub start_visited : (b : Bool) (room : RoomValue) → (b ≡ true → room.visited ≡ []) → AreVisited b room []
start_visited true room empty = empty refl
start_visited false room empty = tt

pub more_visited : (b : Bool) (room : RoomValue) (c : Context) (front : List Context) → AreVisited b room front → AreVisited b (visited_with b room c) (front ++ c ∷ [])
more_visited true room c front are = ap (λ (contexts : List Context). contexts ++ c ∷ []) are
more_visited false room c front are = tt

pub unvisited : (b : Bool) (room : RoomValue) (c : Context) → b ≡ false → visited_with b room c ≡ room
unvisited true room c is = absurd cc
unvisited false room c is = refl

pub visited_count : (b : Bool) (room : RoomValue) (c : Context) (n : ℕ) → (b ≡ true → length room.visited ≡ n) → b ≡ true → length (visited_with b room c).visited ≡ n + 1
visited_count true room c n counted is = let before : length room.visited ≡ n = counted refl in rw (length-append room.visited (c ∷ [])) (omega arith)
visited_count false room c n counted is = absurd cc

pub visited_keeps : (b : Bool) (room : RoomValue) (c : Context) → ((visited_with b room c).trail ≡ room.trail) × ((visited_with b room c).limit ≡ room.limit)
visited_keeps true room c = (refl, refl)
visited_keeps false room c = (refl, refl)

-- ---- a walk

contexts_first : (c : Context) (r : Result Line DeliverError) → result_map (λ (line : Line). line.contexts) (with_context c r) ≡ with_first c (result_map (λ (line : Line). line.contexts) r)
contexts_first c (Ok line) = refl
contexts_first c (Err e) = refl

-- a walk's contexts are the line
pub walk_line : (space : SpaceValue) (room : ℕ) (c : Context) (interrupted : Bool) → result_map (λ (line : Line). line.contexts) (line_for None space room c interrupted) ≡ line_of space room c interrupted
unfolding visit_for step_of
walk_line space zero c interrupted = refl
walk_line space (suc room) c interrupted = go (frame_of space c interrupted) (λ next. walk_line space room next.context next.signal)
  where
    called : ((next : Stepped) → result_map (λ (line : Line). line.contexts) (line_for None space room next.context next.signal) ≡ line_of space room next.context next.signal) → (r : Result Stepped DeliverError) →
        result_map (λ (line : Line). line.contexts) (line_visit c interrupted (result_map Goes r) (line_for None space room)) ≡ line_after c (result_map Some r) (line_of space room)
    called outer (Ok next) = contexts_first c (line_for None space room next.context next.signal) ∙ ap (with_first c) (outer next)
    called outer (Err e) = refl

    go : (r : Result (Option FrameAt) DeliverError) → ((next : Stepped) → result_map (λ (line : Line). line.contexts) (line_for None space room next.context next.signal) ≡ line_of space room next.context next.signal) →
        result_map (λ (line : Line). line.contexts) (line_visit c interrupted (r >>= visit_in None space.image c interrupted) (line_for None space room)) ≡ line_after c (r >>= caller_at space.image c) (line_of space room)
    go (Ok None) outer = refl
    go (Ok (Some f)) outer = called outer (caller_by space.image c f)
    go (Err e) outer = refl

-- a walk's answer
pub walked_by : (r : Result (Option CodeStop) DeliverError) (room : RoomValue) (state : Stepped) (due : Result Line DeliverError) (line : Result (List Context) DeliverError) → IsUnwinding true r room state due → result_map (λ (l : Line). l.contexts) due ≡ line → IsWalked r room line
walked_by (Ok stop) room state due line out is = sym is ∙ ap (result_map (λ (l : Line). l.contexts)) out.1 ∙ ap Ok (sym out.2)
walked_by (Err e) room state due line out is = sym is ∙ ap (result_map (λ (l : Line). l.contexts)) out
