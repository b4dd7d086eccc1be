-- A stack's frames in their places, one frame after another; where that stops; and why.
use Rattle.std.proofs.Common.{inl, inr, ◌≡◌, ◌≢◌, ℕ, zero, suc, ◌+◌, ◌-◌, ◌<◌, ◌≤◌, Bool, true, false, List, [], ◌∷◌, ◌++◌, length, map, take, drop, set, Some, None, Result, Ok, Err, refl, sym, ap, ◌∙◌, arith, append_assoc, append-nil, length-append}
use Rattle.std.proofs.lemmas.Grind.{take-set_at}
use Rattle.std.proofs.lemmas.List.{drop-set-lt, drop-drop, map-append, take-append-drop, length-set}
use Rattle.format_frames.specs.declared.machine.Stepped.{Stepped}
use Rattle.unwind_arch.specs.declared.x86_64.Context.{Context}
use Rattle.stack_steps.specs.declared.error.DeliverError.{DeliverError}
use Rattle.memory_image.specs.Results.{result_map}
use Rattle.stack_steps.specs.Growing.{advanced_to}
use Rattle.stack_steps.specs.Modules.{SpaceValue}
use Rattle.stack_steps.specs.Stepping.{step_of}
use Rattle.stack_walks.specs.declared.walk_end.EndReason.{EndReason}
use Rattle.stack_walks.specs.declared.walk_end.EndReason.TheVariants.{Outermost, NoModule, NoDescription, UnreadableTable, Refused, Limit}
use Rattle.stack_walks.specs.WalkEnds.{ComesTo, EndsFor, Meets, caller_from}
use Rattle.stack_walks.specs.Lines.{NeedsMore}
use Rattle.kalzurenk_c.specs.declared.told.StackFrame.{StackFrame}
use Rattle.kalzurenk_c.specs.Outward.{ComesAt, IsAt, StopsFor, states_from}
use Rattle.kalzurenk_c.specs.Told.{frame_of, over}

-- ---- the places

-- So many frames stand in their places, those of the states from the start on, and the way goes on from a state.
pub record Way (space : SpaceValue) (limit i : ℕ) (start now : Stepped) (before frames : List StackFrame) : Type 0 where
  pub same : length frames ≡ length before
  pub done : List Stepped
  pub states : done ++ states_from space (limit - i) now ≡ states_from space limit start
  pub count : length done ≡ i
  pub front : take i frames ≡ map frame_of done
  pub rest : drop i frames ≡ drop i before
  pub meets : (t : Stepped) → Meets space (IsAt t) (limit - i) now.context now.signal → Meets space (IsAt t) limit start.context start.signal
  pub more : NeedsMore space (limit - i) now.context now.signal → NeedsMore space limit start.context start.signal

pub way_start : (space : SpaceValue) (limit : ℕ) (s : Stepped) (before : List StackFrame) → Way space limit 0 s s before before
way_start space limit s before =
    let all : limit - 0 ≡ limit = omega arith in
    record {
      same = refl;
      done = [];
      states = ap (λ (n : ℕ). states_from space n s) all;
      count = refl;
      front = refl;
      rest = refl;
      meets = λ t met. rw all at met;
      more = λ more. rw all at more;
    }

-- the states from one on
module _ (space : SpaceValue) (room n : ℕ) (s : Stepped) (turns : room ≡ suc n) where
  states_end : caller_from space s ≡ None → states_from space room s ≡ s ∷ []
  states_end none = rw (turns, none) refl

  states_go : (t : Stepped) → step_of space s.context s.signal ≡ Ok (Some t) → states_from space room s ≡ s ∷ states_from space n t
  states_go t goes = rw (turns, goes) refl

  meets_here : Meets space (IsAt s) room s.context s.signal
  meets_here = rw turns (inl (refl, refl))

  meets_next : (u t : Stepped) → step_of space s.context s.signal ≡ Ok (Some t) → Meets space (IsAt u) n t.context t.signal → Meets space (IsAt u) room s.context s.signal
  meets_next u t goes met = rw turns (inr (t, goes, met))

  more_next : (t : Stepped) → step_of space s.context s.signal ≡ Ok (Some t) → NeedsMore space n t.context t.signal → NeedsMore space room s.context s.signal
  more_next t goes more = rw turns (t, goes, more)

module _ (space : SpaceValue) (limit i : ℕ) (start now : Stepped) (before frames : List StackFrame) (fits : limit ≤ length before) (less : i < limit)
    (way : Way space limit i start now before frames) where
  abbrev placed : List StackFrame
  placed = set frames i (frame_of now)

  turns : limit - i ≡ suc (limit - (i + 1))
  turns = omega arith

  within : i < length frames
  within = let same = way.same in omega arith

  front_more : take (i + 1) placed ≡ map frame_of (way.done ++ now ∷ [])
  front_more = take-set_at frames i (i + 1) (frame_of now) refl within ∙ ap (λ (fs : List StackFrame). fs ++ frame_of now ∷ []) way.front ∙ sym (map-append frame_of way.done (now ∷ []))

  rest_more : drop (i + 1) placed ≡ drop (i + 1) before
  rest_more = drop-set-lt (i + 1) frames i (frame_of now) (omega arith) ∙ sym (drop-drop 1 i frames) ∙ ap (drop 1) way.rest ∙ drop-drop 1 i before

  counted : length (way.done ++ now ∷ []) ≡ i + 1
  counted = length-append way.done (now ∷ []) ∙ ap (λ (n : ℕ). n + 1) way.count

  -- one more, and its caller is next
  pub way_next : (t : Stepped) → step_of space now.context now.signal ≡ Ok (Some t) → Way space limit (i + 1) start t before (set frames i (frame_of now))
  way_next t goes = record {
    same = length-set frames i (frame_of now) ∙ way.same;
    done = way.done ++ now ∷ [];
    states = append_assoc way.done (now ∷ []) (states_from space (limit - (i + 1)) t) ∙ ap (λ (ss : List Stepped). way.done ++ ss) (sym (states_go space (limit - i) (limit - (i + 1)) now turns t goes)) ∙ way.states;
    count = counted;
    front = front_more;
    rest = rest_more;
    meets = λ u met. way.meets u (meets_next space (limit - i) (limit - (i + 1)) now turns u t goes met);
    more = λ more. way.more (more_next space (limit - i) (limit - (i + 1)) now turns t goes more);
  }

  -- the last one, which has no caller
  module _ (none : caller_from space now ≡ None) where
    last_states : way.done ++ now ∷ [] ≡ states_from space limit start
    last_states = ap (λ (ss : List Stepped). way.done ++ ss) (sym (states_end space (limit - i) (limit - (i + 1)) now turns none)) ∙ way.states

    pub last_count : i + 1 ≡ length (states_from space limit start)
    last_count = sym counted ∙ ap length last_states

    pub last_placed : set frames i (frame_of now) ≡ over (states_from space limit start) before
    last_placed = sym (take-append-drop (i + 1) placed) ∙ ap (λ (fs : List StackFrame). fs ++ drop (i + 1) placed) (front_more ∙ ap (map frame_of) last_states)
        ∙ ap (λ (fs : List StackFrame). map frame_of (states_from space limit start) ++ fs) (rest_more ∙ ap (λ (n : ℕ). drop n before) last_count)

    pub last_met : Meets space (IsAt now) limit start.context start.signal
    last_met = way.meets now (meets_here space (limit - i) (limit - (i + 1)) now turns)

-- as many as there may be
module _ (space : SpaceValue) (limit i : ℕ) (start now : Stepped) (before frames : List StackFrame) (full : i ≡ limit) (way : Way space limit i start now before frames) where
  none_left : limit - i ≡ 0
  none_left = omega arith

  full_states : way.done ≡ states_from space limit start
  full_states = sym (append-nil way.done) ∙ ap (λ (n : ℕ). way.done ++ states_from space n now) (sym none_left) ∙ way.states

  pub full_count : limit ≡ length (states_from space limit start)
  full_count = sym full ∙ sym way.count ∙ ap length full_states

  pub full_placed : frames ≡ over (states_from space limit start) before
  full_placed = sym (take-append-drop i frames) ∙ ap (λ (fs : List StackFrame). fs ++ drop i frames) (way.front ∙ ap (map frame_of) full_states)
      ∙ ap (λ (fs : List StackFrame). map frame_of (states_from space limit start) ++ fs) (way.rest ∙ ap (λ (n : ℕ). drop n before) (full ∙ full_count))

  pub full_more : NeedsMore space limit start.context start.signal
  full_more = way.more (rw none_left tt)

-- ---- what a step answers

pub none_at_end : (space : SpaceValue) (s : Stepped) → step_of space s.context s.signal ≡ Ok None → caller_from space s ≡ None
none_at_end space s ends = rw ends refl

pub none_at_fault : (space : SpaceValue) (s : Stepped) (e : DeliverError) → step_of space s.context s.signal ≡ Err e → caller_from space s ≡ None
none_at_fault space s e fails = rw fails refl

module _ (space stepper : SpaceValue) (now next : Stepped) (same : stepper ≡ space) where
  pub goes : result_map (advanced_to next) (Ok true) ≡ step_of stepper now.context now.signal → step_of space now.context now.signal ≡ Ok (Some next)
  goes step = rw (← same) (sym step)

  pub ends : result_map (advanced_to next) (Ok false) ≡ step_of stepper now.context now.signal → step_of space now.context now.signal ≡ Ok None
  ends step = rw (← same) (sym step)

  pub fails : (e : DeliverError) → result_map (advanced_to next) (Err e) ≡ step_of stepper now.context now.signal → step_of space now.context now.signal ≡ Err e
  fails e step = rw (← same) (sym step)

-- a step that finds no caller is not one that does
pub not_ended : ◌≢◌ {A = Result Bool DeliverError} (Ok false) (Ok true)
not_ended h = absurd cc

pub not_failed : (e : DeliverError) → ◌≢◌ {A = Result Bool DeliverError} (Err e) (Ok true)
not_failed e h = absurd cc

-- where it stops, in the words of the state that is left
pub stop_at : (space : SpaceValue) (limit : ℕ) (start now left : Stepped) → left ≡ now → Meets space (IsAt now) limit start.context start.signal → Meets space (IsAt left) limit start.context start.signal
stop_at space limit start now left same met = rw same met

-- ---- why there are no more

-- what is so of the state that is met last is met
pub meets_as : (space : SpaceValue) (t : Stepped) (P : Context → Bool → Type 0) → P t.context t.signal → (room : ℕ) (c : Context) (interrupted : Bool) → Meets space (IsAt t) room c interrupted → Meets space P room c interrupted
meets_as space t P is zero c interrupted met = met
meets_as space t P is (suc room) c interrupted (inl at) = inl (rw (at.0, at.1) is)
meets_as space t P is (suc room) c interrupted (inr met) = inr (met.0, met.1, meets_as space t P is room met.0.context met.0.signal met.2)

pub comes_for : (space : SpaceValue) (t : Stepped) (limit : ℕ) (s : Stepped) (why : EndReason) → EndsFor why space t.context t.signal → Meets space (IsAt t) limit s.context s.signal → ComesTo why space limit s.context s.signal
comes_for space t limit s Outermost ends met = meets_as space t (EndsFor Outermost space) ends limit s.context s.signal met
comes_for space t limit s (NoModule a) ends met = meets_as space t (EndsFor (NoModule a) space) ends limit s.context s.signal met
comes_for space t limit s (NoDescription a) ends met = meets_as space t (EndsFor (NoDescription a) space) ends limit s.context s.signal met
comes_for space t limit s (UnreadableTable a offset e) ends met = meets_as space t (EndsFor (UnreadableTable a offset e) space) ends limit s.context s.signal met
comes_for space t limit s (Refused a e) ends met = meets_as space t (EndsFor (Refused a e) space) ends limit s.context s.signal met
comes_for space t limit s Limit ends met = absurd ends

pub stop_comes : (space : SpaceValue) (limit : ℕ) (s t : Stepped) (last : Result Bool DeliverError) (why : EndReason) → ComesAt last space limit s t → StopsFor last why space t → ComesTo why space limit s.context s.signal
stop_comes space limit s t (Ok true) why more is = rw is more
stop_comes space limit s t (Ok false) why met is = comes_for space t limit s why is met
stop_comes space limit s t (Err e) why met is = comes_for space t limit s why is met
