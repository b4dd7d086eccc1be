-- The frames of a stack of each of whose frames it is known how its caller's state follows.
use Rattle.std.proofs.Common.{◌≡◌, ℕ, zero, suc, ◌<◌, Bool, List, [], ◌∷◌, ◌++◌, length, map, drop, Option, Some, None, Result, Ok, Err, refl, ap, arith}
use Rattle.memory_image.specs.Image.{IsLaidOut}
use Rattle.unwind_definitions.specs.State.{State, Shows, RBX, RBP, R12, R13, R14, R15}
use Rattle.format_frames.specs.declared.machine.Stepped.{Stepped}
use Rattle.unwind_arch.specs.declared.x86_64.Context.{Context}
use Rattle.unwind_arch.specs.ContextViews.{columns_of}
use Rattle.stack_steps.specs.declared.error.DeliverError.{DeliverError}
use Rattle.stack_steps.specs.Modules.{AreApart, SpaceValue}
use Rattle.stack_steps.specs.Stepping.{step_of}
use Rattle.stack_steps.specs.KnownStacks.{IsKnownStack, is_by_signal}
use Rattle.stack_walks.specs.Lines.{line_after, line_of}
use Rattle.stack_walks.specs.KnownWalks.{StartsKnownStack}
use Rattle.stack_walks.proofs.KnownLines.{GoesTo, known_walked, link_step}
use Rattle.kalzurenk_c.specs.declared.told.StackFrame.{StackFrame}
use Rattle.kalzurenk_c.specs.Outward.{states_from}
use Rattle.kalzurenk_c.specs.Told.{frame_known, frame_of, frames_known, over}

-- a state's frame is the one that its context and its mark show
shown_frame : (t : Stepped) (s : State) (interrupted : Bool) → Shows (columns_of t.context) s → t.signal ≡ interrupted → frame_of t ≡ frame_known interrupted s
shown_frame t s interrupted shows marked =
    let ra : columns_of t.context 16 ≡ Some s.ra = shows.ra in
    let sp : columns_of t.context 7 ≡ Some s.sp = shows.sp in
    let rbx : columns_of t.context 3 ≡ Some s.rbx = shows.saved RBX in
    let rbp : columns_of t.context 6 ≡ Some s.rbp = shows.saved RBP in
    let r12 : columns_of t.context 12 ≡ Some s.r12 = shows.saved R12 in
    let r13 : columns_of t.context 13 ≡ Some s.r13 = shows.saved R13 in
    let r14 : columns_of t.context 14 ≡ Some s.r14 = shows.saved R14 in
    let r15 : columns_of t.context 15 ≡ Some s.r15 = shows.saved R15 in
    cc

-- a line of one state ends there
one_line : (space : SpaceValue) (c : Context) (r : Result (Option Stepped) DeliverError) (cs : List Context) → line_after c r (line_of space 0) ≡ Ok cs → r ≡ Ok None
one_line space c (Ok None) cs is = refl
one_line space c (Ok (Some t)) cs is = absurd cc
one_line space c (Err e) cs is = absurd cc

module _ (space : SpaceValue) (apart : AreApart 0 space.modules) (laid : IsLaidOut 0 space.image) where
  known_end : (interrupted : Bool) (s : State) (c : Context) → IsKnownStack space interrupted s [] → Shows (columns_of c) s → step_of space c interrupted ≡ Ok None
  known_end interrupted s c stack shows =
      let starts : StartsKnownStack space c 1 interrupted s [] = record { stack = stack; shows = shows; shorter = omega arith } in
      let line = known_walked space apart laid c 1 interrupted s [] starts in
      one_line space c (step_of space c interrupted) line.0 line.1

  -- the frames of all states from the innermost on, and how many they are
  known_frames : (interrupted : Bool) (s : State) (callers : List State) (t : Stepped) (room : ℕ) (stack : IsKnownStack space interrupted s callers) → Shows (columns_of t.context) s → t.signal ≡ interrupted → length callers < room →
      (map frame_of (states_from space room t) ≡ frames_known space interrupted s callers stack) × (length (states_from space room t) ≡ suc (length callers))
  known_frames interrupted s callers t zero stack shows marked less = absurd (omega arith)
  known_frames interrupted s [] t (suc room) stack shows marked less =
      let ends : step_of space t.context t.signal ≡ Ok None = rw marked (known_end interrupted s t.context stack shows) in
      rw ends (ap (λ (f : StackFrame). f ∷ []) (shown_frame t s interrupted shows marked), refl)
  known_frames interrupted s (u ∷ callers) t (suc room) stack shows marked less =
      let by_signal : Bool = is_by_signal space interrupted s u stack.0 in
      let step : GoesTo by_signal (step_of space t.context interrupted) u = link_step space apart laid interrupted s u callers t.context stack.0 stack.1 shows in
      let goes : step_of space t.context t.signal ≡ Ok (Some step.next) = rw marked step.answered in
      let rest = known_frames by_signal u callers step.next room stack.1 step.shows step.marks (omega arith) in
      rw goes (rw (rest.0, shown_frame t s interrupted shows marked) refl, ap (λ (n : ℕ). suc n) rest.1)

  -- over the places
  pub known_told : (limit : ℕ) (t : Stepped) (s : State) (callers : List State) (before : List StackFrame) (starts : StartsKnownStack space t.context limit t.signal s callers) →
      (over (states_from space limit t) before ≡ frames_known space t.signal s callers starts.stack ++ drop (suc (length callers)) before) × (length (states_from space limit t) ≡ suc (length callers))
  known_told limit t s callers before starts =
      let all = known_frames t.signal s callers t limit starts.stack starts.shows refl starts.shorter in
      (rw (all.0, all.1) refl, all.1)
