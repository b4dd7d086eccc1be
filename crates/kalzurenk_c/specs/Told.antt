-- What a walk tells its caller.
use Rattle.std.specs.Prelude.{◌≡◌, ◌⊎◌, ℕ, suc, Bool, true, false, List, [], ◌++◌, ◌∷◌, length, map, drop, get_or, min, ◌-◌, ◌^◌, Result, Ok, Err}
use Rattle.unwind_definitions.specs.State.{State}
use Rattle.format_frames.specs.declared.machine.Stepped.{Stepped}
use Rattle.stack_walks.specs.declared.walk_end.EndReason.{EndReason}
use Rattle.stack_walks.specs.declared.walk_end.EndReason.TheVariants as reason
use Rattle.stack_walks.specs.WalkEnds.{ComesTo}
use Rattle.stack_walks.specs.KnownWalks.{StartsKnownStack, end_reason_of_stack}
use Rattle.stack_steps.specs.KnownStacks.{IsKnownStack, is_by_signal}
use Rattle.stack_steps.specs.Modules.{SpaceValue}
use Rattle.kalzurenk_c.specs.declared.refusal.Place.{Place}
use Rattle.kalzurenk_c.specs.declared.refusal.Refusal.{Refusal}
use Rattle.kalzurenk_c.specs.declared.refusal.Refusal.TheVariants as refused
use Rattle.kalzurenk_c.specs.declared.told.StackFrame.{StackFrame}
use Rattle.kalzurenk_c.specs.declared.told.WalkEnd.{WalkEnd}
use Rattle.kalzurenk_c.specs.Numbers.{refused_detail, refused_number, table_number}
use Rattle.kalzurenk_c.specs.Outward.{states_from}
use Rattle.kalzurenk_c.specs.Refusals.{place_after, place_of, status_of}
use Rattle.kalzurenk_c.specs.Sizes.{end_size, frame_size}
use Rattle.kalzurenk_c.specs.Unwindings.{Unwinds}

-- whether a state was interrupted where it stands, and wasn't stopped in a call
abbrev pub mark_told : Bool → ℕ
mark_told true = 1
mark_told false = 0

-- the return address, the stack pointer, the registers that calls keep, and the mark
abbrev pub frame_of : Stepped → StackFrame
frame_of s = let c = s.context in record {
  ra = c.ra;
  sp = get_or c.registers 7 0;
  rbx = get_or c.registers 3 0;
  rbp = get_or c.registers 6 0;
  r12 = get_or c.registers 12 0;
  r13 = get_or c.registers 13 0;
  r14 = get_or c.registers 14 0;
  r15 = get_or c.registers 15 0;
  interrupted = mark_told s.signal;
}

-- the frames of these states over the first places
abbrev pub over : List Stepped → List StackFrame → List StackFrame
over states places = map frame_of states ++ drop (length states) places

abbrev pub end_with : ℕ → ℕ → ℕ → ℕ → ℕ → WalkEnd
end_with count reason error address detail =
    record { size = end_size; frame_size = frame_size; count = count; address = address; detail = detail; reason = reason; error = error }

-- so many frames, and why there are no more
abbrev pub end_told : ℕ → EndReason → WalkEnd
end_told count reason.Outermost = end_with count 0 0 0 0
end_told count (reason.NoModule a) = end_with count 1 0 a 0
end_told count (reason.NoDescription a) = end_with count 2 0 a 0
end_told count (reason.UnreadableTable a offset e) = end_with count 3 (table_number e) a offset
end_told count (reason.Refused a e) = end_with count 4 (refused_number e) a (refused_detail e)
end_told count reason.Limit = end_with count 5 0 0 0

-- the most frames that so many places have room for
abbrev pub frame_limit : ℕ → ℕ
frame_limit places = min places (2 ^ 32 - 1)

-- ---- a stack of each of whose frames it is known how its caller's state follows

abbrev pub frame_known : Bool → State → StackFrame
frame_known interrupted s = record {
  ra = s.ra;
  sp = s.sp;
  rbx = s.rbx;
  rbp = s.rbp;
  r12 = s.r12;
  r13 = s.r13;
  r14 = s.r14;
  r15 = s.r15;
  interrupted = mark_told interrupted;
}

-- the frames of its states, each marked where it was interrupted: the innermost may have been, and so was one past a signal's frame
abbrev pub frames_known : (space : SpaceValue) (interrupted : Bool) (s : State) (callers : List State) → IsKnownStack space interrupted s callers → List StackFrame
frames_known space interrupted s [] stack = frame_known interrupted s ∷ []
frames_known space interrupted s (t ∷ callers) stack = frame_known interrupted s ∷ frames_known space (is_by_signal space interrupted s t stack.0) t callers stack.1

-- the stack is told to its end, for the reason that its outermost state has
abbrev pub TellsStack : (space : SpaceValue) (interrupted : Bool) (s : State) (callers : List State) → IsKnownStack space interrupted s callers → List StackFrame → List StackFrame → WalkEnd → Type 0
TellsStack space interrupted s callers stack before frames end =
    (frames ≡ frames_known space interrupted s callers stack ++ drop (suc (length callers)) before)
    × (end ≡ end_told (suc (length callers)) (end_reason_of_stack space interrupted s callers stack))

-- wherever the start begins such a stack, which the limit has room for, it is told so
unfoldable pub TellsKnown : SpaceValue → ℕ → Stepped → List StackFrame → List StackFrame → WalkEnd → Type 0
TellsKnown space limit start before frames end = (s : State) (callers : List State) → (is : StartsKnownStack space start.context limit start.signal s callers) → TellsStack space start.signal s callers is.stack before frames end

-- ---- what a call leaves

-- The frames and the end of a walk over a space from a state, in the places that had these frames. So a stack that is known, and has
-- no more states than there are places, is told.
abbrev pub TellsFront : SpaceValue → ℕ → Stepped → List StackFrame → List StackFrame → WalkEnd → Type 0
TellsFront space limit start before frames end =
    (frames ≡ over (states_from space limit start) before)
    × ((why : EndReason) → ComesTo why space limit start.context start.signal → end ≡ end_told (length (states_from space limit start)) why)
    × TellsKnown space limit start before frames end

-- the status that a call answers, and what stands in its caller's places after it
pub record Left : Type 0 where
  pub status : ℕ
  pub frames : List StackFrame
  pub end : WalkEnd
  pub place : Place

-- A walk over a space is told, or why there is no space. What isn't told stays: the frames, their end, the place of what is faulty.
abbrev pub TellsWalk : Result SpaceValue Refusal → ℕ → Stepped → Left → Left → Type 0
TellsWalk (Ok space) limit start before after =
    (after.status ≡ 0) × (after.place ≡ before.place)
    × TellsFront space limit start before.frames after.frames after.end
TellsWalk (Err refusal) limit start before after =
    (after.status ≡ status_of refusal) × (after.place ≡ place_after refusal before.place)
    × (after.frames ≡ before.frames) × (after.end ≡ before.end)

-- memory ran out: no frame is told, no end, and nothing is blamed
abbrev pub RunsOut : Left → Left → Type 0
RunsOut before after =
    (after.status ≡ status_of refused.NoMemory) × (after.place ≡ place_of refused.NoMemory)
    × (after.frames ≡ before.frames) × (after.end ≡ before.end)

abbrev pub TellsUnlessNoMemory : Result SpaceValue Refusal → ℕ → Stepped → Left → Left → Type 0
TellsUnlessNoMemory space limit start before after = RunsOut before after ⊎ TellsWalk space limit start before after

-- ---- the same before a status is made of it

-- a walk is told over the space that is due, or there is none, and nothing is told
abbrev pub GivesWalk : {A : Type 0} → Result A Refusal → Result SpaceValue Refusal → ℕ → Stepped → List StackFrame → List StackFrame → WalkEnd → WalkEnd → Type 0
GivesWalk result due limit start = Unwinds (λ space before frames end. TellsFront space limit start before frames end) result due

-- the same, unless memory ran out
abbrev pub WalksOver : {A : Type 0} → Result A Refusal → Result SpaceValue Refusal → ℕ → Stepped → List StackFrame → List StackFrame → WalkEnd → WalkEnd → Type 0
WalksOver (Ok done) due limit start frames frames_after end end_after =
    (space : SpaceValue) × (due ≡ Ok space) × TellsFront space limit start frames frames_after end_after
WalksOver (Err e) due limit start frames frames_after end end_after =
    ((e ≡ refused.NoMemory) ⊎ (due ≡ Err e)) × (frames_after ≡ frames) × (end_after ≡ end)
