-- The states of a generated chain: in what bounds they lie, and how each is entered from the next.
use Rattle.std.proofs.Common.{◌≡◌, ℕ, suc, ◌+◌, ◌-◌, ◌*◌, ◌<◌, ◌≤◌, ◌^◌, false, List, [], ◌∷◌, length, Some, None, refl, subst, arith, lit<, lit≤}
use Rattle.memory_image.specs.Image.{Span, word_at}
use Rattle.unwind_definitions.specs.State.{State, IsState, value_of}
use Rattle.unwind_definitions.specs.Prologue.{steps_of, distance}
use Rattle.unwind_definitions.specs.Entered.{IsEntered}
use Rattle.unwind_laws.proofs.RowFacts.{by_register, state_fits}
use Rattle.generated_chains.specs.declared.outline.Kind.{Kind}
use Rattle.generated_chains.specs.declared.outline.Kind.TheVariants.{Pushes, PushesAndAllocates, SetsFrame, SetsFrameAndPushes}
use Rattle.generated_chains.specs.declared.outline.Outline.{Outline}
use Rattle.generated_chains.specs.Outlines.{AreNumbered}
use Rattle.generated_chains.specs.Code.{prologue_of}
use Rattle.generated_chains.specs.Calls.{top, entered_from, state_of, frame_words}
use Rattle.generated_chains.proofs.SpelledLemmas.{AreWordsAt}

-- a state that so many calls are inside
pub record Fits (calls : ℕ) (s : State) : Type 0 where
  pub ra : s.ra < 2 ^ 64
  pub low : top ≤ s.sp + 48 * calls
  pub high : s.sp ≤ top
  pub rbx : s.rbx < 2 ^ 64
  pub rbp : s.rbp < 2 ^ 64
  pub r12 : s.r12 ≡ 0
  pub r13 : s.r13 ≡ 0
  pub r14 : s.r14 ≡ 0
  pub r15 : s.r15 ≡ 0

pub fits_state : (n : ℕ) (s : State) → Fits n s → IsState s
fits_state n s f = state_fits s f.ra (omega (arith, f.high)) f.rbx f.rbp (omega (arith, f.r12)) (omega (arith, f.r13)) (omega (arith, f.r14)) (omega (arith, f.r15))

entered_fits : (kind : Kind) (index n : ℕ) (t : State) → index < 100000 → n < 100000 → Fits n t → Fits (n + 1) (entered_from kind index t)
entered_fits Pushes index n t lt less f = record { ra = omega arith; low = omega (arith, f.low, f.high); high = omega (arith, f.high); rbx = omega arith; rbp = f.rbp; r12 = f.r12; r13 = f.r13; r14 = f.r14; r15 = f.r15 }
entered_fits PushesAndAllocates index n t lt less f = record { ra = omega arith; low = omega (arith, f.low, f.high); high = omega (arith, f.high); rbx = omega arith; rbp = f.rbp; r12 = f.r12; r13 = f.r13; r14 = f.r14; r15 = f.r15 }
entered_fits SetsFrame index n t lt less f = record { ra = omega arith; low = omega (arith, f.low, f.high); high = omega (arith, f.high); rbx = f.rbx; rbp = omega (arith, f.high); r12 = f.r12; r13 = f.r13; r14 = f.r14; r15 = f.r15 }
entered_fits SetsFrameAndPushes index n t lt less f = record { ra = omega arith; low = omega (arith, f.low, f.high); high = omega (arith, f.high); rbx = omega arith; rbp = omega (arith, f.high); r12 = f.r12; r13 = f.r13; r14 = f.r14; r15 = f.r15 }

pub state-fits : (seed : ℕ) → seed < 2 ^ 64 → (index : ℕ) (os : List Outline) → AreNumbered index os → index + length os ≤ 100000 → Fits (length os) (state_of seed os)
state-fits seed lt index [] numbered few = record { ra = lit< tt; low = lit≤ tt; high = lit≤ tt; rbx = lt; rbp = lit< tt; r12 = refl; r13 = refl; r14 = refl; r15 = refl }
state-fits seed lt index (o ∷ os) numbered few =
    let ih = state-fits seed lt (index + 1) os numbered.1 (omega arith) in
    let below : o.index < 100000 = omega (arith, numbered.0) in
    let f = entered_fits o.kind o.index (length os) (state_of seed os) below (omega arith) ih in
    let one : length os + 1 ≡ suc (length os) = omega arith in
    subst (λ (n : ℕ). Fits n (state_of seed (o ∷ os))) one f

-- ---- how a state is entered

slot : (image : List Span) (a b w : ℕ) → a ≡ b → word_at image a ≡ Some w → word_at image b ≡ Some w
slot image a b w e at = subst (λ (x : ℕ). word_at image x ≡ Some w) e at

-- a stack pointer of a chain, with room for the frames of its calls
pub record HasRoom (t : State) : Type 0 where
  pub low : 0x7ffe00000000 ≤ t.sp
  pub high : t.sp ≤ top

pub entered : (image : List Span) (kind : Kind) (index : ℕ) (t : State) → HasRoom t → AreWordsAt image (entered_from kind index t).sp (frame_words kind t) → IsEntered image false (steps_of (prologue_of kind)) t (entered_from kind index t)
entered image Pushes index t room words = record {
  room = omega (arith, room.low);
  returns = λ e. slot image ((t.sp - 16) + 8) (t.sp - 8) t.ra (omega (arith, room.low)) words.1.0;
  leaves = (omega (arith, room.low), slot image (t.sp - 16) ((t.sp - 8) - 8) t.rbx (omega (arith, room.low)) words.0, tt);
  stack = omega arith;
  keeps = by_register (λ r. distance r (steps_of (prologue_of Pushes)) ≡ None → value_of r (entered_from Pushes index t) ≡ value_of r t) (λ e. absurd cc) (λ e. refl) (λ e. refl) (λ e. refl) (λ e. refl) (λ e. refl);
}
entered image PushesAndAllocates index t room words = record {
  room = omega (arith, room.low);
  returns = λ e. slot image ((((t.sp - 32) + 8) + 8) + 8) (t.sp - 8) t.ra (omega (arith, room.low)) words.1.1.1.0;
  leaves = (omega (arith, room.low), slot image (((t.sp - 32) + 8) + 8) ((t.sp - 8) - 8) t.rbx (omega (arith, room.low)) words.1.1.0, (omega (arith, room.low), tt));
  stack = omega arith;
  keeps = by_register (λ r. distance r (steps_of (prologue_of PushesAndAllocates)) ≡ None → value_of r (entered_from PushesAndAllocates index t) ≡ value_of r t) (λ e. absurd cc) (λ e. refl) (λ e. refl) (λ e. refl) (λ e. refl) (λ e. refl);
}
entered image SetsFrame index t room words = record {
  room = omega (arith, room.low);
  returns = λ e. slot image ((t.sp - 16) + 8) (t.sp - 8) t.ra (omega (arith, room.low)) words.1.0;
  leaves = (omega (arith, room.low), slot image (t.sp - 16) ((t.sp - 8) - 8) t.rbp (omega (arith, room.low)) words.0, (omega (arith, room.high), tt));
  stack = (omega arith, omega arith);
  keeps = by_register (λ r. distance r (steps_of (prologue_of SetsFrame)) ≡ None → value_of r (entered_from SetsFrame index t) ≡ value_of r t) (λ e. refl) (λ e. absurd cc) (λ e. refl) (λ e. refl) (λ e. refl) (λ e. refl);
}
entered image SetsFrameAndPushes index t room words = record {
  room = omega (arith, room.low);
  returns = λ e. slot image ((((((t.sp - 48) + 8) + 8) + 8) + 8) + 8) (t.sp - 8) t.ra (omega (arith, room.low)) words.1.1.1.1.1.0;
  leaves = (
    omega (arith, room.low),
    slot image (((((t.sp - 48) + 8) + 8) + 8) + 8) ((t.sp - 8) - 8) t.rbp (omega (arith, room.low)) words.1.1.1.1.0,
    (
      omega (arith, room.high),
      (
        omega (arith, room.low),
        slot image ((((t.sp - 48) + 8) + 8) + 8) (((t.sp - 8) - 8) - 8) t.rbx (omega (arith, room.low)) words.1.1.1.0,
        (omega (arith, room.low), tt),
      ),
    ),
  );
  stack = (omega arith, omega arith);
  keeps = by_register (λ r. distance r (steps_of (prologue_of SetsFrameAndPushes)) ≡ None → value_of r (entered_from SetsFrameAndPushes index t) ≡ value_of r t) (λ e. absurd cc) (λ e. absurd cc) (λ e. refl) (λ e. refl) (λ e. refl) (λ e. refl);
}
