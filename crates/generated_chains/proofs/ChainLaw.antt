-- The states and calls of a generated chain are one, over memory that holds its stack.
use Rattle.std.proofs.Common.{◌≡◌, ℕ, suc, ◌+◌, ◌-◌, ◌*◌, ◌<◌, ◌≤◌, ◌^◌, List, [], ◌∷◌, length, drop, refl, sym, subst, ◌∙◌, arith, inl, lit<}
use Rattle.std.specs.Prelude.{IsTrue}
use Rattle.std.specs.List.{AllByRecursion, Contains}
use Rattle.std.proofs.lemmas.Bool.{le-leb, lt-ltb}
use Rattle.memory_image.specs.Image.{Span, table_at, IsLaidOut}
use Rattle.unwind_definitions.specs.State.{State}
use Rattle.unwind_definitions.specs.Function.{Function, in_body}
use Rattle.unwind_definitions.specs.Chain.{IsCalled, IsChain}
use Rattle.unwind_laws.proofs.Booleans.{first, later}
use Rattle.generated_chains.specs.declared.outline.Kind.{Kind}
use Rattle.generated_chains.specs.declared.outline.Kind.TheVariants.{Pushes, PushesAndAllocates, SetsFrame, SetsFrameAndPushes}
use Rattle.generated_chains.specs.declared.outline.Outline.{Outline}
use Rattle.generated_chains.specs.Outlines.{AreNumbered}
use Rattle.generated_chains.specs.Code.{start_of, function_of, functions_of}
use Rattle.generated_chains.specs.Calls.{return_address, outermost_state, entered_from, state_of, calls_of, frame_words, stack_bytes}
use Rattle.generated_chains.specs.Memory.{HoldsStack}
use Rattle.generated_chains.proofs.SpelledLemmas.{AreWordsAt, words_from}
use Rattle.generated_chains.proofs.States.{Fits, HasRoom, fits_state, state-fits, entered}

pub entered-ra : (kind : Kind) (index : ℕ) (t : State) → (entered_from kind index t).ra ≡ return_address index
entered-ra Pushes index t = refl
entered-ra PushesAndAllocates index t = refl
entered-ra SetsFrame index t = refl
entered-ra SetsFrameAndPushes index t = refl

-- a frame's words fill it
pub entered-sp : (kind : Kind) (index : ℕ) (t : State) → HasRoom t → (entered_from kind index t).sp + 8 * length (frame_words kind t) ≡ t.sp
entered-sp Pushes index t room = omega (arith, room.low)
entered-sp PushesAndAllocates index t room = omega (arith, room.low)
entered-sp SetsFrame index t room = omega (arith, room.low)
entered-sp SetsFrameAndPushes index t room = omega (arith, room.low)

are_words : (kind : Kind) (n : ℕ) (t : State) → Fits n t → AllByRecursion (λ w. w < 2 ^ 64) (frame_words kind t)
are_words Pushes n t f = (f.rbx, (f.ra, tt))
are_words PushesAndAllocates n t f = (lit< tt, (lit< tt, (f.rbx, (f.ra, tt))))
are_words SetsFrame n t f = (f.rbp, (f.ra, tt))
are_words SetsFrameAndPushes n t f = (lit< tt, (lit< tt, (lit< tt, (f.rbx, (f.rbp, (f.ra, tt))))))

pub has_room : (n : ℕ) (t : State) → n ≤ 100000 → Fits n t → HasRoom t
has_room n t few f = record { low = omega (arith, f.low); high = f.high }

-- the call that a function is stopped in lies in its body
pub call_inside : (o : Outline) → IsTrue (in_body (function_of o) (return_address o.index - 1))
call_inside o = let s = start_of o.index in
    rw (le-leb (s + 16) ((s + 32) - 1) (omega arith), lt-ltb ((s + 32) - 1) (s + 64) (omega arith)) refl

module _ (image : List Span) (laid : IsLaidOut 0 image) (seed : ℕ) (lt : seed < 2 ^ 64) (Uncovered : ℕ → Type 0) (functions : List Function) (base : ℕ) (whole : List ℕ) (at : table_at image base ≡ whole) where
  called : (o : Outline) (n : ℕ) (t : State) → n ≤ 100000 → Fits n t → AreWordsAt image (entered_from o.kind o.index t).sp (frame_words o.kind t) → IsCalled image (entered_from o.kind o.index t) (record { callee = function_of o; caller = t })
  called o n t few f words = record {
    returns = λ e. let zero_there : return_address o.index ≡ 0 = sym (entered-ra o.kind o.index t) ∙ e in absurd (omega arith);
    inside = rw (entered-ra o.kind o.index t) (call_inside o);
    entered = entered image o.kind o.index t (has_room n t few f) words;
  }

  chain_from : (index k : ℕ) (os : List Outline) → AreNumbered index os → index + length os ≤ 100000 → ((f : Function) → Contains (functions_of os) f → Contains functions f) →
      (state_of seed os).sp ≡ base + k → drop k whole ≡ stack_bytes seed os → IsChain image Uncovered functions (state_of seed os) (calls_of seed os)
  chain_from index k [] numbered few among place rest = record { state = fits_state 0 (outermost_state seed) (state-fits seed lt index [] numbered few); ends = inl refl }
  chain_from index k (o ∷ os) numbered few among place rest =
      let t : State = state_of seed os in
      let f : Fits (length os) t = state-fits seed lt (index + 1) os numbered.1 (omega arith) in
      let f' : Fits (suc (length os)) (state_of seed (o ∷ os)) = state-fits seed lt index (o ∷ os) numbered few in
      let found = words_from image laid base whole at k (frame_words o.kind t) (stack_bytes seed os) (are_words o.kind (length os) t f) rest in
      let words : AreWordsAt image (entered_from o.kind o.index t).sp (frame_words o.kind t) = subst (λ (a : ℕ). AreWordsAt image a (frame_words o.kind t)) (sym place) found.0 in
      let full : (entered_from o.kind o.index t).sp + 8 * length (frame_words o.kind t) ≡ t.sp = entered-sp o.kind o.index t (has_room (length os) t (omega arith) f) in (
        record {
          state = fits_state (suc (length os)) (state_of seed (o ∷ os)) f';
          listed = among (function_of o) (first (function_of o) (functions_of os));
          called = called o (length os) t (omega arith) f words;
          last = λ outer. absurd cc;
        },
        chain_from (index + 1) (k + 8 * length (frame_words o.kind t)) os numbered.1 (omega arith) (λ g has. among g (later (function_of o) (functions_of os) g has)) (omega arith) found.1,
      )

-- the chain, over any memory that holds its stack
pub generated_chain : (image : List Span) (seed : ℕ) (os : List Outline) (Uncovered : ℕ → Type 0) → seed < 2 ^ 64 → AreNumbered 0 os → length os ≤ 100000 → HoldsStack image seed os → IsChain image Uncovered (functions_of os) (state_of seed os) (calls_of seed os)
generated_chain image seed os Uncovered lt numbered few holds =
    chain_from image holds.laid seed lt Uncovered (functions_of os) (state_of seed os).sp (stack_bytes seed os) holds.stack 0 0 os numbered (omega arith) (λ f has. has) (omega arith) refl
