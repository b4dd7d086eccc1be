-- An exception in a generated chain is caught by its outermost function.
use Rattle.std.proofs.Common.{◌≡◌, ℕ, zero, suc, ◌+◌, ◌-◌, ◌/◌, ◌%◌, ◌<◌, Bool, true, false, cond, List, [], ◌∷◌, ◌++◌, length, Option, Some, None, refl, sym, ap, subst, ◌∙◌, arith, inl, inr}
use Rattle.std.specs.Prelude.{◌==◌}
use Rattle.std.specs.Option.{option_map}
use Rattle.std.specs.List.{find, filter_map, cons_option, before_first, position_or_len}
use Rattle.std.proofs.lemmas.List.{length-append, length-map}
use Rattle.std.proofs.lemmas.Bool.{ne_eqb, eq-eqb, cases_eq}
use Rattle.unwind_definitions.specs.State.{State}
use Rattle.unwind_definitions.specs.Function.{Action, NoAction, Cleanup, Catch}
use Rattle.unwind_definitions.specs.Delivery.{Frame, frames_of, action_of_frame, decides, is_deciding, cleanup_of, cleanup_pad, Delivery, delivery_of, delivery_at_handler, states_in}
use Rattle.generated_chains.specs.declared.outline.Handling.{Handling}
use Rattle.generated_chains.specs.declared.outline.Handling.TheVariants.{PassesOn, CleansUp, Catches}
use Rattle.generated_chains.specs.declared.outline.Outline.{Outline}
use Rattle.generated_chains.specs.Outlines.{following, kind_of, handling_of, outlines_from, outlines}
use Rattle.generated_chains.specs.Code.{start_of, function_of}
use Rattle.generated_chains.specs.Calls.{state_of, calls_of}
use Rattle.generated_chains.specs.Caught.{IsCaught}
use Rattle.generated_chains.proofs.ChainLaw.{entered-ra}
use Rattle.generated_chains.proofs.Resumed.{action_by, call_asks}

-- the first frame that decides catches; so many frames are inside it, of which so many clean up
record Caught (fs : List Frame) (inside cleanups : ℕ) : Type 0 where
  frame : Frame
  pad : ℕ
  found : find is_deciding fs ≡ Some frame
  asks : action_of_frame frame ≡ Catch pad
  count : length (before_first is_deciding fs) ≡ inside
  ran : length (filter_map cleanup_of (before_first is_deciding fs)) ≡ cleanups

first_catches : (f : Frame) (fs : List Frame) (pad : ℕ) → action_of_frame f ≡ Catch pad → Caught (f ∷ fs) 0 0
first_catches f fs pad asks =
    let decided : is_deciding f ≡ true = ap decides asks in
    let none : before_first is_deciding (f ∷ fs) ≡ [] = rw decided refl in
    record { frame = f; pad = pad; found = rw decided refl; asks = asks; count = ap length none; ran = ap (λ (gs : List Frame). length (filter_map cleanup_of gs)) none }

-- one more frame inside, which doesn't decide
one_more : (f : Frame) (fs : List Frame) (m k : ℕ) (c : Option (ℕ × ℕ)) → is_deciding f ≡ false → cleanup_of f ≡ c → Caught fs m k → Caught (f ∷ fs) (m + 1) (k + length (cons_option c []))
one_more f fs m k c passes cleans inner_caught =
    let next : 1 + position_or_len is_deciding fs ≡ suc (position_or_len is_deciding fs) = omega arith in
    let inner : before_first is_deciding (f ∷ fs) ≡ f ∷ before_first is_deciding fs = rw (passes, next) refl in
    record {
      frame = inner_caught.frame;
      pad = inner_caught.pad;
      found = rw passes inner_caught.found;
      asks = inner_caught.asks;
      count = ap length inner ∙ (let n = inner_caught.count in omega arith);
      ran = ap (λ (gs : List Frame). length (filter_map cleanup_of gs)) inner ∙ rw cleans (more c (filter_map cleanup_of (before_first is_deciding fs)) inner_caught.ran);
    }
  where
    more : (c : Option (ℕ × ℕ)) (ps : List (ℕ × ℕ)) → length ps ≡ k → length (cons_option c ps) ≡ k + length (cons_option c [])
    more None ps e = omega (arith, e)
    more (Some p) ps e = omega (arith, e)

-- how many of so many indices from one on leave 3 when divided by 4
cleanups_from : ℕ → ℕ → ℕ
cleanups_from index zero = 0
cleanups_from index (suc n) = cleanups_from (index + 1) n + (cond (index % 4 == 3) 1 0)

cleanups_are : (index n : ℕ) → cleanups_from index n + index / 4 ≡ (index + n) / 4
unfolding cleanups_from
cleanups_are index zero = omega arith
cleanups_are index (suc n) = elim (cases_eq (index % 4) 3) [
  | inl last ↦ let ih = cleanups_are (index + 1) n in rw (eq-eqb (index % 4) 3 last) (omega arith)
  | inr other ↦ let ih = cleanups_are (index + 1) n in rw (ne_eqb (index % 4) 3 other) (omega arith)
]

-- what a function asks at its call
asks_here : (seed : ℕ) (o : Outline) (os : List Outline) (h : Handling) → o.handling ≡ h → action_of_frame (record { state = state_of seed (o ∷ os); function = function_of o }) ≡ action_by h (start_of o.index)
asks_here seed o os h e = call_asks o (state_of seed (o ∷ os)) (entered-ra o.kind o.index (state_of seed os)) ∙ ap (λ (k : Handling). action_by k (start_of o.index)) e

inner_one : (seed : ℕ) (o : Outline) (os : List Outline) (m k : ℕ) (b : Bool) → o.handling ≡ cond b CleansUp PassesOn → Caught (frames_of (state_of seed os) (calls_of seed os)) m k →
    Caught (frames_of (state_of seed (o ∷ os)) (calls_of seed (o ∷ os))) (suc m) (k + cond b 1 0)
inner_one seed o os m k true e caught =
    let f : Frame = record { state = state_of seed (o ∷ os); function = function_of o } in
    let asks : action_of_frame f ≡ Cleanup (start_of o.index + 48) = asks_here seed o os CleansUp e in
    let cleans : cleanup_of f ≡ Some (start_of o.index + 48, f.state.sp) = ap (λ (a : Action). option_map (λ (pad : ℕ). (pad, f.state.sp)) (cleanup_pad a)) asks in
    let one : m + 1 ≡ suc m = omega arith in
    subst (λ (n : ℕ). Caught (f ∷ frames_of (state_of seed os) (calls_of seed os)) n (k + 1)) one (one_more f (frames_of (state_of seed os) (calls_of seed os)) m k (Some (start_of o.index + 48, f.state.sp)) (ap decides asks) cleans caught)
inner_one seed o os m k false e caught =
    let f : Frame = record { state = state_of seed (o ∷ os); function = function_of o } in
    let asks : action_of_frame f ≡ NoAction = asks_here seed o os PassesOn e in
    let cleans : cleanup_of f ≡ None = ap (λ (a : Action). option_map (λ (pad : ℕ). (pad, f.state.sp)) (cleanup_pad a)) asks in
    let one : m + 1 ≡ suc m = omega arith in
    subst (λ (n : ℕ). Caught (f ∷ frames_of (state_of seed os) (calls_of seed os)) n (k + 0)) one (one_more f (frames_of (state_of seed os) (calls_of seed os)) m k None (ap decides asks) cleans caught)

caught_from : (seed x index outer : ℕ) → Caught (frames_of (state_of seed (outlines_from x index (suc outer))) (calls_of seed (outlines_from x index (suc outer)))) outer (cleanups_from index outer)
unfolding cleanups_from
caught_from seed x index zero =
    let o : Outline = record { index = index; kind = kind_of (following x); handling = Catches } in
    first_catches (record { state = state_of seed (o ∷ []); function = function_of o }) [] (start_of index + 48) (asks_here seed o [] Catches refl)
caught_from seed x index (suc outer) =
    let o : Outline = record { index = index; kind = kind_of (following x); handling = handling_of index (suc outer) } in
    let handles : o.handling ≡ cond (index % 4 == 3) CleansUp PassesOn = rw (ne_eqb (suc outer) 0 (λ e. absurd (omega arith))) refl in
    inner_one seed o (outlines_from (following x) (index + 1) (suc outer)) outer (cleanups_from (index + 1) outer) (index % 4 == 3) handles (caught_from seed (following x) (index + 1) outer)

pub caught : (exception seed count : ℕ) → 0 < count → IsCaught (delivery_of exception (state_of seed (outlines seed count)) (calls_of seed (outlines seed count))) count
caught exception seed zero some = absurd (omega arith)
caught exception seed (suc outer) some =
    let s : State = state_of seed (outlines seed (suc outer)) in
    let c = caught_from seed seed 0 outer in
    let inside : List Frame = before_first is_deciding (frames_of s (calls_of seed (outlines seed (suc outer)))) in
    let d : delivery_of exception s (calls_of seed (outlines seed (suc outer))) ≡ delivery_at_handler exception inside c.frame.state c.pad = rw (c.found, c.asks) refl in
    let long : length (states_in inside ++ c.frame.state ∷ []) ≡ suc outer = rw (length-append, length-map) (let n = c.count in omega arith) in
    let trail : length (filter_map cleanup_of inside) ≡ (suc outer - 1) / 4 = c.ran ∙ (let all = cleanups_are 0 outer in omega arith) in
    subst (λ (x : Delivery). IsCaught x (suc outer)) (sym d) (record { outcome = refl; visited = long; cleanups = trail })
