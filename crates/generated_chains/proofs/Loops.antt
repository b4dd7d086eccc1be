-- Turns of the loops that make a generated chain.
use Rattle.std.proofs.Common.{◌≡◌, ℕ, zero, suc, ◌+◌, ◌-◌, ◌<◌, ◌≤◌, ◌^◌, List, [], ◌∷◌, ◌++◌, length, take, drop, reverse, get_or, Option, Some, None, refl, sym, ap, subst, ◌∙◌, arith}
use Rattle.std.specs.List.{cons_option}
use Rattle.std.proofs.lemmas.List.{append_assoc, append-nil, take_more, drop_more, reverse-append, length-drop}
use Rattle.unwind_definitions.specs.State.{State}
use Rattle.generated_chains.specs.declared.outline.Kind.{Kind}
use Rattle.generated_chains.specs.declared.outline.Kind.TheVariants.{Pushes}
use Rattle.generated_chains.specs.declared.outline.Handling.{Handling}
use Rattle.generated_chains.specs.declared.outline.Handling.TheVariants.{PassesOn}
use Rattle.generated_chains.specs.declared.outline.Outline.{Outline}
use Rattle.generated_chains.specs.Outlines.{following, kind_of, handling_of, outlines_from, outlines, AreNumbered}
use Rattle.generated_chains.specs.Calls.{state_of, entered_from, frame_bytes, stack_bytes, resume_in, resumes_of}
use Rattle.generated_chains.proofs.States.{Fits, state-fits}

-- ---- outlines

pub outlines_step : (all made new : List Outline) (x y index count : ℕ) (kind : Kind) (handling : Handling) → index < count → y ≡ following x → kind ≡ kind_of y → handling ≡ handling_of index ((count - 1) - index) →
    new ≡ made ++ record { index = index; kind = kind; handling = handling } ∷ [] → made ++ outlines_from x index (count - index) ≡ all → new ++ outlines_from y (index + 1) (count - (index + 1)) ≡ all
outlines_step all made new x y index count kind handling lt next is how grown rest =
    let some : count - index ≡ suc ((count - 1) - index) = omega arith in
    let less : count - (index + 1) ≡ (count - 1) - index = omega arith in
    let rest' : made ++ outlines_from x index (suc ((count - 1) - index)) ≡ all = rw some at rest in
    let o : Outline = record { index = index; kind = kind; handling = handling } in
    let p : Outline = record { index = index; kind = kind_of (following x); handling = handling_of index ((count - 1) - index) } in
    let same : o ≡ p = rw (how, is, next) refl in
    rw (grown, less, append_assoc made (o ∷ []) (outlines_from y (index + 1) ((count - 1) - index)), same, next) rest'

pub numbered_from : (x index outer : ℕ) → AreNumbered index (outlines_from x index outer)
numbered_from x index zero = tt
numbered_from x index (suc outer) = (refl, numbered_from (following x) (index + 1) outer)

pub length-outlines : (x index outer : ℕ) → length (outlines_from x index outer) ≡ outer
length-outlines x index zero = refl
length-outlines x index (suc outer) = ap suc (length-outlines (following x) (index + 1) outer)

-- ---- loops over outlines

pub index_at : (index : ℕ) (os : List Outline) (k : ℕ) (d : Outline) → AreNumbered index os → k < length os → (get_or os k d).index ≡ index + k
index_at index [] k d numbered lt = absurd (omega arith)
index_at index (o ∷ os) zero d numbered lt = omega (arith, numbered.0)
index_at index (o ∷ os) (suc k) d numbered lt = let ih = index_at (index + 1) os k d numbered.1 (omega arith) in omega arith

filter_map-push : (xs : List Outline) (o : Outline) → resumes_of (xs ++ o ∷ []) ≡ resumes_of xs ++ cons_option (resume_in o) []
filter_map-push [] o = refl
filter_map-push (x ∷ xs) o = go (resume_in x) (filter_map-push xs o)
  where
    go : (r : Option (ℕ × ℕ)) → resumes_of (xs ++ o ∷ []) ≡ resumes_of xs ++ cons_option (resume_in o) [] → cons_option r (resumes_of (xs ++ o ∷ [])) ≡ cons_option r (resumes_of xs) ++ cons_option (resume_in o) []
    go None e = e
    go (Some p) e = ap (λ ps. p ∷ ps) e

-- one function more
pub resumes_more : (os : List Outline) (i : ℕ) (d : Outline) → i < length os → resumes_of (take (i + 1) os) ≡ resumes_of (take i os) ++ cons_option (resume_in (get_or os i d)) []
resumes_more os i d lt = ap resumes_of (take_more os i d lt) ∙ filter_map-push (take i os) (get_or os i d)

-- ---- the stack, from its end downwards

-- the functions from an index on, and one more
suffix_more : (os : List Outline) (called : ℕ) (d : Outline) → called < length os → drop (length os - (called + 1)) os ≡ get_or os ((length os - 1) - called) d ∷ drop (length os - called) os
suffix_more os called d lt =
    let place : length os - (called + 1) ≡ (length os - 1) - called = omega arith in
    let next : ((length os - 1) - called) + 1 ≡ length os - called = omega arith in
    rw (place, drop_more os ((length os - 1) - called) d (omega arith), next) refl

pub stack_turn : (seed called : ℕ) (os : List Outline) (d : Outline) (bytes new : List ℕ) (t : State) → called < length os → bytes ≡ reverse (stack_bytes seed (drop (length os - called) os)) → t ≡ state_of seed (drop (length os - called) os) →
    new ≡ bytes ++ reverse (frame_bytes (get_or os ((length os - 1) - called) d).kind t) → new ≡ reverse (stack_bytes seed (drop (length os - (called + 1)) os))
stack_turn seed called os d bytes new t lt was is grown =
    let o : Outline = get_or os ((length os - 1) - called) d in
    let rest : List Outline = drop (length os - called) os in
    grown ∙ rw (was, is) (sym (reverse-append (frame_bytes o.kind (state_of seed rest)) (stack_bytes seed rest))) ∙ ap (λ (ps : List Outline). reverse (stack_bytes seed ps)) (sym (suffix_more os called d lt))

pub state_turn : (seed called : ℕ) (os : List Outline) (d : Outline) (t new : State) → called < length os → t ≡ state_of seed (drop (length os - called) os) →
    new ≡ entered_from (get_or os ((length os - 1) - called) d).kind (get_or os ((length os - 1) - called) d).index t → new ≡ state_of seed (drop (length os - (called + 1)) os)
state_turn seed called os d t new lt is entered =
    let o : Outline = get_or os ((length os - 1) - called) d in
    entered ∙ ap (entered_from o.kind o.index) is ∙ ap (state_of seed) (sym (suffix_more os called d lt))

numbered_after : (index k : ℕ) (os : List Outline) → AreNumbered index os → AreNumbered (index + k) (drop k os)
numbered_after index zero os numbered = let same : index + 0 ≡ index = omega arith in rw same numbered
numbered_after index (suc k) [] numbered = tt
numbered_after index (suc k) (o ∷ os) numbered = let same : (index + 1) + k ≡ index + suc k = omega arith in subst (λ (i : ℕ). AreNumbered i (drop k os)) same (numbered_after (index + 1) k os numbered.1)

-- there is room below each stack pointer
pub room_below : (seed called : ℕ) (os : List Outline) (t : State) → seed < 2 ^ 64 → AreNumbered 0 os → length os ≤ 100000 → called ≤ length os → t ≡ state_of seed (drop (length os - called) os) → 48 ≤ t.sp
room_below seed called os t lt numbered few less is =
    let k : ℕ = length os - called in
    let long : length (drop k os) ≡ length os - k = length-drop k os in
    let f : Fits (length (drop k os)) (state_of seed (drop k os)) = state-fits seed lt (0 + k) (drop k os) (numbered_after 0 k os numbered) (omega arith) in
    let sp : t.sp ≡ (state_of seed (drop k os)).sp = ap (λ (s : State). s.sp) is in
    omega (arith, f.low, sp)

-- what an index past the end would give
abbrev pub past : Outline
past = record { index = 0; kind = Pushes; handling = PassesOn }

pub resumes_turn : (os : List Outline) (i : ℕ) (d : Outline) (made new : List (ℕ × ℕ)) → i < length os → made ≡ resumes_of (take i os) → new ≡ made ++ cons_option (resume_in (get_or os i d)) [] → new ≡ resumes_of (take (i + 1) os)
resumes_turn os i d made new lt was grown = grown ∙ ap (λ (ps : List (ℕ × ℕ)). ps ++ cons_option (resume_in (get_or os i d)) []) was ∙ sym (resumes_more os i d lt)

-- the outlines of a chain, once none is left to make
pub all_made : (seed x index count : ℕ) (made : List Outline) → count ≤ index → made ++ outlines_from x index (count - index) ≡ outlines seed count → made ≡ outlines seed count
all_made seed x index count made end rest = let nothing : count - index ≡ 0 = omega arith in let e : made ++ [] ≡ outlines seed count = rw nothing at rest in sym (append-nil made) ∙ e

pub numbered_made : (seed count : ℕ) (made : List Outline) → made ≡ outlines seed count → AreNumbered 0 made
numbered_made seed count made is = subst (AreNumbered 0) (sym is) (numbered_from seed 0 count)

pub length_made : (seed count : ℕ) (made : List Outline) → made ≡ outlines seed count → length made ≡ count
length_made seed count made is = ap length is ∙ length-outlines seed 0 count
