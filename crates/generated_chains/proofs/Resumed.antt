-- After its cleanup each function of a generated chain goes on where the resume table says.
use Rattle.std.proofs.Common.{◌≡◌, ℕ, zero, suc, ◌+◌, ◌-◌, ◌<◌, ◌≤◌, List, [], ◌∷◌, take, Some, None, refl, sym, ap, subst, ◌∙◌, arith, inl, inr}
use Rattle.std.specs.Prelude.{IfSome, ◌⊎◌}
use Rattle.std.specs.List.{AllByRecursion, Contains}
use Rattle.std.proofs.lemmas.Bool.{le-leb, lt-ltb, le-ltb, eq-eqb, ne_eqb}
use Rattle.unwind_definitions.specs.State.{State}
use Rattle.unwind_definitions.specs.Function.{Action, NoAction, Cleanup, Catch, action_at}
use Rattle.unwind_definitions.specs.Delivery.{frames_of, action_of_frame, cleanup_pad, resume_of, GoesOn, Resumes, inner_frames}
use Rattle.unwind_laws.proofs.Booleans.{here_or_later, none_in_nil, first, later}
use Rattle.generated_chains.specs.declared.outline.Kind.{Kind}
use Rattle.generated_chains.specs.declared.outline.Handling.{Handling}
use Rattle.generated_chains.specs.declared.outline.Handling.TheVariants.{PassesOn, CleansUp, Catches}
use Rattle.generated_chains.specs.declared.outline.Outline.{Outline}
use Rattle.generated_chains.specs.Outlines.{AreNumbered}
use Rattle.generated_chains.specs.Code.{start_of, code_at, function_of}
use Rattle.generated_chains.specs.Calls.{return_address, state_of, calls_of, resumes_of}
use Rattle.generated_chains.proofs.ChainLaw.{entered-ra}

-- ---- the table

-- no entry of functions from an index on is for a landing pad before them
none_before : (index : ℕ) (os : List Outline) → AreNumbered index os → (pad : ℕ) → pad < start_of index + 48 → resume_of (resumes_of os) pad ≡ None
none_before index [] numbered pad lt = refl
none_before index (o ∷ os) numbered pad lt = go o.handling refl (none_before (index + 1) os numbered.1 pad (omega arith))
  where
    go : (h : Handling) → o.handling ≡ h → resume_of (resumes_of os) pad ≡ None → resume_of (resumes_of (o ∷ os)) pad ≡ None
    go PassesOn e rest = rw e rest
    go Catches e rest = rw e rest
    go CleansUp e rest = rw (e, ne_eqb (start_of o.index + 48) pad (λ same. absurd (omega (arith, numbered.0)))) rest

-- the entry of a function that cleans up
resume_found : (index : ℕ) (os : List Outline) → AreNumbered index os → (o : Outline) → Contains os o → o.handling ≡ CleansUp → resume_of (resumes_of os) (start_of o.index + 48) ≡ Some (start_of o.index + 56)
resume_found index [] numbered o has e = absurd (none_in_nil o has)
resume_found index (p ∷ os) numbered o has e = go p.handling refl (here_or_later p os o has) (λ more. resume_found (index + 1) os numbered.1 o more e)
  where
    above : (j : ℕ) (qs : List Outline) → AreNumbered j qs → Contains qs o → j ≤ o.index
    above j [] n h = absurd (none_in_nil o h)
    above j (q ∷ qs) n h = elim (here_or_later q qs o h) [
      | inl same ↦ let i : q.index ≡ o.index = ap (λ (x : Outline). x.index) same in omega (arith, n.0)
      | inr more ↦ let le = above (j + 1) qs n.1 more in omega arith
    ]

    go : (h : Handling) → p.handling ≡ h → (p ≡ o) ⊎ Contains os o → (Contains os o → resume_of (resumes_of os) (start_of o.index + 48) ≡ Some (start_of o.index + 56)) → resume_of (resumes_of (p ∷ os)) (start_of o.index + 48) ≡ Some (start_of o.index + 56)
    go CleansUp f (inl same) ih = let i : p.index ≡ o.index = ap (λ (x : Outline). x.index) same in rw (f, i, eq-eqb (start_of o.index + 48) (start_of o.index + 48) refl) refl
    go PassesOn f (inl same) ih = let bad : PassesOn ≡ CleansUp = sym f ∙ ap (λ (x : Outline). x.handling) same ∙ e in absurd cc
    go Catches f (inl same) ih = let bad : Catches ≡ CleansUp = sym f ∙ ap (λ (x : Outline). x.handling) same ∙ e in absurd cc
    go PassesOn f (inr more) ih = rw f (ih more)
    go Catches f (inr more) ih = rw f (ih more)
    go CleansUp f (inr more) ih =
        let le = above (index + 1) os numbered.1 more in
        rw (f, ne_eqb (start_of p.index + 48) (start_of o.index + 48) (λ same. absurd (omega (arith, numbered.0)))) (ih more)

-- ---- where a function goes on

no_action : (kind : Kind) (start : ℕ) → action_at (code_at kind CleansUp start) ((start + 56) - 1) ≡ NoAction
no_action kind start = let a : ℕ = (start + 56) - 1 in
    rw (le-leb (start + 16) a (omega arith), le-ltb a (start + 40) (omega arith), le-leb (start + 48) a (omega arith), lt-ltb a (start + 64) (omega arith)) refl

goes_on : (kind : Kind) (start : ℕ) → GoesOn (code_at kind CleansUp start) (Some (start + 56))
goes_on kind start = let a : ℕ = (start + 56) - 1 in (
  λ e. absurd (omega arith),
  rw (le-leb (start + 16) a (omega arith), lt-ltb a (start + 64) (omega arith)) refl,
  no_action kind start,
)

-- ---- what is asked at the call

abbrev pub action_by : Handling → ℕ → Action
action_by PassesOn start = NoAction
action_by CleansUp start = Cleanup (start + 48)
action_by Catches start = Catch (start + 48)

pub action_at_call : (kind : Kind) (handling : Handling) (start : ℕ) → action_at (code_at kind handling start) ((start + 32) - 1) ≡ action_by handling start
action_at_call kind PassesOn start = refl
action_at_call kind CleansUp start = let a : ℕ = (start + 32) - 1 in rw (le-leb (start + 16) a (omega arith), lt-ltb a (start + 40) (omega arith)) refl
action_at_call kind Catches start = let a : ℕ = (start + 32) - 1 in rw (le-leb (start + 16) a (omega arith), lt-ltb a (start + 40) (omega arith)) refl

resumes_by : (resumes : List (ℕ × ℕ)) (kind : Kind) (handling : Handling) (start : ℕ) → (handling ≡ CleansUp → resume_of resumes (start + 48) ≡ Some (start + 56)) →
    IfSome (cleanup_pad (action_by handling start)) (λ pad. GoesOn (code_at kind handling start) (resume_of resumes pad))
resumes_by resumes kind PassesOn start found = tt
resumes_by resumes kind Catches start found = tt
resumes_by resumes kind CleansUp start found = rw (found refl) (goes_on kind start)

-- what a function asks of a frame that is stopped in its call
pub call_asks : (o : Outline) (s : State) → s.ra ≡ return_address o.index → action_of_frame (record { state = s; function = function_of o }) ≡ action_by o.handling (start_of o.index)
call_asks o s at = ap (λ (ra : ℕ). action_at (function_of o) (ra - 1)) at ∙ action_at_call o.kind o.handling (start_of o.index)

resumes_one : (resumes : List (ℕ × ℕ)) (o : Outline) (s : State) → s.ra ≡ return_address o.index → (o.handling ≡ CleansUp → resume_of resumes (start_of o.index + 48) ≡ Some (start_of o.index + 56)) →
    Resumes resumes (record { state = s; function = function_of o })
resumes_one resumes o s at found =
    subst (λ (a : Action). IfSome (cleanup_pad a) (λ pad. GoesOn (function_of o) (resume_of resumes pad))) (sym (call_asks o s at)) (resumes_by resumes o.kind o.handling (start_of o.index) found)

frames_resume : (resumes : List (ℕ × ℕ)) (seed : ℕ) (os : List Outline) → ((o : Outline) → Contains os o → o.handling ≡ CleansUp → resume_of resumes (start_of o.index + 48) ≡ Some (start_of o.index + 56)) →
    AllByRecursion (Resumes resumes) (frames_of (state_of seed os) (calls_of seed os))
frames_resume resumes seed [] found = tt
frames_resume resumes seed (o ∷ os) found = (
  resumes_one resumes o (state_of seed (o ∷ os)) (entered-ra o.kind o.index (state_of seed os)) (found o (first o os)),
  frames_resume resumes seed os (λ p has. found p (later o os p has)),
)

take_each : {A : Type 0} (P : A → Type 0) (n : ℕ) (xs : List A) → AllByRecursion P xs → AllByRecursion P (take n xs)
take_each P zero xs all = tt
take_each P (suc n) [] all = tt
take_each P (suc n) (x ∷ xs) all = (all.0, take_each P n xs all.1)

-- each frame inside the one that the exception goes on where the resume table says
pub inner_resume : (seed : ℕ) (os : List Outline) → AreNumbered 0 os → AllByRecursion (Resumes (resumes_of os)) (inner_frames (state_of seed os) (calls_of seed os))
inner_resume seed os numbered = take_each (Resumes (resumes_of os)) _ (frames_of (state_of seed os) (calls_of seed os)) (frames_resume (resumes_of os) seed os (resume_found 0 os numbered))
