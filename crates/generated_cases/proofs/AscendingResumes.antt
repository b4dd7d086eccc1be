-- Return addresses that are added by ascending pad are the table.
use Rattle.std.proofs.Common.{◌≡◌, ℕ, ◌+◌, ◌<◌, ◌≤◌, List, [], ◌∷◌, ◌++◌, None, refl, sym, ap, ◌∙◌, arith}
use Rattle.std.specs.List.{AllByRecursion}
use Rattle.std.proofs.lemmas.List.{append-nil, append_assoc}
use Rattle.std.proofs.lemmas.Bool.{le-ltb, ne_eqb}
use Rattle.stack_deliver.specs.Resumes.{return_of, by_pad, with_resume, with_resumes, resume_table}
use Rattle.generated_chains.specs.declared.outline.Handling.{Handling}
use Rattle.generated_chains.specs.declared.outline.Handling.TheVariants.{PassesOn, CleansUp, Catches}
use Rattle.generated_chains.specs.declared.outline.Outline.{Outline}
use Rattle.generated_chains.specs.Outlines.{AreNumbered}
use Rattle.generated_chains.specs.Code.{start_of}
use Rattle.generated_chains.specs.Calls.{resumes_of}

abbrev LieBelow : ℕ → List (ℕ × ℕ) → Type 0
LieBelow a es = AllByRecursion (λ (e : ℕ × ℕ). e.0 < a) es

none_yet : (es : List (ℕ × ℕ)) (pad : ℕ) → LieBelow pad es → return_of es pad ≡ None
none_yet [] pad below = refl
none_yet (e ∷ es) pad below = rw (ne_eqb e.0 pad (λ same. absurd (omega (arith, below.0)))) (none_yet es pad below.1)

comes_last : (es : List (ℕ × ℕ)) (pad ret : ℕ) → LieBelow pad es → by_pad es pad ret ≡ es ++ (pad, ret) ∷ []
comes_last [] pad ret below = refl
comes_last (e ∷ es) pad ret below = rw (le-ltb pad e.0 (omega (arith, below.0))) (ap (λ ds. e ∷ ds) (comes_last es pad ret below.1))

added_last : (es : List (ℕ × ℕ)) (pad ret : ℕ) → LieBelow pad es → with_resume es pad ret ≡ es ++ (pad, ret) ∷ []
added_last es pad ret below = rw (none_yet es pad below) (comes_last es pad ret below)

raised : (es : List (ℕ × ℕ)) (a b : ℕ) → a ≤ b → LieBelow a es → LieBelow b es
raised [] a b le below = tt
raised (e ∷ es) a b le below = (omega (arith, below.0), raised es a b le below.1)

with_last : (es : List (ℕ × ℕ)) (e : ℕ × ℕ) (a : ℕ) → LieBelow a es → e.0 < a → LieBelow a (es ++ e ∷ [])
with_last [] e a below lt = (lt, tt)
with_last (d ∷ ds) e a below lt = (below.0, with_last ds e a below.1 lt)

added_from : (index : ℕ) (es : List (ℕ × ℕ)) (os : List Outline) → AreNumbered index os → LieBelow (start_of index + 48) es → with_resumes es (resumes_of os) ≡ es ++ resumes_of os
added_from index es [] numbered below = sym (append-nil es)
added_from index es (o ∷ os) numbered below = go o.handling refl (λ ds less. added_from (index + 1) ds os numbered.1 less)
  where
    go : (h : Handling) → o.handling ≡ h → ((ds : List (ℕ × ℕ)) → LieBelow (start_of (index + 1) + 48) ds → with_resumes ds (resumes_of os) ≡ ds ++ resumes_of os) → with_resumes es (resumes_of (o ∷ os)) ≡ es ++ resumes_of (o ∷ os)
    go PassesOn e later = rw e (later es (raised es (start_of index + 48) (start_of (index + 1) + 48) (omega arith) below))
    go Catches e later = rw e (later es (raised es (start_of index + 48) (start_of (index + 1) + 48) (omega arith) below))
    go CleansUp e later =
        let p : ℕ × ℕ = (start_of o.index + 48, start_of o.index + 56) in
        let here : LieBelow (start_of o.index + 48) es = raised es (start_of index + 48) (start_of o.index + 48) (omega (arith, numbered.0)) below in
        let next : LieBelow (start_of (index + 1) + 48) (es ++ p ∷ []) = with_last es p (start_of (index + 1) + 48) (raised es (start_of index + 48) (start_of (index + 1) + 48) (omega arith) below) (omega (arith, numbered.0)) in
        rw (e, added_last es (start_of o.index + 48) (start_of o.index + 56) here) (later (es ++ p ∷ []) next ∙ append_assoc es (p ∷ []) (resumes_of os))

pub ascending_resumes : (os : List Outline) → AreNumbered 0 os → resume_table (resumes_of os) ≡ resumes_of os
ascending_resumes os numbered = added_from 0 [] os numbered tt
