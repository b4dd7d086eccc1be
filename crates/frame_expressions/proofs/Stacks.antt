-- The words of a stack by the places that hold them.
use Rattle.std.proofs.Common.{◌≡◌, ℕ, zero, suc, ◌+◌, ◌-◌, ◌<◌, ◌≤◌, List, ◌∷◌, length, get_or, Some, None, Result, Ok, Err, refl, sym, ap, ◌∙◌, arith, add-one}
use Rattle.std.specs.Prelude.{slice_set, slice_get}
use Rattle.std.proofs.lemmas.List.{get_or-set_same, get_or-set_other}
use Rattle.std.proofs.lemmas.Option.{slice_get_past}
use Rattle.std.proofs.lemmas.Bool.{lt-ltb}
use Rattle.unwind_definitions.specs.Expressions.{push, pick}
use Rattle.frame_expressions.specs.Stacked.{words_stacked}
use Rattle.frame_expressions.specs.Answers.{Leaves}
use Rattle.unwind_definitions.specs.declared.error.Error.{Error as Fault}
use Rattle.unwind_definitions.specs.declared.error.Error.TheVariants.{PopWithEmptyStack}

pub length-stacked : (words : List ℕ) (n : ℕ) → length (words_stacked words n) ≡ n
length-stacked words zero = refl
length-stacked words (suc n) = ap suc (length-stacked words n)

stacked-set : (words : List ℕ) (n k a : ℕ) → n ≤ k → words_stacked (slice_set words k a) n ≡ words_stacked words n
stacked-set words zero k a h = refl
stacked-set words (suc n) k a h = rw (get_or-set_other words k n a 0 (λ e. absurd (omega arith)), stacked-set words n k a (omega arith)) refl

pub stacked-push : (words : List ℕ) (n a : ℕ) → n < length words → words_stacked (slice_set words n a) (n + 1) ≡ a ∷ words_stacked words n
stacked-push words n a h = rw (add-one, get_or-set_same words n a 0 h, stacked-set words n n a (omega arith)) refl

pub stacked-pick : (words : List ℕ) (n k : ℕ) → k < n → slice_get (words_stacked words n) k ≡ Some (get_or words (n - 1 - k) 0)
stacked-pick words zero k h = absurd (omega arith)
stacked-pick words (suc n) zero h = let e : n ≡ suc n - 1 - 0 = omega arith in ap (λ i. Some (get_or words i 0)) e
stacked-pick words (suc n) (suc k) h = let e : n - 1 - k ≡ suc n - 1 - suc k = omega arith in stacked-pick words n k (omega arith) ∙ ap (λ i. Some (get_or words i 0)) e

pub stacked-short : (words : List ℕ) (n k : ℕ) → n ≤ k → slice_get (words_stacked words n) k ≡ None
stacked-short words n k h = slice_get_past (words_stacked words n) k (rw (length-stacked words n) h)

pub push-stacked : (words : List ℕ) (n a : ℕ) → length words ≡ 64 → n < 64 → push a (words_stacked words n) ≡ Ok (words_stacked (slice_set words n a) (n + 1))
push-stacked words n a l h =
    let room : n < length words = omega arith in
    rw (length-stacked words n, lt-ltb n 64 h, stacked-push words n a room) refl

pub pick-short : (words stack : List ℕ) (n k : ℕ) → words_stacked words n ≡ stack → n ≤ k → pick k stack ≡ Err PopWithEmptyStack
pick-short words stack n k e h = rw (sym e, stacked-short words n k h) refl

pub pick-stacked : (words stack : List ℕ) (n k : ℕ) (r : Result (Unit {0}) Fault) (new : List ℕ) → words_stacked words n ≡ stack → k < n → Leaves r new (push (get_or words (n - 1 - k) 0) stack) → Leaves r new (pick k stack)
pick-stacked words stack n k r new e h leaves = let found : slice_get stack k ≡ Some (get_or words (n - 1 - k) 0) = rw (sym e) (stacked-pick words n k h) in rw found leaves
