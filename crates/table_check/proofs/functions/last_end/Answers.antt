use Rattle.std.proofs.Common.{◌≡◌, suc, ◌-◌, List, [], ◌∷◌, length, map, Some, ap, ◌∙◌, arith}
use Rattle.std.specs.Prelude.{slice_get}
use Rattle.unwind_definitions.specs.Function.{last_end}
use Rattle.table_check.specs.declared.claims.ClaimedStep.{ClaimedStep}
use Rattle.table_check.specs.ClaimViews.{prologue_step_of}
use Rattle.table_check.proofs.functions.last_end.Goals as goal

last_is : (xs : List ClaimedStep) (s : ClaimedStep) → Some s ≡ slice_get xs (length xs - 1) → s.end ≡ last_end (map prologue_step_of xs)
last_is [] s is = absurd cc
last_is (x ∷ []) s is = let h : Some s ≡ Some x = is in let e : s ≡ x = cc in ap (λ (y : ClaimedStep). y.end) e
last_is (x ∷ y ∷ xs) s is =
    let same : length (x ∷ y ∷ xs) - 1 ≡ suc (length (y ∷ xs) - 1) = omega arith in
    last_is (y ∷ xs) s (is ∙ ap (slice_get (x ∷ y ∷ xs)) same)

pub returns-in-Some : goal.returns-in-Some
returns-in-Some c = last_is c.args.steps.now c.in-Some.step.now c.in-Some.ensures.value
