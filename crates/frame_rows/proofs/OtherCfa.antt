-- A body is added that has the rules of another.
use Rattle.std.proofs.Common.{◌≡◌, ℕ, ◌<◌, List, [], ◌∷◌, ◌++◌, length, get_or, Some, Result, Ok, refl, sym, ap, ◌∙◌, subst, arith, length-append}
use Rattle.std.proofs.Math.Seq.{get_or-append_seam}
use Rattle.unwind_definitions.specs.declared.error.Error.{Error as Fault}
use Rattle.frame_rows.specs.Bodies.{Grows, Says}
use Rattle.frame_rows.specs.RowValue.{RowValue}
use Rattle.frame_rows.specs.SameRules.{HasRules, IsBodyWith}

pub rules_there : (bodies : List (Result RowValue Fault)) (place : ℕ) (row : RowValue) → place < length bodies → ((d : Result RowValue Fault) → get_or bodies place d ≡ Ok row) → IsBodyWith bodies (Some place) row.rules
rules_there bodies place row within is = (within, λ d. subst (λ (r : Result RowValue Fault). HasRules r row.rules) (sym (is d)) refl)

pub grows_by : (old new more : List (Result RowValue Fault)) → new ≡ old ++ more → Grows old new
grows_by old new more is = record { more = more; grown = is }

pub says_last : (old new : List (Result RowValue Fault)) (place : ℕ) (answer : Result RowValue Fault) → place ≡ length old → new ≡ old ++ answer ∷ [] → Says new place answer
says_last old new place answer is grown = record {
  within = let n = ap length grown in let m = length-append old (answer ∷ []) in omega arith;
  there = λ d. ap (λ (l : List (Result RowValue Fault)). get_or l place d) grown ∙ ap (λ (i : ℕ). get_or (old ++ answer ∷ []) i d) is ∙ get_or-append_seam old answer [] d;
}
