-- What an answer of the code says of runs.
use Rattle.std.proofs.Common.{◌≡◌, ◌↔◌, ℕ, List, Result, Ok, Err, sym, ap, ◌∙◌}
use Rattle.memory_image.specs.Image.{Span}
use Rattle.unwind_definitions.specs.Caller.{Columns, StepFault, Table}
use Rattle.unwind_definitions.specs.Expressions.{HasValue, HasFault, IsEndless, initial_configuration, operation_limit, evaluation}
use Rattle.frame_expressions.specs.declared.error.EvalError.{EvalError}
use Rattle.frame_expressions.specs.Answers.{value_given}
use Rattle.frame_expressions.specs.Runs.{answer_is}
use Rattle.frame_expressions.proofs.Counting.{endless_is}
use Rattle.unwind_definitions.specs.declared.error.Error.TheVariants.{TooManyOperations}

given_value : (r : Result ℕ EvalError) (v : ℕ) → (r ≡ Ok v) ↔ (value_given r ≡ Ok v)
given_value (Ok w) v = (λ e. let same : w ≡ v = cc in ap Ok same, λ e. let same : w ≡ v = cc in ap Ok same)
given_value (Err f) v = (λ e. absurd cc, λ e. absurd cc)

pub answered_value : (image : List Span) (expression stack : List ℕ) (columns : Columns) (r : Result ℕ EvalError) (v : ℕ) → value_given r ≡ evaluation image expression stack columns
    → (r ≡ Ok v) ↔ HasValue image columns expression (operation_limit expression) (initial_configuration stack) v
unfolding evaluation
answered_value image expression stack columns r v e =
    let runs = answer_is image columns expression (operation_limit expression) (initial_configuration stack) (Ok v) in
    let given = given_value r v in
    (λ h. runs.0 (sym e ∙ given.0 h), λ has. given.1 (e ∙ runs.1 has))

pub answered_fault : (image : List Span) (expression stack : List ℕ) (columns : Columns) (r : Result ℕ EvalError) (f : StepFault) → value_given r ≡ evaluation image expression stack columns
    → (value_given r ≡ Err f) ↔ HasFault image columns expression (operation_limit expression) (initial_configuration stack) f
unfolding evaluation
answered_fault image expression stack columns r f e =
    let runs = answer_is image columns expression (operation_limit expression) (initial_configuration stack) (Err f) in
    (λ h. runs.0 (sym e ∙ h), λ has. e ∙ runs.1 has)

pub answered_endless : (image : List Span) (expression stack : List ℕ) (columns : Columns) (r : Result ℕ EvalError) → value_given r ≡ evaluation image expression stack columns
    → (value_given r ≡ Err (Table TooManyOperations)) ↔ IsEndless image columns expression (operation_limit expression) (initial_configuration stack)
answered_endless image expression stack columns r e =
    let faulty = answered_fault image expression stack columns r (Table TooManyOperations) e in
    let counted = endless_is image columns expression (operation_limit expression) (initial_configuration stack) in
    (λ h. counted.0 (faulty.0 h), λ runs. faulty.1 (counted.1 runs))
