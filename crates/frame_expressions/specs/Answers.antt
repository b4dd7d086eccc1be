-- What the code's calls answer, in the words of the definitions.
use Rattle.std.specs.Prelude.{◌≡◌, ℕ, List, [], ◌∷◌, Option, Some, None, Result, Ok, Err}
use Rattle.std.specs.Result.{result_map_both}
use Rattle.unwind_definitions.specs.declared.error.Error.{Error as Fault}
use Rattle.unwind_definitions.specs.Caller.{StepFault, Table, Unmapped}
use Rattle.unwind_definitions.specs.Expressions.{Configuration}
use Rattle.frame_expressions.specs.declared.error.EvalError.{EvalError}
use Rattle.frame_expressions.specs.declared.error.EvalError.TheVariants as code

abbrev pub fault_of : EvalError → StepFault
fault_of (code.Table e) = Table e
fault_of (code.Unmapped a) = Unmapped a

-- a value or a fault, as the code answers it
abbrev pub value_given : {A : Type 0} → Result A EvalError → Result A StepFault
value_given = result_map_both (λ v. v) fault_of

-- the stack that an expression begins with
abbrev pub stack_of : Option ℕ → List ℕ
stack_of None = []
stack_of (Some a) = a ∷ []

-- A call leaves the stack that is due, or answers its fault.
abbrev pub Leaves : Result (Unit {0}) Fault → List ℕ → Result (List ℕ) Fault → Type 0
Leaves (Ok done) new due = due ≡ Ok new
Leaves (Err e) new due = due ≡ Err e

-- A call answers the next position and leaves the stack that are due, or answers their fault.
abbrev pub GoesOn : Result ℕ EvalError → List ℕ → Result Configuration StepFault → Type 0
GoesOn (Ok next) new due = due ≡ Ok (record { position = next; stack = new })
GoesOn (Err e) new due = due ≡ Err (fault_of e)
