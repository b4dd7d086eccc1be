-- A caller's registers, column by column, as the code finds them: the rules of a row applied one after another.
use Rattle.std.specs.Prelude.{ℕ, ◌==◌, List, [], ◌∷◌, Option, Some, None, Result, Ok, Err, if◌then◌else◌}
use Rattle.std.specs.Result.{result_map_both}
use Rattle.memory_image.specs.Image.{Span}
use Rattle.memory_image.specs.Results.{◌>>=◌}
use Rattle.unwind_definitions.specs.declared.error.Error.TheVariants.{UnsupportedRegister}
use Rattle.unwind_definitions.specs.Instructions.{Rule}
use Rattle.unwind_definitions.specs.Caller.{Columns, Machine, Evaluates, StepFault, Table, Unmapped, rule_value}
use Rattle.unwinding_frames.specs.declared.frame.StepError.{StepError}
use Rattle.unwinding_frames.specs.declared.frame.StepError.TheVariants as code
use Rattle.frame_expressions.specs.declared.error.EvalError.{EvalError}
use Rattle.frame_expressions.specs.declared.error.EvalError.TheVariants as expressions

abbrev pub step_error : EvalError → StepError
step_error (expressions.Table e) = code.Table e
step_error (expressions.Unmapped a) = code.Unmapped a

-- the columns of a machine's stack pointer and return address
abbrev pub machine_of : ℕ → ℕ → Machine
machine_of sp ra = record { stack_pointer = sp; return_address = ra }

abbrev pub fault_of : StepError → StepFault
fault_of (code.Table e) = Table e
fault_of (code.Unmapped a) = Unmapped a

-- a value or a fault, as the code answers it
abbrev pub value_given : {A : Type 0} → Result A StepError → Result A StepFault
value_given = result_map_both (λ v. v) fault_of

-- a context's columns or a fault
abbrev pub columns_given : {C : Type 0} → (C → Columns) → Result C StepError → Result Columns StepFault
columns_given columns = result_map_both columns fault_of

-- the context that a call leaves in its place, or its fault
abbrev pub written_in : {C : Type 0} → Result (Unit {0}) StepError → C → Result C StepError
written_in (Ok done) c = Ok c
written_in (Err e) c = Err e

-- the columns with another value in one, which the machine has to have
abbrev pub written_to : Option ℕ → Columns → ℕ → ℕ → Result Columns StepFault
written_to None columns k v = Err (Table UnsupportedRegister)
written_to (Some old) columns k v = Ok (λ j. if j == k then Some v else columns j)

abbrev pub with_column_set : Columns → ℕ → ℕ → Result Columns StepFault
with_column_set columns k v = written_to (columns k) columns k v

-- a rule gives its column a value from the old columns
abbrev pub rule_applied : Evaluates → List Span → Columns → ℕ → ℕ × Rule → Columns → Result Columns StepFault
rule_applied evaluates image old cfa p now = rule_value evaluates image old cfa p.0 p.1 >>= (λ v. with_column_set now p.0 v)

abbrev pub rules_applied : Evaluates → List Span → Columns → ℕ → List (ℕ × Rule) → Columns → Result Columns StepFault
rules_applied evaluates image old cfa [] now = Ok now
rules_applied evaluates image old cfa (p ∷ ps) now = rule_applied evaluates image old cfa p now >>= rules_applied evaluates image old cfa ps
