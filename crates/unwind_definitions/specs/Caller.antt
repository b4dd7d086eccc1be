-- The caller of a frame by a row, over all columns of a machine. DWARF 5 section 6.4.1.
use Rattle.std.specs.Prelude.{ℕ, zero, suc, ◌+◌, ◌%◌, ◌^◌, List, [], ◌∷◌, Option, Some, None, Result, Ok, Err, ◌==◌, if◌then◌else◌}
use Rattle.std.specs.Option.{option_map_or, option_or}
use Rattle.memory_image.specs.Image.{Span, word_at}
use Rattle.memory_image.specs.Results.{◌>>=◌, result_map}
use Rattle.unwind_definitions.specs.Columns as column
use Rattle.unwind_definitions.specs.Faults.{Fault, UnsupportedRegister, NoCfaRegister}
use Rattle.unwind_definitions.specs.Instructions.{Rule, Undefined, SameValue, Offset, ValOffset, InRegister, Expression, ValExpression}
use Rattle.unwind_definitions.specs.Row.{RowInstructions, CfaRule, ColumnAndOffset, ByExpression, rule_of, cfa_rule}

-- what the columns of a machine hold; None where there is no such column
abbrev pub Columns : Type 0
Columns = ℕ → Option ℕ

-- the columns of a machine's stack pointer and return address
pub record Machine : Type 0 where
  pub stack_pointer : ℕ
  pub return_address : ℕ

-- System V x86-64 psABI, table of DWARF register numbers
abbrev pub x86_64 : Machine
x86_64 = record { stack_pointer = column.rsp; return_address = column.ra }

pub data StepFault : Type 0 where
  Table : Fault → StepFault
  Unmapped : ℕ → StepFault

-- a sum of words
infixl 60 ◌+w◌
abbrev pub ◌+w◌ : ℕ → ℕ → ℕ
a +w b = (a + b) % 2 ^ 64

-- the word at an address, which has to be mapped
abbrev pub word_or_fault : List Span → ℕ → Result ℕ StepFault
word_or_fault image a = option_map_or Ok (word_at image a) (Err (Unmapped a))

-- what a column holds, which the machine has to have
abbrev pub column_or_fault : Option ℕ → Result ℕ StepFault
column_or_fault None = Err (Table UnsupportedRegister)
column_or_fault (Some v) = Ok v

-- the value of an expression, from the words on its stack and the columns
abbrev pub Evaluates : Type 0
Evaluates = List ℕ → List ℕ → Columns → Result ℕ StepFault

-- the value that a rule gives a column, from the CFA and the callee's columns
abbrev pub rule_value : Evaluates → List Span → Columns → ℕ → ℕ → Rule → Result ℕ StepFault
rule_value evaluates image columns cfa c Undefined = Ok 0
rule_value evaluates image columns cfa c SameValue = column_or_fault (columns c)
rule_value evaluates image columns cfa c (Offset n) = word_or_fault image (cfa +w n)
rule_value evaluates image columns cfa c (ValOffset n) = Ok (cfa +w n)
rule_value evaluates image columns cfa c (InRegister q) = column_or_fault (columns q)
rule_value evaluates image columns cfa c (Expression bytes) = evaluates bytes (cfa ∷ []) columns >>= word_or_fault image
rule_value evaluates image columns cfa c (ValExpression bytes) = evaluates bytes (cfa ∷ []) columns

-- a value for a column, which the machine has to have; that shows once the value is found
abbrev pub value_for_column : Option ℕ → Result ℕ StepFault → Result (Option ℕ) StepFault
value_for_column old (Err e) = Err e
value_for_column None (Ok v) = Err (Table UnsupportedRegister)
value_for_column (Some old) (Ok v) = Ok (Some v)

abbrev pub offset_from : ℕ → Result ℕ StepFault → Result ℕ StepFault
offset_from n = result_map (λ v. v +w n)

abbrev pub cfa_value : Evaluates → Columns → CfaRule → Result ℕ StepFault
cfa_value evaluates columns (ColumnAndOffset c n) = offset_from n (column_or_fault (columns c))
cfa_value evaluates columns (ByExpression bytes) = evaluates bytes [] columns

-- what a column without a rule holds in the caller: the stack pointer the CFA, the return address 0, others what they held
abbrev pub value_without_rule : Machine → Columns → ℕ → ℕ → Option ℕ
value_without_rule machine columns cfa c = if c == machine.stack_pointer then Some cfa else (if c == machine.return_address then Some 0 else columns c)

-- what a column holds in the caller
abbrev pub column_value : Machine → Evaluates → List Span → Columns → ℕ → RowInstructions → ℕ → Result (Option ℕ) StepFault
column_value machine evaluates image columns cfa run c = option_map_or (λ rule. value_for_column (columns c) (rule_value evaluates image columns cfa c rule)) (rule_of run c) (Ok (value_without_rule machine columns cfa c))

abbrev pub fault_in : {A : Type 0} → Result A StepFault → Option StepFault
fault_in (Ok v) = None
fault_in (Err e) = Some e

abbrev pub value_in : Result (Option ℕ) StepFault → Option ℕ
value_in (Ok v) = v
value_in (Err e) = None

-- the fault of the lowest column below n that has one
unfoldable pub first_fault_below : ℕ → (ℕ → Result (Option ℕ) StepFault) → Option StepFault
first_fault_below zero value = None
first_fault_below (suc n) value = option_or (first_fault_below n value) (fault_in (value n))

abbrev pub unless_fault : Option StepFault → Columns → Result Columns StepFault
unless_fault None columns = Ok columns
unless_fault (Some e) columns = Err e

-- registers are numbered below this
abbrev pub column_limit : ℕ
column_limit = 2 ^ 16

abbrev pub caller_with : Machine → Evaluates → List Span → Columns → RowInstructions → Result ℕ StepFault → Result Columns StepFault
caller_with machine evaluates image columns run cfa = cfa >>= (λ cfa.
    unless_fault (first_fault_below column_limit (column_value machine evaluates image columns cfa run)) (λ c. value_in (column_value machine evaluates image columns cfa run c)))

-- The caller's columns, or the first fault: that of the CFA, or else of the lowest column.
abbrev pub caller_of : Machine → Evaluates → List Span → Columns → RowInstructions → Result Columns StepFault
caller_of machine evaluates image columns run = option_map_or (λ rule. caller_with machine evaluates image columns run (cfa_value evaluates columns rule)) (cfa_rule run) (Err (Table NoCfaRegister))
