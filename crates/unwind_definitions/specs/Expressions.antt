-- The value of an expression: a run of operations on a stack of words. DWARF 5 section 2.5.
use Rattle.std.specs.Prelude.{◌≡◌, ◌≢◌, ℕ, zero, suc, ◌+◌, ◌-◌, ◌^◌, ◌≤◌, Bool, List, [], ◌∷◌, length, drop, slice_get, Option, Some, None, Result, Ok, Err, nat_lt, nat_le, ◌==◌, if◌then◌else◌}
use Rattle.std.specs.Option.{option_map_or}
use Rattle.std.specs.Result.{result_map_both}
use Rattle.memory_image.specs.Image.{Span, number_at}
use Rattle.memory_image.specs.Results.{◌>>=◌}
use Rattle.unwind_definitions.specs.Faults.{Fault, StackFull, PopWithEmptyStack, DivisionByZero, BadBranch, TooManyOperations, ◌>>=◌}
use Rattle.unwind_definitions.specs.Input.{Input}
use Rattle.unwind_definitions.specs.Caller.{Columns, Evaluates, StepFault, Table, Unmapped, column_or_fault, fault_in, ◌+w◌}
use Rattle.unwind_definitions.specs.Operations.{Operation, Nop, Pop, Swap, Rotate, Push, PushColumn, Pick, Load, Change, Combine, Divide, Skip, Branch, operation}

-- ---- what an operation does to a stack, which holds 64 words at most; its top comes first

abbrev pub push : ℕ → List ℕ → Result (List ℕ) Fault
push a stack = if nat_lt (length stack) 64 then Ok (a ∷ stack) else Err StackFull

abbrev pub word_below : Option ℕ → Result ℕ Fault
word_below None = Err PopWithEmptyStack
word_below (Some a) = Ok a

abbrev pub pick : ℕ → List ℕ → Result (List ℕ) Fault
pick n stack = do
  a ← word_below (slice_get stack n)
  push a stack

abbrev pub after_pop : List ℕ → Result (List ℕ) Fault
after_pop [] = Err PopWithEmptyStack
after_pop (a ∷ stack) = Ok stack

abbrev pub after_swap : List ℕ → Result (List ℕ) Fault
after_swap (a ∷ b ∷ stack) = Ok (b ∷ a ∷ stack)
after_swap _ = Err PopWithEmptyStack

-- the top becomes the third, the second the top and the third the second
abbrev pub after_rotation : List ℕ → Result (List ℕ) Fault
after_rotation (a ∷ b ∷ c ∷ stack) = Ok (b ∷ c ∷ a ∷ stack)
after_rotation _ = Err PopWithEmptyStack

abbrev pub after_change : (ℕ → ℕ) → List ℕ → Result (List ℕ) Fault
after_change f [] = Err PopWithEmptyStack
after_change f (a ∷ stack) = Ok (f a ∷ stack)

abbrev pub after_combination : (ℕ → ℕ → ℕ) → List ℕ → Result (List ℕ) Fault
after_combination f (b ∷ a ∷ stack) = Ok (f a b ∷ stack)
after_combination f _ = Err PopWithEmptyStack

abbrev pub after_division : (ℕ → ℕ → ℕ) → List ℕ → Result (List ℕ) Fault
after_division f (b ∷ a ∷ stack) = if b == 0 then Err DivisionByZero else Ok (f a b ∷ stack)
after_division f _ = Err PopWithEmptyStack

-- ---- runs

-- where the next operation stands, and the words on the stack
pub record Configuration : Type 0 where
  pub position : ℕ
  pub stack : List ℕ

-- the bytes from a position on
abbrev pub rest_at : List ℕ → ℕ → Input
rest_at expression n = record { base = 0; offset = n; bytes = drop n expression }

-- the stack after an operation that goes on to the next one
abbrev pub goes_on : ℕ → Result (List ℕ) Fault → Result Configuration StepFault
goes_on next = result_map_both (λ stack. record { position = next; stack = stack }) Table

abbrev pub within : List ℕ → ℕ → List ℕ → Result Configuration StepFault
within expression target stack = if nat_le target (length expression) then Ok (record { position = target; stack = stack }) else Err (Table BadBranch)

-- a distance further, which must not lead out of the expression
abbrev pub after_move : List ℕ → ℕ → ℕ → List ℕ → Result Configuration StepFault
after_move expression next distance stack =
    if nat_lt distance (2 ^ 63) then within expression (next + distance) stack
    else (if nat_lt next (2 ^ 64 - distance) then Err (Table BadBranch) else within expression (next - (2 ^ 64 - distance)) stack)

abbrev pub after_branch : List ℕ → ℕ → ℕ → List ℕ → Result Configuration StepFault
after_branch expression next distance [] = Err (Table PopWithEmptyStack)
after_branch expression next distance (a ∷ stack) = if a == 0 then Ok (record { position = next; stack = stack }) else after_move expression next distance stack

-- the number of n bytes at an address, which all have to be mapped
abbrev pub load_or_fault : ℕ → ℕ → List ℕ → Option ℕ → Result Configuration StepFault
load_or_fault next a stack None = Err (Unmapped a)
load_or_fault next a stack (Some v) = Ok (record { position = next; stack = v ∷ stack })

abbrev pub after_load : List Span → ℕ → ℕ → List ℕ → Result Configuration StepFault
after_load image next n [] = Err (Table PopWithEmptyStack)
after_load image next n (a ∷ stack) = load_or_fault next a stack (number_at image a n)

abbrev pub after_column_push : ℕ → ℕ → List ℕ → Result ℕ StepFault → Result Configuration StepFault
after_column_push next n stack value = value >>= (λ v. goes_on next (push (v +w n) stack))

-- What an operation does to a stack. The next operation stands at `next`.
unfoldable pub done : List Span → Columns → List ℕ → ℕ → List ℕ → Operation → Result Configuration StepFault
done image columns expression next stack Nop = goes_on next (Ok stack)
done image columns expression next stack Pop = goes_on next (after_pop stack)
done image columns expression next stack Swap = goes_on next (after_swap stack)
done image columns expression next stack Rotate = goes_on next (after_rotation stack)
done image columns expression next stack (Push a) = goes_on next (push a stack)
done image columns expression next stack (PushColumn r n) = after_column_push next n stack (column_or_fault (columns r))
done image columns expression next stack (Pick n) = goes_on next (pick n stack)
done image columns expression next stack (Load n) = after_load image next n stack
done image columns expression next stack (Change f) = goes_on next (after_change f stack)
done image columns expression next stack (Combine f) = goes_on next (after_combination f stack)
done image columns expression next stack (Divide f) = goes_on next (after_division f stack)
done image columns expression next stack (Skip distance) = after_move expression next distance stack
done image columns expression next stack (Branch distance) = after_branch expression next distance stack

abbrev pub done_where_read : List Span → Columns → List ℕ → List ℕ → Result (Operation × Input) Fault → Result Configuration StepFault
done_where_read image columns expression stack (Err e) = Err (Table e)
done_where_read image columns expression stack (Ok r) = done image columns expression r.1.offset stack r.0

-- the configuration that follows by one operation, or why that can't be decoded or done
abbrev pub step : List Span → Columns → List ℕ → Configuration → Result Configuration StepFault
step image columns expression c = done_where_read image columns expression c.stack (operation (rest_at expression c.position))

-- A run: each configuration follows from the one before.
abbrev pub IsRun : List Span → Columns → List ℕ → Configuration → List Configuration → Type 0
IsRun image columns expression c [] = Unit {0}
IsRun image columns expression c (d ∷ ds) = (step image columns expression c ≡ Ok d) × IsRun image columns expression d ds

-- where a run ends
abbrev pub last_of : Configuration → List Configuration → Configuration
last_of c [] = c
last_of c (d ∷ ds) = last_of d ds

abbrev pub is_at_end : List ℕ → Configuration → Bool
is_at_end expression c = c.position == length expression

abbrev pub top_of : List ℕ → Option ℕ
top_of [] = None
top_of (a ∷ stack) = Some a

-- A run of at most so many operations ends at the expression's length with this word on top.
pub record HasValue (image : List Span) (columns : Columns) (expression : List ℕ) (limit : ℕ) (start : Configuration) (value : ℕ) : Type 0 where
  pub run : List Configuration
  pub follows : IsRun image columns expression start run
  pub few : length run ≤ limit
  pub ends : (last_of start run).position ≡ length expression
  pub top : top_of (last_of start run).stack ≡ Some value

-- Why a run doesn't go on, where so many further operations are allowed, and has no value: at the end there is no word;
-- or else no further operation is allowed, or the next can't be decoded or done.
abbrev pub fault_at : List Span → Columns → List ℕ → ℕ → Configuration → Option StepFault
fault_at image columns expression left c =
    if is_at_end expression c then option_map_or (λ a. None) (top_of c.stack) (Some (Table PopWithEmptyStack))
    else (if left == 0 then Some (Table TooManyOperations) else fault_in (step image columns expression c))

-- A run of at most so many operations ends with this fault.
pub record HasFault (image : List Span) (columns : Columns) (expression : List ℕ) (limit : ℕ) (start : Configuration) (fault : StepFault) : Type 0 where
  pub run : List Configuration
  pub follows : IsRun image columns expression start run
  pub few : length run ≤ limit
  pub stops : fault_at image columns expression (limit - length run) (last_of start run) ≡ Some fault

-- A run of as many operations as are allowed isn't at the end.
pub record IsEndless (image : List Span) (columns : Columns) (expression : List ℕ) (limit : ℕ) (start : Configuration) : Type 0 where
  pub run : List Configuration
  pub follows : IsRun image columns expression start run
  pub full : length run ≡ limit
  pub goes_on : (last_of start run).position ≢ length expression

-- An expression begins at its first byte. It may take 10,000 operations and one more for each of its bytes.
abbrev pub initial_configuration : List ℕ → Configuration
initial_configuration stack = record { position = 0; stack = stack }

abbrev pub operation_limit : List ℕ → ℕ
operation_limit expression = 10000 + length expression

-- a value, or the first fault
abbrev pub HasAnswer : List Span → Columns → List ℕ → ℕ → Configuration → Result ℕ StepFault → Type 0
HasAnswer image columns expression limit start (Ok value) = HasValue image columns expression limit start value
HasAnswer image columns expression limit start (Err fault) = HasFault image columns expression limit start fault

-- ---- the one answer, found by running

abbrev pub top_or_fault : Option ℕ → Result ℕ StepFault
top_or_fault None = Err (Table PopWithEmptyStack)
top_or_fault (Some a) = Ok a

abbrev pub after_step : (Configuration → Result ℕ StepFault) → Result Configuration StepFault → Result ℕ StepFault
after_step further next = next >>= further

-- the answer of a configuration, where so many operations are allowed
unfoldable pub answer_from : List Span → Columns → List ℕ → ℕ → Configuration → Result ℕ StepFault
answer_from image columns expression zero c = if is_at_end expression c then top_or_fault (top_of c.stack) else Err (Table TooManyOperations)
answer_from image columns expression (suc left) c =
    if is_at_end expression c then top_or_fault (top_of c.stack)
    else after_step (answer_from image columns expression left) (step image columns expression c)

-- the evaluator that a caller's definition takes
unfoldable pub evaluation : List Span → Evaluates
evaluation image expression stack columns = answer_from image columns expression (operation_limit expression) (initial_configuration stack)
