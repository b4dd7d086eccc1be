-- An expression has too many operations exactly where a run of as many as are allowed doesn't end: no operation tells of that by itself.
use Rattle.std.proofs.Common.{◌≡◌, ◌≢◌, ◌↔◌, ℕ, ◌+◌, ◌-◌, ◌^◌, Bool, true, false, List, [], ◌∷◌, length, Option, Some, None, Result, Ok, Err, nat_lt, nat_le, ◌==◌, refl, arith}
use Rattle.std.specs.Prelude.{if◌then◌else◌, slice_get}
use Rattle.std.proofs.lemmas.Bool.{eqb-true, eqb-false}
use Rattle.memory_image.specs.Image.{Span, number_at}
use Rattle.unwind_definitions.specs.declared.error.Error.{Error as Fault}
use Rattle.unwind_definitions.specs.declared.error.Error.TheVariants.{StackFull, PopWithEmptyStack, DivisionByZero, BadBranch, UnsupportedRegister, TooManyOperations}
use Rattle.unwind_definitions.specs.Input.{Input}
use Rattle.unwind_definitions.specs.Caller.{Columns, StepFault, Table, Unmapped, column_or_fault, fault_in}
use Rattle.unwind_definitions.specs.Operations.{Operation, Nop, Pop, Swap, Rotate, Push, PushColumn, Pick, Load, Change, Combine, Divide, Skip, Branch, operation}
use Rattle.unwind_definitions.specs.Expressions.{Configuration, push, pick, after_pop, after_swap, after_rotation, after_change, after_combination, after_division, goes_on, within, after_move, after_branch, after_load, load_or_fault, after_column_push, done, done_where_read, step, rest_at, last_of, is_at_end, top_of, fault_at, HasFault, IsEndless}
use Rattle.frame_expressions.proofs.Within.{operation_counts_none}

-- a result that doesn't tell of too many operations
abbrev CountsNone : {A : Type 0} → Result A Fault → Type 0
CountsNone (Ok r) = Unit {0}
CountsNone (Err e) = e ≢ TooManyOperations

abbrev Tells : StepFault → Type 0
Tells (Table e) = e ≢ TooManyOperations
Tells (Unmapped a) = Unit {0}

abbrev TellsNone : {A : Type 0} → Result A StepFault → Type 0
TellsNone (Ok r) = Unit {0}
TellsNone (Err e) = Tells e

full_apart : StackFull ≢ TooManyOperations
full_apart e = cc

empty_apart : PopWithEmptyStack ≢ TooManyOperations
empty_apart e = cc

division_apart : DivisionByZero ≢ TooManyOperations
division_apart e = cc

branch_apart : BadBranch ≢ TooManyOperations
branch_apart e = cc

register_apart : UnsupportedRegister ≢ TooManyOperations
register_apart e = cc

chosen : {A : Type 0} (b : Bool) (r s : Result A Fault) → CountsNone r → CountsNone s → CountsNone (if b then r else s)
chosen true r s h k = h
chosen false r s h k = k

chosen_step : {A : Type 0} (b : Bool) (r s : Result A StepFault) → TellsNone r → TellsNone s → TellsNone (if b then r else s)
chosen_step true r s h k = h
chosen_step false r s h k = k

push_counts : (a : ℕ) (stack : List ℕ) → CountsNone (push a stack)
push_counts a stack = chosen (nat_lt (length stack) 64) (Ok (a ∷ stack)) (Err StackFull) tt full_apart

pick_counts : (n : ℕ) (stack : List ℕ) → CountsNone (pick n stack)
pick_counts n stack = go (slice_get stack n) refl
  where
    go : (w : Option ℕ) → slice_get stack n ≡ w → CountsNone (pick n stack)
    go None e = rw e empty_apart
    go (Some a) e = rw e (push_counts a stack)

popped_counts : (stack : List ℕ) → CountsNone (after_pop stack)
popped_counts [] = empty_apart
popped_counts (a ∷ stack) = tt

swapped_counts : (stack : List ℕ) → CountsNone (after_swap stack)
swapped_counts [] = empty_apart
swapped_counts (a ∷ []) = empty_apart
swapped_counts (a ∷ b ∷ stack) = tt

rotated_counts : (stack : List ℕ) → CountsNone (after_rotation stack)
rotated_counts [] = empty_apart
rotated_counts (a ∷ []) = empty_apart
rotated_counts (a ∷ b ∷ []) = empty_apart
rotated_counts (a ∷ b ∷ c ∷ stack) = tt

changed_counts : (f : ℕ → ℕ) (stack : List ℕ) → CountsNone (after_change f stack)
changed_counts f [] = empty_apart
changed_counts f (a ∷ stack) = tt

combined_counts : (f : ℕ → ℕ → ℕ) (stack : List ℕ) → CountsNone (after_combination f stack)
combined_counts f [] = empty_apart
combined_counts f (a ∷ []) = empty_apart
combined_counts f (a ∷ b ∷ stack) = tt

divided_counts : (f : ℕ → ℕ → ℕ) (stack : List ℕ) → CountsNone (after_division f stack)
divided_counts f [] = empty_apart
divided_counts f (a ∷ []) = empty_apart
divided_counts f (b ∷ a ∷ stack) = chosen (b == 0) (Err DivisionByZero) (Ok (f a b ∷ stack)) division_apart tt

goes_on_tells : (next : ℕ) (r : Result (List ℕ) Fault) → CountsNone r → TellsNone (goes_on next r)
goes_on_tells next (Ok stack) h = tt
goes_on_tells next (Err e) h = h

within_tells : (x : List ℕ) (target : ℕ) (stack : List ℕ) → TellsNone (within x target stack)
within_tells x target stack = chosen_step (nat_le target (length x)) (Ok (record { position = target; stack = stack })) (Err (Table BadBranch)) tt branch_apart

moved_tells : (x : List ℕ) (next distance : ℕ) (stack : List ℕ) → TellsNone (after_move x next distance stack)
moved_tells x next distance stack =
    chosen_step (nat_lt distance (2 ^ 63)) _ _ (within_tells x (next + distance) stack)
    (chosen_step (nat_lt next (2 ^ 64 - distance)) (Err (Table BadBranch)) (within x (next - (2 ^ 64 - distance)) stack) branch_apart (within_tells x (next - (2 ^ 64 - distance)) stack))

branched_tells : (x : List ℕ) (next distance : ℕ) (stack : List ℕ) → TellsNone (after_branch x next distance stack)
branched_tells x next distance [] = empty_apart
branched_tells x next distance (a ∷ stack) = chosen_step (a == 0) (Ok (record { position = next; stack = stack })) (after_move x next distance stack) tt (moved_tells x next distance stack)

loaded_tells : (image : List Span) (next n : ℕ) (stack : List ℕ) → TellsNone (after_load image next n stack)
loaded_tells image next n [] = empty_apart
loaded_tells image next n (a ∷ stack) = go (number_at image a n)
  where
    go : (v : Option ℕ) → TellsNone (load_or_fault next a stack v)
    go None = tt
    go (Some v) = tt

pushed_column_tells : (next n : ℕ) (stack : List ℕ) (v : Option ℕ) → TellsNone (after_column_push next n stack (column_or_fault v))
pushed_column_tells next n stack None = register_apart
pushed_column_tells next n stack (Some v) = goes_on_tells next _ (push_counts _ stack)

done_tells : (image : List Span) (columns : Columns) (x : List ℕ) (next : ℕ) (stack : List ℕ) (o : Operation) → TellsNone (done image columns x next stack o)
unfolding done
done_tells image columns x next stack Nop = tt
done_tells image columns x next stack Pop = goes_on_tells next _ (popped_counts stack)
done_tells image columns x next stack Swap = goes_on_tells next _ (swapped_counts stack)
done_tells image columns x next stack Rotate = goes_on_tells next _ (rotated_counts stack)
done_tells image columns x next stack (Push a) = goes_on_tells next _ (push_counts a stack)
done_tells image columns x next stack (PushColumn r n) = pushed_column_tells next n stack (columns r)
done_tells image columns x next stack (Pick n) = goes_on_tells next _ (pick_counts n stack)
done_tells image columns x next stack (Load n) = loaded_tells image next n stack
done_tells image columns x next stack (Change f) = goes_on_tells next _ (changed_counts f stack)
done_tells image columns x next stack (Combine f) = goes_on_tells next _ (combined_counts f stack)
done_tells image columns x next stack (Divide f) = goes_on_tells next _ (divided_counts f stack)
done_tells image columns x next stack (Skip distance) = moved_tells x next distance stack
done_tells image columns x next stack (Branch distance) = branched_tells x next distance stack

step_tells : (image : List Span) (columns : Columns) (x : List ℕ) (c : Configuration) → TellsNone (step image columns x c)
step_tells image columns x c = go (operation (rest_at x c.position)) refl
  where
    go : (r : Result (Operation × Input) Fault) → operation (rest_at x c.position) ≡ r → TellsNone (done_where_read image columns x c.stack r)
    go (Err f) e = operation_counts_none (rest_at x c.position) f e
    go (Ok p) e = done_tells image columns x p.1.offset c.stack p.0

no_count : (r : Result Configuration StepFault) → TellsNone r → fault_in r ≡ Some (Table TooManyOperations) → ⊥
no_count (Ok d) h e = cc
no_count (Err (Table f)) h e = let same : f ≡ TooManyOperations = cc in h same
no_count (Err (Unmapped a)) h e = cc

module _ (image : List Span) (columns : Columns) (x : List ℕ) (limit : ℕ) (start : Configuration) where
  full_run : (left : ℕ) (c : Configuration) → fault_at image columns x left c ≡ Some (Table TooManyOperations) → (left ≡ 0) × (c.position ≢ length x)
  full_run left c h = go (is_at_end x c) refl
    where
      at_top : (t : Option ℕ) → top_of c.stack ≡ t → is_at_end x c ≡ true → (left ≡ 0) × (c.position ≢ length x)
      at_top None t e = let same : Some (Table PopWithEmptyStack) ≡ Some (Table TooManyOperations) = rw (e, t) at h in absurd (empty_apart cc)
      at_top (Some a) t e = let bad : None ≡ Some (Table TooManyOperations) = rw (e, t) at h in absurd cc

      by_left : (b : Bool) → (left == 0) ≡ b → is_at_end x c ≡ false → (left ≡ 0) × (c.position ≢ length x)
      by_left true z e = (eqb-true left 0 z, eqb-false c.position (length x) e)
      by_left false z e = let stopped : fault_in (step image columns x c) ≡ Some (Table TooManyOperations) = rw (e, z) at h in absurd (no_count (step image columns x c) (step_tells image columns x c) stopped)

      go : (b : Bool) → is_at_end x c ≡ b → (left ≡ 0) × (c.position ≢ length x)
      go true e = at_top (top_of c.stack) refl e
      go false e = by_left (left == 0) refl e

  endless : HasFault image columns x limit start (Table TooManyOperations) → IsEndless image columns x limit start
  endless has =
      let p = full_run (limit - length has.run) (last_of start has.run) has.stops in
      record { run = has.run; follows = has.follows; full = omega (arith, p.0, has.few); goes_on = p.1 }

  has_no_end : IsEndless image columns x limit start → HasFault image columns x limit start (Table TooManyOperations)
  has_no_end runs =
      let left : limit - length runs.run ≡ 0 = omega (arith, runs.full) in
      record { run = runs.run; follows = runs.follows; few = omega (arith, runs.full); stops = rw left (go (is_at_end x (last_of start runs.run)) refl) }
    where
      go : (b : Bool) → is_at_end x (last_of start runs.run) ≡ b → fault_at image columns x 0 (last_of start runs.run) ≡ Some (Table TooManyOperations)
      go true e = absurd (runs.goes_on (eqb-true (last_of start runs.run).position (length x) e))
      go false e = rw e refl

  pub endless_is : HasFault image columns x limit start (Table TooManyOperations) ↔ IsEndless image columns x limit start
  endless_is = (endless, has_no_end)
