-- Where an expression reads memory that isn't mapped, no word is mapped: an operation reads 8 bytes at most. No public clause cites this.
use Rattle.std.proofs.Common.{◌≡◌, ℕ, zero, suc, ◌+◌, ◌-◌, ◌*◌, ◌^◌, ◌≤◌, Bool, true, false, List, [], ◌∷◌, length, Option, Some, None, Result, Ok, Err, nat_lt, nat_le, ◌==◌, refl, arith}
use Rattle.std.specs.Prelude.{if◌then◌else◌}
use Rattle.std.specs.Int.{w8}
use Rattle.std.proofs.lemmas.Bool.{leb-true}
use Rattle.memory_image.specs.Image.{Span, byte_at, number_at, word_at}
use Rattle.unwind_definitions.specs.declared.error.Error.{Error as Fault}
use Rattle.unwind_definitions.specs.declared.error.Error.TheVariants.{UnknownOperation, BadBranch}
use Rattle.unwind_definitions.specs.Faults.{◌>>=◌}
use Rattle.unwind_definitions.specs.Input.{Input, Reads, number, sleb}
use Rattle.unwind_definitions.specs.Instructions.{column}
use Rattle.unwind_definitions.specs.Caller.{Columns, StepFault, Table, Unmapped, column_or_fault, fault_in}
use Rattle.unwind_definitions.specs.Operations.{Operation, Nop, Pop, Swap, Rotate, Push, PushColumn, Pick, Load, Change, Combine, Divide, Skip, Branch, says, with_operand, pushes_column, loads, unknown, constant, rearrangement, arithmetic, decision, extension, operation_of, operation}
use Rattle.unwind_definitions.specs.Expressions.{Configuration, goes_on, within, after_move, after_branch, after_load, load_or_fault, after_column_push, done, done_where_read, step, rest_at, last_of, is_at_end, top_of, fault_at, HasFault, initial_configuration, operation_limit, evaluation}
use Rattle.frame_expressions.specs.Runs.{answer_is}

-- ---- the numbers that operations read

abbrev IsFew : Operation → Type 0
IsFew (Load n) = n ≤ 8
IsFew _ = Unit {0}

abbrev FewIn : Result (Operation × Input) Fault → Type 0
FewIn (Ok r) = IsFew r.0
FewIn (Err e) = Unit {0}

record GivesFew (read : Reads Operation) : Type 0 where
  gives : (c : Input) → FewIn (read c)

then_few : {A : Type 0} (r : Result (A × Input) Fault) (f : A × Input → Result (Operation × Input) Fault) → ((p : A × Input) → FewIn (f p)) → FewIn (r >>= f)
then_few (Ok p) f h = h p
then_few (Err e) f h = tt

says_few : (o : Operation) → IsFew o → GivesFew (says o)
says_few o h = record { gives = λ c. h }

operand_few : (read : Reads ℕ) (o : ℕ → Operation) → ((n : ℕ) → IsFew (o n)) → GivesFew (with_operand read o)
operand_few read o h = record { gives = λ c. then_few (read c) _ (λ n. h n.0) }

unknown_few : GivesFew unknown
unknown_few = record { gives = λ c. tt }

pushes_column_few : GivesFew pushes_column
pushes_column_few = record { gives = λ c. then_few (column c) _ (λ r. then_few (sleb r.1) _ (λ n. tt)) }

loads_few : GivesFew loads
loads_few = record { gives = λ c. then_few (number w8 c) _ (λ n. go n.0 n.1 (nat_le 1 n.0) (nat_le n.0 8) refl) }
  where
    go : (n : ℕ) (i : Input) (b d : Bool) → nat_le n 8 ≡ d → FewIn ((if b then (if d then Ok (Load n) else Err UnknownOperation) else Err UnknownOperation) >>= λ p. Ok (p, i))
    go n i true true h = leb-true n 8 h
    go n i true false h = tt
    go n i false d h = tt

if_few : (b : Bool) (r s : Reads Operation) → GivesFew r → GivesFew s → GivesFew (if b then r else s)
if_few true r s h k = h
if_few false r s h k = k

constant_few : (op : ℕ) → GivesFew (constant op)
unfolding constant
constant_few op =
    if_few (op == 0x03) _ _ (operand_few _ _ (λ n. tt))
    (if_few (op == 0x06) _ _ (says_few _ (omega arith))
    (if_few (op == 0x08) _ _ (operand_few _ _ (λ n. tt))
    (if_few (op == 0x09) _ _ (operand_few _ _ (λ n. tt))
    (if_few (op == 0x0a) _ _ (operand_few _ _ (λ n. tt))
    (if_few (op == 0x0b) _ _ (operand_few _ _ (λ n. tt))
    (if_few (op == 0x0c) _ _ (operand_few _ _ (λ n. tt))
    (if_few (op == 0x0d) _ _ (operand_few _ _ (λ n. tt))
    (if_few (op == 0x0e) _ _ (operand_few _ _ (λ n. tt))
    (if_few (op == 0x0f) _ _ (operand_few _ _ (λ n. tt))
    (if_few (op == 0x10) _ _ (operand_few _ _ (λ n. tt))
    (if_few (op == 0x11) _ _ (operand_few _ _ (λ n. tt))
    (unknown_few))))))))))))

rearrangement_few : (op : ℕ) → GivesFew (rearrangement op)
unfolding rearrangement
rearrangement_few op =
    if_few (op == 0x12) _ _ (says_few _ tt)
    (if_few (op == 0x13) _ _ (says_few _ tt)
    (if_few (op == 0x14) _ _ (says_few _ tt)
    (if_few (op == 0x15) _ _ (operand_few _ _ (λ n. tt))
    (if_few (op == 0x16) _ _ (says_few _ tt)
    (if_few (op == 0x17) _ _ (says_few _ tt)
    (unknown_few))))))

arithmetic_few : (op : ℕ) → GivesFew (arithmetic op)
unfolding arithmetic
arithmetic_few op =
    if_few (op == 0x19) _ _ (says_few _ tt)
    (if_few (op == 0x1a) _ _ (says_few _ tt)
    (if_few (op == 0x1b) _ _ (says_few _ tt)
    (if_few (op == 0x1c) _ _ (says_few _ tt)
    (if_few (op == 0x1d) _ _ (says_few _ tt)
    (if_few (op == 0x1e) _ _ (says_few _ tt)
    (if_few (op == 0x1f) _ _ (says_few _ tt)
    (if_few (op == 0x20) _ _ (says_few _ tt)
    (if_few (op == 0x21) _ _ (says_few _ tt)
    (if_few (op == 0x22) _ _ (says_few _ tt)
    (if_few (op == 0x23) _ _ (operand_few _ _ (λ n. tt))
    (if_few (op == 0x24) _ _ (says_few _ tt)
    (if_few (op == 0x25) _ _ (says_few _ tt)
    (if_few (op == 0x26) _ _ (says_few _ tt)
    (if_few (op == 0x27) _ _ (says_few _ tt)
    (unknown_few)))))))))))))))

decision_few : (op : ℕ) → GivesFew (decision op)
unfolding decision
decision_few op =
    if_few (op == 0x28) _ _ (operand_few _ _ (λ n. tt))
    (if_few (op == 0x29) _ _ (says_few _ tt)
    (if_few (op == 0x2a) _ _ (says_few _ tt)
    (if_few (op == 0x2b) _ _ (says_few _ tt)
    (if_few (op == 0x2c) _ _ (says_few _ tt)
    (if_few (op == 0x2d) _ _ (says_few _ tt)
    (if_few (op == 0x2e) _ _ (says_few _ tt)
    (operand_few _ _ (λ n. tt))))))))

extension_few : (op : ℕ) → GivesFew (extension op)
unfolding extension
extension_few op =
    if_few (op == 0x92) _ _ (pushes_column_few)
    (if_few (op == 0x94) _ _ (loads_few)
    (if_few (op == 0x96) _ _ (says_few _ tt)
    (unknown_few)))

operation_of_few : (op : ℕ) → GivesFew (operation_of op)
unfolding operation_of
operation_of_few op =
    if_few (nat_lt op 0x12) _ _ (constant_few op)
    (if_few (nat_lt op 0x19) _ _ (rearrangement_few op)
    (if_few (nat_lt op 0x28) _ _ (arithmetic_few op)
    (if_few (nat_lt op 0x30) _ _ (decision_few op)
    (if_few (nat_lt op 0x50) _ _ (says_few _ tt)
    (if_few (nat_lt op 0x70) _ _ (unknown_few)
    (if_few (nat_lt op 0x90) _ _ (operand_few _ _ (λ n. tt))
    (extension_few op)))))))

operation_few : (c d : Input) (o : Operation) → operation c ≡ Ok (o, d) → IsFew o
operation_few c d o e = let few : FewIn (operation c) = then_few (number w8 c) _ (λ b. (operation_of_few b.0).gives b.1) in rw e at few

-- ---- a number that isn't mapped

more_unmapped : (image : List Span) (a n m : ℕ) → n ≤ m → number_at image a n ≡ None → number_at image a m ≡ None
more_unmapped image a zero m h none = absurd cc
more_unmapped image a (suc n) zero h none = absurd (omega arith)
more_unmapped image a (suc n) (suc m) h none = go (λ k. more_unmapped image (a + 1) n m (omega arith) k) (byte_at image a) refl (number_at image (a + 1) n) refl
  where
    go : (number_at image (a + 1) n ≡ None → number_at image (a + 1) m ≡ None) → (b : Option ℕ) → byte_at image a ≡ b → (v : Option ℕ) → number_at image (a + 1) n ≡ v → number_at image a (suc m) ≡ None
    go further None e v k = rw e refl
    go further (Some b) e None k = rw (e, further k) refl
    go further (Some b) e (Some v) k = let bad : Some (b + 256 * v) ≡ None = rw (e, k) at none in absurd cc

-- ---- and what operations do

abbrev Missing : {A : Type 0} → List Span → Result A StepFault → Type 0
Missing image (Ok r) = Unit {0}
Missing image (Err (Table e)) = Unit {0}
Missing image (Err (Unmapped a)) = word_at image a ≡ None

chosen : {A : Type 0} (image : List Span) (b : Bool) (r s : Result A StepFault) → Missing image r → Missing image s → Missing image (if b then r else s)
chosen image true r s h k = h
chosen image false r s h k = k

goes_on_missing : (image : List Span) (next : ℕ) (r : Result (List ℕ) Fault) → Missing image (goes_on next r)
goes_on_missing image next (Ok stack) = tt
goes_on_missing image next (Err e) = tt

within_missing : (image : List Span) (x : List ℕ) (target : ℕ) (stack : List ℕ) → Missing image (within x target stack)
within_missing image x target stack = chosen image (nat_le target (length x)) (Ok (record { position = target; stack = stack })) (Err (Table BadBranch)) tt tt

moved_missing : (image : List Span) (x : List ℕ) (next distance : ℕ) (stack : List ℕ) → Missing image (after_move x next distance stack)
moved_missing image x next distance stack =
    chosen image (nat_lt distance (2 ^ 63)) _ _ (within_missing image x (next + distance) stack)
    (chosen image (nat_lt next (2 ^ 64 - distance)) (Err (Table BadBranch)) (within x (next - (2 ^ 64 - distance)) stack) tt (within_missing image x (next - (2 ^ 64 - distance)) stack))

branched_missing : (image : List Span) (x : List ℕ) (next distance : ℕ) (stack : List ℕ) → Missing image (after_branch x next distance stack)
branched_missing image x next distance [] = tt
branched_missing image x next distance (a ∷ stack) = chosen image (a == 0) (Ok (record { position = next; stack = stack })) (after_move x next distance stack) tt (moved_missing image x next distance stack)

loaded_missing : (image : List Span) (next n : ℕ) (stack : List ℕ) → n ≤ 8 → Missing image (after_load image next n stack)
unfolding word_at
loaded_missing image next n [] h = tt
loaded_missing image next n (a ∷ stack) h = go (number_at image a n) refl
  where
    go : (v : Option ℕ) → number_at image a n ≡ v → Missing image (load_or_fault next a stack v)
    go None e = more_unmapped image a n 8 h e
    go (Some v) e = tt

pushed_column_missing : (image : List Span) (next n : ℕ) (stack : List ℕ) (v : Option ℕ) → Missing image (after_column_push next n stack (column_or_fault v))
pushed_column_missing image next n stack None = tt
pushed_column_missing image next n stack (Some v) = goes_on_missing image next _

done_missing : (image : List Span) (columns : Columns) (x : List ℕ) (next : ℕ) (stack : List ℕ) (o : Operation) → IsFew o → Missing image (done image columns x next stack o)
unfolding done
done_missing image columns x next stack Nop few = tt
done_missing image columns x next stack Pop few = goes_on_missing image next _
done_missing image columns x next stack Swap few = goes_on_missing image next _
done_missing image columns x next stack Rotate few = goes_on_missing image next _
done_missing image columns x next stack (Push a) few = goes_on_missing image next _
done_missing image columns x next stack (PushColumn r n) few = pushed_column_missing image next n stack (columns r)
done_missing image columns x next stack (Pick n) few = goes_on_missing image next _
done_missing image columns x next stack (Load n) few = loaded_missing image next n stack few
done_missing image columns x next stack (Change f) few = goes_on_missing image next _
done_missing image columns x next stack (Combine f) few = goes_on_missing image next _
done_missing image columns x next stack (Divide f) few = goes_on_missing image next _
done_missing image columns x next stack (Skip distance) few = moved_missing image x next distance stack
done_missing image columns x next stack (Branch distance) few = branched_missing image x next distance stack

step_missing : (image : List Span) (columns : Columns) (x : List ℕ) (c : Configuration) → Missing image (step image columns x c)
step_missing image columns x c = go (operation (rest_at x c.position)) refl
  where
    go : (r : Result (Operation × Input) Fault) → operation (rest_at x c.position) ≡ r → Missing image (done_where_read image columns x c.stack r)
    go (Err f) e = tt
    go (Ok p) e = done_missing image columns x p.1.offset c.stack p.0 (operation_few (rest_at x c.position) p.1 p.0 e)

missing_in : (image : List Span) (a : ℕ) (r : Result Configuration StepFault) → Missing image r → fault_in r ≡ Some (Unmapped a) → word_at image a ≡ None
missing_in image a (Ok d) h e = absurd cc
missing_in image a (Err (Table f)) h e = absurd cc
missing_in image a (Err (Unmapped b)) h e = let same : b ≡ a = cc in rw same at h

pub unmapped_is : (image : List Span) (columns : Columns) (x : List ℕ) (limit : ℕ) (start : Configuration) (a : ℕ) → HasFault image columns x limit start (Unmapped a) → word_at image a ≡ None
unmapped_is image columns x limit start a has = go (limit - length has.run) (last_of start has.run) has.stops
  where
    go : (left : ℕ) (c : Configuration) → fault_at image columns x left c ≡ Some (Unmapped a) → word_at image a ≡ None
    go left c h = by_end (is_at_end x c) refl
      where
        at_top : (t : Option ℕ) → top_of c.stack ≡ t → is_at_end x c ≡ true → word_at image a ≡ None
        at_top None t e = let bad = rw (e, t) at h in absurd cc
        at_top (Some w) t e = let bad = rw (e, t) at h in absurd cc

        by_left : (b : Bool) → (left == 0) ≡ b → is_at_end x c ≡ false → word_at image a ≡ None
        by_left true z e = let bad = rw (e, z) at h in absurd cc
        by_left false z e = missing_in image a (step image columns x c) (step_missing image columns x c) (rw (e, z) at h)

        by_end : (b : Bool) → is_at_end x c ≡ b → word_at image a ≡ None
        by_end true e = at_top (top_of c.stack) refl e
        by_end false e = by_left (left == 0) refl e

pub unmapped_evaluation : (image : List Span) (expression stack : List ℕ) (columns : Columns) (a : ℕ) → evaluation image expression stack columns ≡ Err (Unmapped a) → word_at image a ≡ None
unfolding evaluation
unmapped_evaluation image expression stack columns a e =
    let run = answer_is image columns expression (operation_limit expression) (initial_configuration stack) (Err (Unmapped a)) in
    unmapped_is image columns expression (operation_limit expression) (initial_configuration stack) a (run.0 e)
