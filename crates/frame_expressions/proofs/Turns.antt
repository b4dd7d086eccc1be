-- One turn of the evaluator's loop, and its ends: from a place in the expression, what the answer from there is.
use Rattle.std.proofs.Common.{◌≡◌, ◌≢◌, ℕ, suc, ◌+◌, ◌-◌, ◌≤◌, Bool, true, false, List, length, drop, Result, Ok, Err, ◌==◌, refl, sym, ap, ◌∙◌, arith}
use Rattle.std.proofs.lemmas.Bool.{eq-eqb, eqb-true, eqb-false}
use Rattle.std.proofs.lemmas.List.{length-drop}
use Rattle.memory_image.specs.Image.{Span}
use Rattle.unwind_definitions.specs.declared.error.Error.{Error as Fault}
use Rattle.unwind_definitions.specs.declared.error.Error.TheVariants.{TooManyOperations}
use Rattle.unwind_definitions.specs.Input.{Input}
use Rattle.unwind_definitions.specs.Caller.{Columns, Table}
use Rattle.unwind_definitions.specs.Operations.{Operation, operation}
use Rattle.unwind_definitions.specs.Expressions.{done, done_where_read, rest_at, is_at_end, top_of, top_or_fault, after_step, answer_from}
use Rattle.frame_expressions.specs.declared.error.EvalError.{EvalError}
use Rattle.frame_expressions.specs.Answers.{GoesOn, fault_of}
use Rattle.frame_expressions.specs.Runs.{answer_at_end, answer_of_none, answer_of_more}
use Rattle.frame_expressions.proofs.Within.{IsPlace}

-- an expression's first byte
pub first_place : (x : List ℕ) (c : Input) → c ≡ record { base = 0; offset = 0; bytes = x } → IsPlace x c
first_place x c e = rw e (record { here = refl; within = omega arith })

-- where a branch leads
pub branched_place : (x : List ℕ) (c : Input) (n : ℕ) → c ≡ record { base = 0; offset = 0 + n; bytes = drop n x } → n ≤ length x → IsPlace x c
branched_place x c n e h = let same : 0 + n ≡ n = omega arith in rw (e, same) (record { here = refl; within = h })

module _ (image : List Span) (columns : Columns) (x : List ℕ) where
  left_in : (c : Input) → IsPlace x c → length c.bytes ≡ length x - c.offset
  left_in c place = ap (λ (i : Input). length i.bytes) place.here ∙ length-drop c.offset x

  is_end : (c : Input) (stack : List ℕ) → IsPlace x c → (length c.bytes == 0) ≡ true → is_at_end x (record { position = c.offset; stack = stack }) ≡ true
  is_end c stack place e =
      let none : length c.bytes ≡ 0 = eqb-true (length c.bytes) 0 e in
      let long = left_in c place in
      eq-eqb c.offset (length x) (omega (arith, place.within))

  is_more : (c : Input) (stack : List ℕ) → IsPlace x c → (length c.bytes == 0) ≡ false → is_at_end x (record { position = c.offset; stack = stack }) ≡ false
  is_more c stack place e = go (c.offset == length x) refl
    where
      go : (b : Bool) → (c.offset == length x) ≡ b → b ≡ false
      go true same =
          let p : c.offset ≡ length x = eqb-true c.offset (length x) same in
          let long = left_in c place in
          absurd (eqb-false (length c.bytes) 0 e (omega arith))
      go false same = refl

  pub end_answer : (n : ℕ) (c : Input) (stack : List ℕ) → IsPlace x c → (length c.bytes == 0) ≡ true
      → answer_from image columns x n (record { position = c.offset; stack = stack }) ≡ top_or_fault (top_of stack)
  end_answer n c stack place e = answer_at_end image columns x n (record { position = c.offset; stack = stack }) (is_end c stack place e)

  pub too_many : (n : ℕ) (c : Input) (stack : List ℕ) → IsPlace x c → (length c.bytes == 0) ≡ false → n ≡ 0
      → answer_from image columns x n (record { position = c.offset; stack = stack }) ≡ Err (Table TooManyOperations)
  too_many n c stack place e none = rw none (answer_of_none image columns x (record { position = c.offset; stack = stack }) (is_more c stack place e))

  -- an operation is decoded, or not
  turn : (n : ℕ) (c : Input) (stack : List ℕ) → IsPlace x c → (length c.bytes == 0) ≡ false → n ≢ 0 → (r : Result (Operation × Input) Fault) → operation c ≡ r
      → answer_from image columns x n (record { position = c.offset; stack = stack }) ≡ after_step (answer_from image columns x (n - 1)) (done_where_read image columns x stack r)
  turn n c stack place e some r read =
      let more : n ≡ suc (n - 1) = omega arith in
      let decoded : operation (rest_at x c.offset) ≡ r = ap operation (sym place.here) ∙ read in
      ap (λ (m : ℕ). answer_from image columns x m (record { position = c.offset; stack = stack })) more
      ∙ answer_of_more image columns x (n - 1) (record { position = c.offset; stack = stack }) (is_more c stack place e)
      ∙ ap (λ (q : Result (Operation × Input) Fault). after_step (answer_from image columns x (n - 1)) (done_where_read image columns x stack q)) decoded

  pub not_read : (n : ℕ) (c : Input) (stack : List ℕ) (f : Fault) → IsPlace x c → (length c.bytes == 0) ≡ false → n ≢ 0 → operation c ≡ Err f
      → answer_from image columns x n (record { position = c.offset; stack = stack }) ≡ Err (Table f)
  not_read n c stack f place e some read = turn n c stack place e some (Err f) read

  pub not_done : (n : ℕ) (c d : Input) (stack new : List ℕ) (o : Operation) (f : EvalError) → IsPlace x c → (length c.bytes == 0) ≡ false → n ≢ 0 → operation c ≡ Ok (o, d)
      → GoesOn (Err f) new (done image columns x d.offset stack o)
      → answer_from image columns x n (record { position = c.offset; stack = stack }) ≡ Err (fault_of f)
  not_done n c d stack new o f place e some read goes = turn n c stack place e some (Ok (o, d)) read ∙ ap (after_step (answer_from image columns x (n - 1))) goes

  pub is_done : (n next : ℕ) (c d : Input) (stack new : List ℕ) (o : Operation) → IsPlace x c → (length c.bytes == 0) ≡ false → n ≢ 0 → operation c ≡ Ok (o, d)
      → GoesOn (Ok next) new (done image columns x d.offset stack o)
      → answer_from image columns x n (record { position = c.offset; stack = stack }) ≡ answer_from image columns x (n - 1) (record { position = next; stack = new })
  is_done n next c d stack new o place e some read goes = turn n c stack place e some (Ok (o, d)) read ∙ ap (after_step (answer_from image columns x (n - 1))) goes
