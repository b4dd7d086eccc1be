-- The values of the expressions in a signal's frame: the address of a word so far above the stack pointer, and that word.
use Rattle.std.proofs.Common.{◌≡◌, ℕ, suc, ◌+◌, ◌^◌, ◌<◌, Bool, true, false, List, [], ◌∷◌, length, drop, eqb, ltb, Some, Ok, Err, refl, ◌∙◌, arith}
use Rattle.std.proofs.lemmas.Bool.{eqb-true}
use Rattle.std.proofs.lemmas.Bool.Decides.{nat_tests}
use Rattle.memory_image.specs.Image.{Span, word_at}
use Rattle.unwind_definitions.specs.declared.error.Error.TheVariants.{UnexpectedEof}
use Rattle.unwind_definitions.specs.Input.{Input}
use Rattle.unwind_definitions.specs.Caller.{◌+w◌, Columns}
use Rattle.unwind_definitions.specs.Operations.{Operation, PushColumn, Load, operation}
use Rattle.unwind_definitions.specs.Expressions.{Configuration, rest_at, step, done, is_at_end, answer_from, operation_limit, evaluation}
use Rattle.frame_facts.specs.SignalFrames.{AreOperations}

nothing_left : (bytes : List ℕ) → drop (length bytes) bytes ≡ []
nothing_left [] = refl
nothing_left (b ∷ bytes) = nothing_left bytes

-- where an operation is read, the bytes aren't at their end
before_end : (bytes : List ℕ) (offset : ℕ) (r : Operation × Input) → operation (rest_at bytes offset) ≡ Ok r → eqb offset (length bytes) ≡ false
before_end bytes offset r read = go (eqb offset (length bytes)) refl
  where
    go : (b : Bool) → eqb offset (length bytes) ≡ b → b ≡ false
    go false is = refl
    go true is =
        let end : offset ≡ length bytes = eqb-true offset (length bytes) is in
        let none : drop offset bytes ≡ [] = rw end (nothing_left bytes) in
        let fails : operation (rest_at bytes offset) ≡ Err UnexpectedEof = rw none refl in
        absurd cc

abbrev state_at : ℕ → List ℕ → Configuration
state_at offset stack = record { position = offset; stack = stack }

module _ (image : List Span) (columns : Columns) (bytes : List ℕ) where
  goes_on : (left : ℕ) (c d : Configuration) → is_at_end bytes c ≡ false → step image columns bytes c ≡ Ok d → answer_from image columns bytes (suc left) c ≡ answer_from image columns bytes left d
  unfolding answer_from
  goes_on left c d inside steps = rw (inside, steps) refl

  ends : (left offset a : ℕ) (stack : List ℕ) → offset ≡ length bytes → answer_from image columns bytes (suc left) (state_at offset (a ∷ stack)) ≡ Ok a
  unfolding answer_from
  ends left offset a stack end =
      let at : eqb offset (length bytes) ≡ true = grind (arith, nat_tests) in
      rw at refl

  module _ (sp n : ℕ) (holds : columns 7 ≡ Some sp) (low : sp + n < 2 ^ 64) where
    -- the address is pushed
    pushed : (offset : ℕ) (next : Input) (stack : List ℕ) → length stack < 64 → operation (rest_at bytes offset) ≡ Ok (PushColumn 7 n, next) →
        step image columns bytes (state_at offset stack) ≡ Ok (state_at next.offset ((sp + n) ∷ stack))
    unfolding done
    pushed offset next stack room read =
        let sum : sp +w n ≡ sp + n = omega arith in
        let fits : ltb (length stack) 64 ≡ true = grind (arith, nat_tests) in
        rw (read, holds, sum, fits) refl

    -- the word there takes its place
    loaded : (offset v : ℕ) (next : Input) (stack : List ℕ) → operation (rest_at bytes offset) ≡ Ok (Load 8, next) → word_at image (sp + n) ≡ Some v →
        step image columns bytes (state_at offset ((sp + n) ∷ stack)) ≡ Ok (state_at next.offset (v ∷ stack))
    unfolding done word_at
    loaded offset v next stack read word = rw (read, word) refl

    pub address_above : (stack : List ℕ) → length stack < 64 → AreOperations bytes 0 (PushColumn 7 n ∷ []) → evaluation image bytes stack columns ≡ Ok (sp + n)
    unfolding evaluation
    address_above stack room ops =
        let few : operation_limit bytes ≡ suc (suc (9998 + length bytes)) = omega arith in
        rw few
        (goes_on (suc (9998 + length bytes)) (state_at 0 stack) (state_at ops.0.offset ((sp + n) ∷ stack)) (before_end bytes 0 (PushColumn 7 n, ops.0) ops.1) (pushed 0 ops.0 stack room ops.1)
        ∙ ends (9998 + length bytes) ops.0.offset (sp + n) stack ops.2)

    pub word_above : (v : ℕ) → word_at image (sp + n) ≡ Some v → AreOperations bytes 0 (PushColumn 7 n ∷ Load 8 ∷ []) → evaluation image bytes [] columns ≡ Ok v
    unfolding evaluation
    word_above v word ops =
        let few : operation_limit bytes ≡ suc (suc (suc (9997 + length bytes))) = omega arith in
        let after : AreOperations bytes ops.0.offset (Load 8 ∷ []) = ops.2 in
        rw few
        (goes_on (suc (suc (9997 + length bytes))) (state_at 0 []) (state_at ops.0.offset ((sp + n) ∷ [])) (before_end bytes 0 (PushColumn 7 n, ops.0) ops.1) (pushed 0 ops.0 [] (omega arith) ops.1)
        ∙ goes_on (suc (9997 + length bytes)) (state_at ops.0.offset ((sp + n) ∷ [])) (state_at after.0.offset (v ∷ [])) (before_end bytes ops.0.offset (Load 8, after.0) after.1) (loaded ops.0.offset v after.0 [] after.1 word)
        ∙ ends (9997 + length bytes) after.0.offset v [] after.2)
