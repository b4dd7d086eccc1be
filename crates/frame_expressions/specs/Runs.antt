-- An expression's answer is that of a run, and a run has one answer. No public clause cites this.
use Rattle.std.proofs.Common.{◌≡◌, ◌↔◌, ℕ, zero, suc, ◌-◌, ◌≤◌, Bool, true, false, List, [], ◌∷◌, length, drop, Option, Some, None, Result, Ok, Err, refl, ap, ◌∙◌, arith}
use Rattle.std.proofs.lemmas.Bool.{eq-eqb, eqb-true}
use Rattle.std.proofs.lemmas.List.{drop_all}
use Rattle.std.proofs.Math.Dec.{eqb-suc-zero}
use Rattle.memory_image.specs.Image.{Span}
use Rattle.unwind_definitions.specs.declared.error.Error.TheVariants.{UnexpectedEof, PopWithEmptyStack, TooManyOperations}
use Rattle.unwind_definitions.specs.Caller.{Columns, StepFault, Table}
use Rattle.unwind_definitions.specs.Expressions.{Configuration, step, IsRun, last_of, is_at_end, top_of, HasAnswer, fault_at, top_or_fault, after_step, answer_from}

module _ (image : List Span) (columns : Columns) (expression : List ℕ) where
  -- nothing is decoded at the end
  end_stops : (c : Configuration) → is_at_end expression c ≡ true → step image columns expression c ≡ Err (Table UnexpectedEof)
  end_stops c e =
      let p : c.position ≡ length expression = eqb-true c.position (length expression) e in
      let none : drop c.position expression ≡ [] = drop_all c.position expression (omega arith) in
      rw none refl

  not_at_end : (c d : Configuration) → step image columns expression c ≡ Ok d → is_at_end expression c ≡ false
  not_at_end c d h = go (is_at_end expression c) refl
    where
      go : (b : Bool) → is_at_end expression c ≡ b → b ≡ false
      go true e = let bad = end_stops c e in cc
      go false e = refl

  -- ---- what `answer_from` says, turn by turn

  pub answer_at_end : (n : ℕ) (c : Configuration) → is_at_end expression c ≡ true → answer_from image columns expression n c ≡ top_or_fault (top_of c.stack)
  unfolding answer_from
  answer_at_end zero c e = rw e refl
  answer_at_end (suc n) c e = rw e refl

  pub answer_of_none : (c : Configuration) → is_at_end expression c ≡ false → answer_from image columns expression zero c ≡ Err (Table TooManyOperations)
  unfolding answer_from
  answer_of_none c e = rw e refl

  pub answer_of_more : (n : ℕ) (c : Configuration) → is_at_end expression c ≡ false → answer_from image columns expression (suc n) c ≡ after_step (answer_from image columns expression n) (step image columns expression c)
  unfolding answer_from
  answer_of_more n c e = rw e refl

  -- ---- the answer is a run's

  has_end : (n : ℕ) (c : Configuration) → is_at_end expression c ≡ true → HasAnswer image columns expression n c (top_or_fault (top_of c.stack))
  has_end n c e = go (top_of c.stack) refl
    where
      go : (t : Option ℕ) → top_of c.stack ≡ t → HasAnswer image columns expression n c (top_or_fault t)
      go None t = record { run = []; follows = tt; few = omega arith; stops = rw (e, t) refl }
      go (Some a) t = record { run = []; follows = tt; few = omega arith; ends = eqb-true c.position (length expression) e; top = t }

  has_too_many : (c : Configuration) → is_at_end expression c ≡ false → HasAnswer image columns expression zero c (Err (Table TooManyOperations))
  has_too_many c e = record { run = []; follows = tt; few = omega arith; stops = rw e refl }

  has_stop : (n : ℕ) (c : Configuration) (f : StepFault) → is_at_end expression c ≡ false → step image columns expression c ≡ Err f → HasAnswer image columns expression (suc n) c (Err f)
  has_stop n c f e h =
      let left : suc n - 0 ≡ suc n = omega arith in
      record { run = []; follows = tt; few = omega arith; stops = rw (e, left, eqb-suc-zero n, h) refl }

  has_more : (n : ℕ) (c d : Configuration) (r : Result ℕ StepFault) → step image columns expression c ≡ Ok d → HasAnswer image columns expression n d r → HasAnswer image columns expression (suc n) c r
  has_more n c d (Ok v) h has = record { run = d ∷ has.run; follows = (h, has.follows); few = omega (arith, has.few); ends = has.ends; top = has.top }
  has_more n c d (Err f) h has =
      let left : suc n - suc (length has.run) ≡ n - length has.run = omega arith in
      record { run = d ∷ has.run; follows = (h, has.follows); few = omega (arith, has.few); stops = rw left has.stops }

  pub has_answer : (n : ℕ) (c : Configuration) → HasAnswer image columns expression n c (answer_from image columns expression n c)
  has_answer zero c = go (is_at_end expression c) refl
    where
      go : (b : Bool) → is_at_end expression c ≡ b → HasAnswer image columns expression zero c (answer_from image columns expression zero c)
      go true e = rw (answer_at_end zero c e) (has_end zero c e)
      go false e = rw (answer_of_none c e) (has_too_many c e)
  has_answer (suc n) c = go (λ d. has_answer n d) (is_at_end expression c) refl
    where
      by_step : ((d : Configuration) → HasAnswer image columns expression n d (answer_from image columns expression n d)) → is_at_end expression c ≡ false → (s : Result Configuration StepFault) → step image columns expression c ≡ s
          → HasAnswer image columns expression (suc n) c (after_step (answer_from image columns expression n) s)
      by_step further e (Ok d) h = has_more n c d (answer_from image columns expression n d) h (further d)
      by_step further e (Err f) h = has_stop n c f e h

      go : ((d : Configuration) → HasAnswer image columns expression n d (answer_from image columns expression n d)) → (b : Bool) → is_at_end expression c ≡ b → HasAnswer image columns expression (suc n) c (answer_from image columns expression (suc n) c)
      go further true e = rw (answer_at_end (suc n) c e) (has_end (suc n) c e)
      go further false e = rw (answer_of_more n c e) (by_step further e (step image columns expression c) refl)

  -- ---- and there is no other

  value_by_run : (n : ℕ) (run : List Configuration) (c : Configuration) (v : ℕ) → IsRun image columns expression c run → length run ≤ n
      → (last_of c run).position ≡ length expression → top_of (last_of c run).stack ≡ Some v → answer_from image columns expression n c ≡ Ok v
  value_by_run n [] c v follows few ends top = answer_at_end n c (eq-eqb c.position (length expression) ends) ∙ ap top_or_fault top
  value_by_run zero (d ∷ run) c v follows few ends top = absurd (omega arith)
  value_by_run (suc n) (d ∷ run) c v follows few ends top =
      answer_of_more n c (not_at_end c d follows.0) ∙ ap (after_step (answer_from image columns expression n)) follows.0 ∙ value_by_run n run d v follows.1 (omega arith) ends top

  fault_here : (n : ℕ) (c : Configuration) (f : StepFault) → fault_at image columns expression n c ≡ Some f → answer_from image columns expression n c ≡ Err f
  fault_here n c f h = go (is_at_end expression c) refl
    where
      at_top : (t : Option ℕ) → top_of c.stack ≡ t → is_at_end expression c ≡ true → answer_from image columns expression n c ≡ Err f
      at_top None t e = let same : Some (Table PopWithEmptyStack) ≡ Some f = rw (e, t) at h in answer_at_end n c e ∙ ap top_or_fault t ∙ cc
      at_top (Some a) t e = let bad : None ≡ Some f = rw (e, t) at h in cc

      by_step : (m : ℕ) → n ≡ suc m → (s : Result Configuration StepFault) → step image columns expression c ≡ s → is_at_end expression c ≡ false → answer_from image columns expression n c ≡ Err f
      by_step m more (Ok d) s e = let bad : None ≡ Some f = rw (e, more, eqb-suc-zero m, s) at h in cc
      by_step m more (Err x) s e = let same : Some x ≡ Some f = rw (e, more, eqb-suc-zero m, s) at h in rw more (answer_of_more m c e ∙ ap (after_step (answer_from image columns expression m)) s ∙ cc)

      by_left : (m : ℕ) → n ≡ m → is_at_end expression c ≡ false → answer_from image columns expression n c ≡ Err f
      by_left zero none e = let same : Some (Table TooManyOperations) ≡ Some f = rw (e, none) at h in rw none (answer_of_none c e ∙ cc)
      by_left (suc m) more e = by_step m more (step image columns expression c) refl e

      go : (b : Bool) → is_at_end expression c ≡ b → answer_from image columns expression n c ≡ Err f
      go true e = at_top (top_of c.stack) refl e
      go false e = by_left n refl e

  fault_by_run : (n : ℕ) (run : List Configuration) (c : Configuration) (f : StepFault) → IsRun image columns expression c run → length run ≤ n
      → fault_at image columns expression (n - length run) (last_of c run) ≡ Some f → answer_from image columns expression n c ≡ Err f
  fault_by_run n [] c f follows few stops = let left : n - 0 ≡ n = omega arith in fault_here n c f (rw left at stops)
  fault_by_run zero (d ∷ run) c f follows few stops = absurd (omega arith)
  fault_by_run (suc n) (d ∷ run) c f follows few stops =
      let left : suc n - suc (length run) ≡ n - length run = omega arith in
      answer_of_more n c (not_at_end c d follows.0) ∙ ap (after_step (answer_from image columns expression n)) follows.0 ∙ fault_by_run n run d f follows.1 (omega arith) (rw left at stops)

  only_answer : (n : ℕ) (c : Configuration) (r : Result ℕ StepFault) → HasAnswer image columns expression n c r → answer_from image columns expression n c ≡ r
  only_answer n c (Ok v) has = value_by_run n has.run c v has.follows has.few has.ends has.top
  only_answer n c (Err f) has = fault_by_run n has.run c f has.follows has.few has.stops

  pub answer_is : (n : ℕ) (c : Configuration) (r : Result ℕ StepFault) → (answer_from image columns expression n c ≡ r) ↔ HasAnswer image columns expression n c r
  answer_is n c r = (λ e. rw e at (has_answer n c), λ has. only_answer n c r has)
