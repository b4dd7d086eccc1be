-- What is read of a part of an image, where it is wholly mapped there, is read of the whole: a number, a word, an expression's value, a
-- caller's columns.
use Rattle.std.proofs.Common.{inl, inr, ◌≡◌, ◌⊎◌, ℕ, zero, suc, ◌+◌, ◌*◌, ◌<◌, ◌≤◌, Bool, true, false, cond, ltb, List, [], ◌∷◌, Option, Some, None, Result, Ok, Err, refl, sym, ap, subst, ◌∙◌, arith}
use Rattle.std.proofs.lemmas.Bool.{cases_lt, ltb-true}
use Rattle.std.specs.Option.{option_and_then, option_map, option_map_or, option_or}
use Rattle.memory_image.specs.Image.{Span, byte_at, number_at, word_at}
use Rattle.memory_image.specs.Results.{◌>>=◌, result_map}
use Rattle.unwind_definitions.specs.declared.error.Error.{Error as Fault}
use Rattle.unwind_definitions.specs.declared.error.Error.TheVariants.{NoCfaRegister}
use Rattle.unwind_definitions.specs.Input.{Input}
use Rattle.unwind_definitions.specs.Instructions.{Rule, Undefined, SameValue, Offset, ValOffset, InRegister, Expression, ValExpression}
use Rattle.unwind_definitions.specs.Row.{RowInstructions, CfaRule, ColumnAndOffset, ByExpression, cfa_rule, rule_of}
use Rattle.unwind_definitions.specs.Operations.{Operation, Nop, Pop, Swap, Rotate, Push, PushColumn, Pick, Load, Change, Combine, Divide, Skip, Branch, operation}
use Rattle.unwind_definitions.specs.Caller.{Columns, Machine, StepFault, Table, Unmapped, ◌+w◌, word_or_fault, rule_value, value_for_column, value_without_rule, column_value, fault_in, value_in, first_fault_below, unless_fault, column_limit, cfa_value, caller_with, caller_of}
use Rattle.unwind_definitions.specs.Expressions.{Configuration, rest_at, load_or_fault, after_load, after_step, is_at_end, top_of, top_or_fault, done, done_where_read, step, answer_from, evaluation}
use Rattle.part_walks.specs.Parts.{IsPartOf}

-- ---- nothing that isn't mapped was met

abbrev pub IsOther : StepFault → Type 0
IsOther (Table e) = Unit {0}
IsOther (Unmapped a) = ⊥

abbrev pub IsRead : {A : Type 0} → Result A StepFault → Type 0
IsRead (Ok v) = Unit {0}
IsRead (Err e) = IsOther e

abbrev pub IsOtherIfAny : Option StepFault → Type 0
IsOtherIfAny None = Unit {0}
IsOtherIfAny (Some e) = IsOther e

is_read : {A : Type 0} (r s : Result A StepFault) → r ≡ s → IsRead s → IsRead r
is_read r s is read = subst (λ q. IsRead q) (sym is) read

-- ---- faults of columns

-- where columns have the same values but for what isn't mapped, their first faults are the same
first_same : (f g : ℕ → Result (Option ℕ) StepFault) → ((k : ℕ) → IsRead (f k) → g k ≡ f k) → (n : ℕ) → IsOtherIfAny (first_fault_below n f) → first_fault_below n g ≡ first_fault_below n f
unfolding first_fault_below
first_same f g each zero read = refl
first_same f g each (suc n) read = go (first_fault_below n f) refl read (first_same f g each n)
  where
    read_here : (r : Result (Option ℕ) StepFault) → IsOtherIfAny (fault_in r) → IsRead r
    read_here (Ok v) other = tt
    read_here (Err e) other = other

    go : (o : Option StepFault) → first_fault_below n f ≡ o → IsOtherIfAny (option_or o (fault_in (f n))) → (IsOtherIfAny (first_fault_below n f) → first_fault_below n g ≡ first_fault_below n f) →
        option_or (first_fault_below n g) (fault_in (g n)) ≡ option_or o (fault_in (f n))
    go None is other before =
        ap (λ o. option_or o (fault_in (g n))) (before (subst IsOtherIfAny (sym is) tt) ∙ is) ∙ ap fault_in (each n (read_here (f n) other))
    go (Some e) is other before = ap (λ o. option_or o (fault_in (g n))) (before (subst IsOtherIfAny (sym is) other) ∙ is)

-- where there is no fault each column has a value
faultless : (f : ℕ → Result (Option ℕ) StepFault) (n k : ℕ) → first_fault_below n f ≡ None → k < n → IsRead (f k)
unfolding first_fault_below
faultless f zero k none low = absurd (omega arith)
faultless f (suc n) k none low = go (first_fault_below n f) refl none (faultless f n k) (cases_lt k n)
  where
    here : (j : ℕ) → j ≡ k → fault_in (f j) ≡ None → IsRead (f k)
    here j same fine = subst (λ (i : ℕ). IsRead (f i)) same (read_of (f j) fine)
      where
        read_of : (r : Result (Option ℕ) StepFault) → fault_in r ≡ None → IsRead r
        read_of (Ok v) fine = tt
        read_of (Err e) fine = absurd cc

    go : (o : Option StepFault) → first_fault_below n f ≡ o → option_or o (fault_in (f n)) ≡ None → (first_fault_below n f ≡ None → k < n → IsRead (f k)) → (k < n) ⊎ (n ≤ k) → IsRead (f k)
    go (Some e) is some before which = absurd cc
    go None is fine before (inl less) = before is less
    go None is fine before (inr more) = here n (omega arith) fine

-- ---- the columns that registers can have

abbrev pub below : Columns → Columns
below columns k = cond (ltb k column_limit) (columns k) None

below_same : (f g : Columns) → ((k : ℕ) → k < column_limit → g k ≡ f k) → below g ≡ below f
below_same f g each = λ i k. each_below k (ltb k column_limit) refl i
  where
    each_below : (k : ℕ) (b : Bool) → ltb k column_limit ≡ b → cond (ltb k column_limit) (g k) None ≡ cond (ltb k column_limit) (f k) None
    each_below k true is = ap (λ o. cond (ltb k column_limit) o None) (each k (ltb-true k column_limit is))
    each_below k false is = rw is refl

module _ (part whole : List Span) (is_part : IsPartOf part whole) where
  -- ---- numbers

  pub number_whole : (n a v : ℕ) → number_at part a n ≡ Some v → number_at whole a n ≡ Some v
  number_whole zero a v is = is
  number_whole (suc n) a v is = first (byte_at part a) refl is (number_whole n (a + 1))
    where
      rest : (b : ℕ) (more : Option ℕ) → number_at part (a + 1) n ≡ more → option_map (λ w. b + 256 * w) more ≡ Some v → ((w : ℕ) → number_at part (a + 1) n ≡ Some w → number_at whole (a + 1) n ≡ Some w) →
          option_map (λ w. b + 256 * w) (number_at whole (a + 1) n) ≡ Some v
      rest b None at is so = absurd cc
      rest b (Some w) at is so = ap (option_map (λ w. b + 256 * w)) (so w at) ∙ is

      first : (o : Option ℕ) → byte_at part a ≡ o → option_and_then (λ b. option_map (λ w. b + 256 * w) (number_at part (a + 1) n)) o ≡ Some v → ((w : ℕ) → number_at part (a + 1) n ≡ Some w → number_at whole (a + 1) n ≡ Some w) →
          number_at whole a (suc n) ≡ Some v
      first None at is so = absurd cc
      first (Some b) at is so = ap (option_and_then (λ b. option_map (λ w. b + 256 * w) (number_at whole (a + 1) n))) (is_part a b at) ∙ rest b (number_at part (a + 1) n) refl is so

  pub word_whole : (a v : ℕ) → word_at part a ≡ Some v → word_at whole a ≡ Some v
  unfolding word_at
  word_whole a v is = number_whole 8 a v is

  word_read : (a : ℕ) → IsRead (word_or_fault part a) → word_or_fault whole a ≡ word_or_fault part a
  word_read a read = go (word_at part a) refl read
    where
      go : (o : Option ℕ) → word_at part a ≡ o → IsRead (option_map_or Ok o (Err (Unmapped a))) → word_or_fault whole a ≡ option_map_or Ok o (Err (Unmapped a))
      go None is read = absurd read
      go (Some v) is read = ap (λ o. option_map_or Ok o (Err (Unmapped a))) (word_whole a v is)

  -- ---- expressions

  load_read : (next n : ℕ) (stack : List ℕ) → IsRead (after_load part next n stack) → after_load whole next n stack ≡ after_load part next n stack
  load_read next n [] read = refl
  load_read next n (a ∷ stack) read = go (number_at part a n) refl read
    where
      go : (o : Option ℕ) → number_at part a n ≡ o → IsRead (load_or_fault next a stack o) → load_or_fault next a stack (number_at whole a n) ≡ load_or_fault next a stack o
      go None is read = absurd read
      go (Some v) is read = ap (load_or_fault next a stack) (number_whole n a v is)

  done_read : (columns : Columns) (expression : List ℕ) (next : ℕ) (stack : List ℕ) (o : Operation) → IsRead (done part columns expression next stack o) → done whole columns expression next stack o ≡ done part columns expression next stack o
  unfolding done
  done_read columns expression next stack Nop read = refl
  done_read columns expression next stack Pop read = refl
  done_read columns expression next stack Swap read = refl
  done_read columns expression next stack Rotate read = refl
  done_read columns expression next stack (Push a) read = refl
  done_read columns expression next stack (PushColumn r n) read = refl
  done_read columns expression next stack (Pick n) read = refl
  done_read columns expression next stack (Load n) read = load_read next n stack read
  done_read columns expression next stack (Change f) read = refl
  done_read columns expression next stack (Combine f) read = refl
  done_read columns expression next stack (Divide f) read = refl
  done_read columns expression next stack (Skip distance) read = refl
  done_read columns expression next stack (Branch distance) read = refl

  step_read : (columns : Columns) (expression : List ℕ) (c : Configuration) → IsRead (step part columns expression c) → step whole columns expression c ≡ step part columns expression c
  step_read columns expression c read = go (operation (rest_at expression c.position)) read
    where
      go : (r : Result (Operation × Input) Fault) → IsRead (done_where_read part columns expression c.stack r) → done_where_read whole columns expression c.stack r ≡ done_where_read part columns expression c.stack r
      go (Err e) read = refl
      go (Ok r) read = done_read columns expression r.1.offset c.stack r.0 read

  answer_read : (columns : Columns) (expression : List ℕ) (left : ℕ) (c : Configuration) → IsRead (answer_from part columns expression left c) → answer_from whole columns expression left c ≡ answer_from part columns expression left c
  unfolding answer_from
  answer_read columns expression zero c read = refl
  answer_read columns expression (suc left) c read = go (is_at_end expression c) read (answer_read columns expression left)
    where
      further : (r : Result Configuration StepFault) → step part columns expression c ≡ r → IsRead (after_step (answer_from part columns expression left) r) →
          ((d : Configuration) → IsRead (answer_from part columns expression left d) → answer_from whole columns expression left d ≡ answer_from part columns expression left d) →
          after_step (answer_from whole columns expression left) (step whole columns expression c) ≡ after_step (answer_from part columns expression left) r
      further (Ok d) is read later = ap (after_step (answer_from whole columns expression left)) (step_read columns expression c (is_read _ (Ok d) is tt) ∙ is) ∙ later d read
      further (Err e) is read later = ap (after_step (answer_from whole columns expression left)) (step_read columns expression c (is_read _ (Err e) is read) ∙ is)

      go : (b : Bool) → IsRead (cond b (top_or_fault (top_of c.stack)) (after_step (answer_from part columns expression left) (step part columns expression c))) →
          ((d : Configuration) → IsRead (answer_from part columns expression left d) → answer_from whole columns expression left d ≡ answer_from part columns expression left d) →
          cond b (top_or_fault (top_of c.stack)) (after_step (answer_from whole columns expression left) (step whole columns expression c)) ≡ cond b (top_or_fault (top_of c.stack)) (after_step (answer_from part columns expression left) (step part columns expression c))
      go true read later = refl
      go false read later = further (step part columns expression c) refl read later

  evaluation_read : (expression stack : List ℕ) (columns : Columns) → IsRead (evaluation part expression stack columns) → evaluation whole expression stack columns ≡ evaluation part expression stack columns
  unfolding evaluation
  evaluation_read expression stack columns read = answer_read columns expression _ _ read

  -- ---- rules

  rule_read : (columns : Columns) (cfa c : ℕ) (rule : Rule) → IsRead (rule_value (evaluation part) part columns cfa c rule) → rule_value (evaluation whole) whole columns cfa c rule ≡ rule_value (evaluation part) part columns cfa c rule
  rule_read columns cfa c Undefined read = refl
  rule_read columns cfa c SameValue read = refl
  rule_read columns cfa c (Offset n) read = word_read (cfa +w n) read
  rule_read columns cfa c (ValOffset n) read = refl
  rule_read columns cfa c (InRegister q) read = refl
  rule_read columns cfa c (Expression bytes) read = go (evaluation part bytes (cfa ∷ []) columns) refl read
    where
      go : (r : Result ℕ StepFault) → evaluation part bytes (cfa ∷ []) columns ≡ r → IsRead (r >>= word_or_fault part) → (evaluation whole bytes (cfa ∷ []) columns >>= word_or_fault whole) ≡ (r >>= word_or_fault part)
      go (Ok a) is read = ap (λ r. r >>= word_or_fault whole) (evaluation_read bytes (cfa ∷ []) columns (is_read _ (Ok a) is tt) ∙ is) ∙ word_read a read
      go (Err e) is read = ap (λ r. r >>= word_or_fault whole) (evaluation_read bytes (cfa ∷ []) columns (is_read _ (Err e) is read) ∙ is)
  rule_read columns cfa c (ValExpression bytes) read = evaluation_read bytes (cfa ∷ []) columns read

  -- ---- a caller's columns

  module _ (machine : Machine) (columns : Columns) (run : RowInstructions) where
    column_read : (cfa c : ℕ) → IsRead (column_value machine (evaluation part) part columns cfa run c) → column_value machine (evaluation whole) whole columns cfa run c ≡ column_value machine (evaluation part) part columns cfa run c
    column_read cfa c read = go (rule_of run c) read
      where
        given : (o : Option ℕ) (r : Result ℕ StepFault) → IsRead (value_for_column o r) → IsRead r
        given o (Ok v) read = tt
        given None (Err e) read = read
        given (Some old) (Err e) read = read

        go : (o : Option Rule) → IsRead (option_map_or (λ rule. value_for_column (columns c) (rule_value (evaluation part) part columns cfa c rule)) o (Ok (value_without_rule machine columns cfa c))) →
            option_map_or (λ rule. value_for_column (columns c) (rule_value (evaluation whole) whole columns cfa c rule)) o (Ok (value_without_rule machine columns cfa c))
            ≡ option_map_or (λ rule. value_for_column (columns c) (rule_value (evaluation part) part columns cfa c rule)) o (Ok (value_without_rule machine columns cfa c))
        go None read = refl
        go (Some rule) read = ap (value_for_column (columns c)) (rule_read columns cfa c rule (given (columns c) (rule_value (evaluation part) part columns cfa c rule) read))

    abbrev in_part : ℕ → ℕ → Result (Option ℕ) StepFault
    in_part cfa = column_value machine (evaluation part) part columns cfa run

    abbrev in_whole : ℕ → ℕ → Result (Option ℕ) StepFault
    in_whole cfa = column_value machine (evaluation whole) whole columns cfa run

    cfa_read : (rule : CfaRule) → IsRead (cfa_value (evaluation part) columns rule) → cfa_value (evaluation whole) columns rule ≡ cfa_value (evaluation part) columns rule
    cfa_read (ColumnAndOffset c n) read = refl
    cfa_read (ByExpression bytes) read = evaluation_read bytes [] columns read

    columns_read : (cfa : ℕ) → IsRead (unless_fault (first_fault_below column_limit (in_part cfa)) (λ c. value_in (in_part cfa c))) →
        result_map below (unless_fault (first_fault_below column_limit (in_whole cfa)) (λ c. value_in (in_whole cfa c))) ≡ result_map below (unless_fault (first_fault_below column_limit (in_part cfa)) (λ c. value_in (in_part cfa c)))
    columns_read cfa read = go (first_fault_below column_limit (in_part cfa)) refl read
      where
        same : IsOtherIfAny (first_fault_below column_limit (in_part cfa)) → first_fault_below column_limit (in_whole cfa) ≡ first_fault_below column_limit (in_part cfa)
        same = first_same (in_part cfa) (in_whole cfa) (column_read cfa) column_limit

        go : (o : Option StepFault) → first_fault_below column_limit (in_part cfa) ≡ o → IsRead (unless_fault o (λ c. value_in (in_part cfa c))) →
            result_map below (unless_fault (first_fault_below column_limit (in_whole cfa)) (λ c. value_in (in_whole cfa c))) ≡ result_map below (unless_fault o (λ c. value_in (in_part cfa c)))
        go None is read =
            ap (λ o. result_map below (unless_fault o (λ c. value_in (in_whole cfa c)))) (same (subst IsOtherIfAny (sym is) tt) ∙ is)
            ∙ ap Ok (below_same (λ c. value_in (in_part cfa c)) (λ c. value_in (in_whole cfa c)) (λ k low. ap value_in (column_read cfa k (faultless (in_part cfa) column_limit k is low))))
        go (Some e) is read = ap (λ o. result_map below (unless_fault o (λ c. value_in (in_whole cfa c)))) (same (subst IsOtherIfAny (sym is) read) ∙ is)

    -- Where nothing unmapped is met over the part, the caller's columns over the whole are those, and so is the fault.
    pub caller_read : IsRead (caller_of machine (evaluation part) part columns run) → result_map below (caller_of machine (evaluation whole) whole columns run) ≡ result_map below (caller_of machine (evaluation part) part columns run)
    caller_read read = go (cfa_rule run) read
      where
        by_cfa : (rule : CfaRule) (r : Result ℕ StepFault) → cfa_value (evaluation part) columns rule ≡ r → IsRead (caller_with machine (evaluation part) part columns run r) →
            result_map below (caller_with machine (evaluation whole) whole columns run (cfa_value (evaluation whole) columns rule)) ≡ result_map below (caller_with machine (evaluation part) part columns run r)
        by_cfa rule (Ok cfa) is read = ap (λ r. result_map below (caller_with machine (evaluation whole) whole columns run r)) (cfa_read rule (is_read _ (Ok cfa) is tt) ∙ is) ∙ columns_read cfa read
        by_cfa rule (Err e) is read = ap (λ r. result_map below (caller_with machine (evaluation whole) whole columns run r)) (cfa_read rule (is_read _ (Err e) is read) ∙ is)

        go : (o : Option CfaRule) → IsRead (option_map_or (λ rule. caller_with machine (evaluation part) part columns run (cfa_value (evaluation part) columns rule)) o (Err (Table NoCfaRegister))) →
            result_map below (option_map_or (λ rule. caller_with machine (evaluation whole) whole columns run (cfa_value (evaluation whole) columns rule)) o (Err (Table NoCfaRegister)))
            ≡ result_map below (option_map_or (λ rule. caller_with machine (evaluation part) part columns run (cfa_value (evaluation part) columns rule)) o (Err (Table NoCfaRegister)))
        go None read = refl
        go (Some rule) read = by_cfa rule (cfa_value (evaluation part) columns rule) refl read
