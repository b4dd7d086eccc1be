-- When what a row reads isn't mapped.
use Rattle.std.proofs.Common.{inl, inr, ◌≡◌, ℕ, zero, suc, ◌+◌, ◌%◌, ◌^◌, ◌<◌, List, [], ◌∷◌, Option, Some, None, Result, Ok, Err, refl, sym, ap, subst, ◌∙◌, arith}
use Rattle.std.specs.Prelude.{◌⊎◌}
use Rattle.std.specs.Option.{option_or, option_map_or}
use Rattle.std.proofs.lemmas.Bool.{cases_lt}
use Rattle.memory_image.specs.Image.{Span, word_at}
use Rattle.memory_image.specs.Results.{◌>>=◌}
use Rattle.unwind_definitions.specs.declared.error.Error.TheVariants.{NoCfaRegister}
use Rattle.unwind_definitions.specs.Instructions as rules
use Rattle.unwind_definitions.specs.Row.{RowInstructions, CfaRule, ColumnAndOffset, ByExpression, cfa_rule, rule_of}
use Rattle.unwind_definitions.specs.Caller as calls
use Rattle.unwind_definitions.specs.Expressions.{initial_configuration, operation_limit, evaluation}
use Rattle.unwind_definitions.specs.Expressions as expressions
use Rattle.frame_expressions.specs.Runs.{answer_is}
use Rattle.frame_expressions.specs.Unmapped.{unmapped_evaluation}
use Rattle.stack_steps.specs.Elf.{ExpressionReadsUnmapped, CfaReadsUnmapped, RuleReadsUnmapped, ColumnReadsUnmapped, ReadsUnmapped}
use Rattle.unwinding_frames.proofs.Callers.{HasValue, first_fault_below-lowest}

-- ---- a slot that isn't mapped

held_mapped : (o : Option ℕ) (a : ℕ) → calls.column_or_fault o ≡ Err (calls.Unmapped a) → ⊥
held_mapped None a e = absurd cc
held_mapped (Some v) a e = absurd cc

unmapped_word : (image : List Span) (a b : ℕ) → calls.word_or_fault image a ≡ Err (calls.Unmapped b) → (b ≡ a) × (word_at image b ≡ None)
unmapped_word image a b e = go (word_at image a) refl e
  where
    go : (o : Option ℕ) → word_at image a ≡ o → option_map_or Ok o (Err (calls.Unmapped a)) ≡ Err (calls.Unmapped b) → (b ≡ a) × (word_at image b ≡ None)
    go None none e = let same : a ≡ b = cc in (sym same, subst (λ (n : ℕ). word_at image n ≡ None) same none)
    go (Some v) is e = absurd cc

-- ---- an expression that reads what isn't mapped

expression_reads : (image : List Span) (columns : calls.Columns) (expression stack : List ℕ) (b : ℕ) → evaluation image expression stack columns ≡ Err (calls.Unmapped b) → ExpressionReadsUnmapped image columns expression stack b
unfolding evaluation
expression_reads image columns expression stack b = (answer_is image columns expression (operation_limit expression) (initial_configuration stack) (Err (calls.Unmapped b))).0

reads_expression : (image : List Span) (columns : calls.Columns) (expression stack : List ℕ) (b : ℕ) → ExpressionReadsUnmapped image columns expression stack b → evaluation image expression stack columns ≡ Err (calls.Unmapped b)
unfolding evaluation
reads_expression image columns expression stack b = (answer_is image columns expression (operation_limit expression) (initial_configuration stack) (Err (calls.Unmapped b))).1

gives_address : (image : List Span) (columns : calls.Columns) (expression stack : List ℕ) (a : ℕ) → evaluation image expression stack columns ≡ Ok a → expressions.HasValue image columns expression (operation_limit expression) (initial_configuration stack) a
unfolding evaluation
gives_address image columns expression stack a = (answer_is image columns expression (operation_limit expression) (initial_configuration stack) (Ok a)).0

address_given : (image : List Span) (columns : calls.Columns) (expression stack : List ℕ) (a : ℕ) → expressions.HasValue image columns expression (operation_limit expression) (initial_configuration stack) a → evaluation image expression stack columns ≡ Ok a
unfolding evaluation
address_given image columns expression stack a = (answer_is image columns expression (operation_limit expression) (initial_configuration stack) (Ok a)).1

reads_word : (image : List Span) (columns : calls.Columns) (expression stack : List ℕ) (b : ℕ) → ExpressionReadsUnmapped image columns expression stack b → word_at image b ≡ None
reads_word image columns expression stack b reads = unmapped_evaluation image expression stack columns b (reads_expression image columns expression stack b reads)

-- ---- a rule

unmapped_rule : (image : List Span) (columns : calls.Columns) (cfa k b : ℕ) (rule : rules.Rule) → calls.rule_value (evaluation image) image columns cfa k rule ≡ Err (calls.Unmapped b) → RuleReadsUnmapped image columns cfa rule b
unmapped_rule image columns cfa k b rules.Undefined e = absurd cc
unmapped_rule image columns cfa k b rules.SameValue e = absurd (held_mapped (columns k) b e)
unmapped_rule image columns cfa k b (rules.Offset n) e = unmapped_word image ((cfa + n) % 2 ^ 64) b e
unmapped_rule image columns cfa k b (rules.ValOffset n) e = absurd cc
unmapped_rule image columns cfa k b (rules.InRegister q) e = absurd (held_mapped (columns q) b e)
unmapped_rule image columns cfa k b (rules.Expression bytes) e = go (evaluation image bytes (cfa ∷ []) columns) refl e
  where
    go : (r : Result ℕ calls.StepFault) → evaluation image bytes (cfa ∷ []) columns ≡ r → (r >>= calls.word_or_fault image) ≡ Err (calls.Unmapped b) → RuleReadsUnmapped image columns cfa (rules.Expression bytes) b
    go (Ok a) is e =
        let word = unmapped_word image a b e in
        inr (gives_address image columns bytes (cfa ∷ []) b (is ∙ ap Ok (sym word.0)), word.1)
    go (Err f) is e = let same : evaluation image bytes (cfa ∷ []) columns ≡ Err (calls.Unmapped b) = cc in inl (expression_reads image columns bytes (cfa ∷ []) b same)
unmapped_rule image columns cfa k b (rules.ValExpression bytes) e = expression_reads image columns bytes (cfa ∷ []) b e

rule_unmapped : (image : List Span) (columns : calls.Columns) (cfa k b : ℕ) (rule : rules.Rule) → RuleReadsUnmapped image columns cfa rule b → calls.rule_value (evaluation image) image columns cfa k rule ≡ Err (calls.Unmapped b)
rule_unmapped image columns cfa k b rules.Undefined reads = absurd reads
rule_unmapped image columns cfa k b rules.SameValue reads = absurd reads
rule_unmapped image columns cfa k b (rules.Offset n) reads = rw (← reads.0, reads.1) refl
rule_unmapped image columns cfa k b (rules.ValOffset n) reads = absurd reads
rule_unmapped image columns cfa k b (rules.InRegister q) reads = absurd reads
rule_unmapped image columns cfa k b (rules.Expression bytes) (inl reads) = rw (reads_expression image columns bytes (cfa ∷ []) b reads) refl
rule_unmapped image columns cfa k b (rules.Expression bytes) (inr gives) = rw (address_given image columns bytes (cfa ∷ []) b gives.0, gives.1) refl
rule_unmapped image columns cfa k b (rules.ValExpression bytes) reads = reads_expression image columns bytes (cfa ∷ []) b reads

rule_word : (image : List Span) (columns : calls.Columns) (cfa b : ℕ) (rule : rules.Rule) → RuleReadsUnmapped image columns cfa rule b → word_at image b ≡ None
rule_word image columns cfa b rules.Undefined reads = absurd reads
rule_word image columns cfa b rules.SameValue reads = absurd reads
rule_word image columns cfa b (rules.Offset n) reads = reads.1
rule_word image columns cfa b (rules.ValOffset n) reads = absurd reads
rule_word image columns cfa b (rules.InRegister q) reads = absurd reads
rule_word image columns cfa b (rules.Expression bytes) (inl reads) = reads_word image columns bytes (cfa ∷ []) b reads
rule_word image columns cfa b (rules.Expression bytes) (inr gives) = gives.1
rule_word image columns cfa b (rules.ValExpression bytes) reads = reads_word image columns bytes (cfa ∷ []) b reads

unmapped_placed : (old : Option ℕ) (r : Result ℕ calls.StepFault) (b : ℕ) → calls.value_for_column old r ≡ Err (calls.Unmapped b) → r ≡ Err (calls.Unmapped b)
unmapped_placed old (Err x) b e = cc
unmapped_placed None (Ok v) b e = absurd cc
unmapped_placed (Some w) (Ok v) b e = absurd cc

-- ---- the lowest column without a value

none_below : (n : ℕ) (f : ℕ → Result (Option ℕ) calls.StepFault) → calls.first_fault_below n f ≡ None → (k : ℕ) → k < n → HasValue (f k)
unfolding calls.first_fault_below
none_below zero f none k less = absurd (omega arith)
none_below (suc n) f none k less = go (λ is low. none_below n f is k low) (calls.first_fault_below n f) refl (f n) refl none
  where
    go : (calls.first_fault_below n f ≡ None → k < n → HasValue (f k)) → (o : Option calls.StepFault) → calls.first_fault_below n f ≡ o → (r : Result (Option ℕ) calls.StepFault) → f n ≡ r → option_or o (calls.fault_in r) ≡ None → HasValue (f k)
    go below (Some x) is r at e = absurd cc
    go below None is (Err x) at e = absurd cc
    go below None is (Ok v) at e = elim (cases_lt k n) as (λ t. HasValue (f k)) [
      | inl low ↦ below is low
      | inr high ↦ let last : n ≡ k = omega arith in subst (λ (m : ℕ). HasValue (f m)) last (v, at)
    ]

pub record IsLowest (n : ℕ) (f : ℕ → Result (Option ℕ) calls.StepFault) (e : calls.StepFault) : Type 0 where
  pub column : ℕ
  pub small : column < n
  pub fault : f column ≡ Err e
  pub before : (k : ℕ) → k < column → HasValue (f k)

lowest : (n : ℕ) (f : ℕ → Result (Option ℕ) calls.StepFault) (e : calls.StepFault) → calls.first_fault_below n f ≡ Some e → IsLowest n f e
unfolding calls.first_fault_below
lowest zero f e is = absurd cc
lowest (suc n) f e is = go (λ at. lowest n f e at) (calls.first_fault_below n f) refl (f n) refl is
  where
    go : (calls.first_fault_below n f ≡ Some e → IsLowest n f e) → (o : Option calls.StepFault) → calls.first_fault_below n f ≡ o → (r : Result (Option ℕ) calls.StepFault) → f n ≡ r → option_or o (calls.fault_in r) ≡ Some e → IsLowest (suc n) f e
    go below (Some x) first r at same =
        let at_e : calls.first_fault_below n f ≡ Some e = first ∙ same in
        let low = below at_e in
        let small : low.column < suc n = let less : low.column < n = low.small in omega arith in
        record { column = low.column; small = small; fault = low.fault; before = low.before }
    go below None first (Ok v) at same = absurd cc
    go below None first (Err x) at same = let this : x ≡ e = cc in record { column = n; small = omega arith; fault = at ∙ ap Err this; before = λ k less. none_below n f first k less }

module _ (image : List Span) (columns : calls.Columns) (run : RowInstructions) (b : ℕ) where
  abbrev value : ℕ → ℕ → Result (Option ℕ) calls.StepFault
  value cfa = calls.column_value calls.x86_64 (evaluation image) image columns cfa run

  abbrev Ruled : ℕ → Option rules.Rule → Type 0
  Ruled cfa o = (rule : rules.Rule) × (o ≡ Some rule) × RuleReadsUnmapped image columns cfa rule b

  unmapped_column : (cfa k : ℕ) → value cfa k ≡ Err (calls.Unmapped b) → Ruled cfa (rule_of run k)
  unmapped_column cfa k e = go (rule_of run k) e
    where
      go : (o : Option rules.Rule) → option_map_or (λ rule. calls.value_for_column (columns k) (calls.rule_value (evaluation image) image columns cfa k rule)) o (Ok (calls.value_without_rule calls.x86_64 columns cfa k)) ≡ Err (calls.Unmapped b) → Ruled cfa o
      go None e = absurd cc
      go (Some rule) e = (rule, refl, unmapped_rule image columns cfa k b rule (unmapped_placed (columns k) (calls.rule_value (evaluation image) image columns cfa k rule) b e))

  unmapped_cfa : (rule : CfaRule) → calls.cfa_value (evaluation image) columns rule ≡ Err (calls.Unmapped b) → CfaReadsUnmapped image columns rule b
  unmapped_cfa (ColumnAndOffset k n) e = absurd (go (columns k) e)
    where
      go : (o : Option ℕ) → calls.offset_from n (calls.column_or_fault o) ≡ Err (calls.Unmapped b) → ⊥
      go None e = absurd cc
      go (Some v) e = absurd cc
  unmapped_cfa (ByExpression bytes) e = expression_reads image columns bytes [] b e

  cfa_unmapped : (rule : CfaRule) → CfaReadsUnmapped image columns rule b → calls.cfa_value (evaluation image) columns rule ≡ Err (calls.Unmapped b)
  cfa_unmapped (ColumnAndOffset k n) reads = absurd reads
  cfa_unmapped (ByExpression bytes) reads = reads_expression image columns bytes [] b reads

  cfa_word : (rule : CfaRule) → CfaReadsUnmapped image columns rule b → word_at image b ≡ None
  cfa_word (ColumnAndOffset k n) reads = absurd reads
  cfa_word (ByExpression bytes) reads = reads_word image columns bytes [] b reads

  unmapped_with : (rule : CfaRule) → cfa_rule run ≡ Some rule → (r : Result ℕ calls.StepFault) → calls.cfa_value (evaluation image) columns rule ≡ r → calls.caller_with calls.x86_64 (evaluation image) image columns run r ≡ Err (calls.Unmapped b) → ReadsUnmapped image columns run b
  unmapped_with rule ruled (Err f) at e = record { rule = rule; ruled = ruled; reads = inl (unmapped_cfa rule (at ∙ cc)) }
  unmapped_with rule ruled (Ok cfa) at e = go (calls.first_fault_below calls.column_limit (value cfa)) refl e
    where
      go : (o : Option calls.StepFault) → calls.first_fault_below calls.column_limit (value cfa) ≡ o → calls.unless_fault o (λ k. calls.value_in (value cfa k)) ≡ Err (calls.Unmapped b) → ReadsUnmapped image columns run b
      go None is e = absurd cc
      go (Some f) is e =
          let same : f ≡ calls.Unmapped b = cc in
          let low : IsLowest calls.column_limit (value cfa) (calls.Unmapped b) = lowest calls.column_limit (value cfa) (calls.Unmapped b) (is ∙ ap Some same) in
          let at_column = unmapped_column cfa low.column low.fault in
          record {
            rule = rule;
            ruled = ruled;
            reads = inr (record { cfa = cfa; finds_cfa = at; column = low.column; small = low.small; before = low.before; rule = at_column.0; ruled = at_column.1; reads = at_column.2 });
          }

  pub unmapped_caller : calls.caller_of calls.x86_64 (evaluation image) image columns run ≡ Err (calls.Unmapped b) → ReadsUnmapped image columns run b
  unmapped_caller e = go (cfa_rule run) refl e
    where
      go : (o : Option CfaRule) → cfa_rule run ≡ o → option_map_or (λ rule. calls.caller_with calls.x86_64 (evaluation image) image columns run (calls.cfa_value (evaluation image) columns rule)) o (Err (calls.Table NoCfaRegister)) ≡ Err (calls.Unmapped b) → ReadsUnmapped image columns run b
      go None is e = absurd cc
      go (Some rule) is e = unmapped_with rule is (calls.cfa_value (evaluation image) columns rule) refl e

  pub caller_is_unmapped : ReadsUnmapped image columns run b → calls.caller_of calls.x86_64 (evaluation image) image columns run ≡ Err (calls.Unmapped b)
  caller_is_unmapped reads = go reads.reads
    where
      go : CfaReadsUnmapped image columns reads.rule b ⊎ ColumnReadsUnmapped image columns run reads.rule b → calls.caller_of calls.x86_64 (evaluation image) image columns run ≡ Err (calls.Unmapped b)
      go (inl cfa) = rw (reads.ruled, cfa_unmapped reads.rule cfa) refl
      go (inr at) =
          let fault : value at.cfa at.column ≡ Err (calls.Unmapped b) = rw (at.ruled, rule_unmapped image columns at.cfa at.column b at.rule at.reads) refl in
          let first : calls.first_fault_below calls.column_limit (value at.cfa) ≡ Some (calls.Unmapped b) = first_fault_below-lowest calls.column_limit at.column (calls.Unmapped b) (value at.cfa) at.small fault at.before in
          rw (reads.ruled, at.finds_cfa, first) refl

  pub reads_no_word : ReadsUnmapped image columns run b → word_at image b ≡ None
  reads_no_word reads = go reads.reads
    where
      go : CfaReadsUnmapped image columns reads.rule b ⊎ ColumnReadsUnmapped image columns run reads.rule b → word_at image b ≡ None
      go (inl cfa) = cfa_word reads.rule cfa
      go (inr at) = rule_word image columns at.cfa b at.rule at.reads
