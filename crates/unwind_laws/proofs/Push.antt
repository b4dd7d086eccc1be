-- What one more instruction says.
use Rattle.std.proofs.Common.{◌≡◌, ℕ, ◌+◌, List, [], ◌∷◌, ◌++◌, Option, Some, None, refl, sym, ap, ◌∙◌, append_assoc}
use Rattle.std.specs.Option.{option_or, option_map, unwrap_or}
use Rattle.unwind_definitions.specs.Instructions.{Rule, Instruction, Nop, Remember, Restore, Advance, SetLocation, Write, Reset, Cfa, CfaColumn, CfaOffset, CfaExpression, Arguments}
use Rattle.unwind_definitions.specs.Row.{RowInstructions, last_said, kept_instructions, cut_of, Cut, says_of, initial_rule, rule_of, cfa_rule, cfa_of, cfa_from, whole_cfa, cfa_column, cfa_offset, CfaRule, ColumnAndOffset, ByExpression, location, arguments, argument_size}

or_none : {A : Type 0} (o : Option A) → option_or None o ≡ option_or o None
or_none None = refl
or_none (Some x) = refl

or_or : {A : Type 0} (a b c : Option A) → option_or (option_or a b) c ≡ option_or a (option_or b c)
or_or None b c = refl
or_or (Some x) b c = refl

pub last_said-push : {A : Type 0} (says : Instruction → Option A) (is : List Instruction) (i : Instruction) → last_said says (is ++ i ∷ []) ≡ option_or (says i) (last_said says is)
last_said-push says [] i = or_none (says i)
last_said-push says (k ∷ is) i = ap (λ o. option_or o (says k)) (last_said-push says is i) ∙ or_or (says i) (last_said says is) (says k)

-- an instruction that neither remembers nor restores
pub record IsPlain (i : Instruction) : Type 0 where
  pub alone : cut_of (i ∷ []) ≡ record { kept = i ∷ []; after = None }

abbrev pushed : Instruction → Cut → Cut
pushed i c = record { kept = c.kept ++ i ∷ []; after = option_map (λ is. is ++ i ∷ []) c.after }

choose_pushed : (after : Option (List Instruction)) (kept : List Instruction) (i : Instruction) → unwrap_or (option_map (λ is. is ++ i ∷ []) after) (kept ++ i ∷ []) ≡ unwrap_or after kept ++ i ∷ []
choose_pushed None kept i = refl
choose_pushed (Some b) kept i = refl

cons_pushed : (k i : Instruction) (c d : Cut) → c ≡ pushed i d → record { kept = k ∷ c.kept; after = c.after } ≡ pushed i (record { kept = k ∷ d.kept; after = d.after })
cons_pushed k i c d e = ap (λ (x : Cut). let r : Cut = record { kept = k ∷ x.kept; after = x.after } in r) e

cut_push : (is : List Instruction) (i : Instruction) → IsPlain i → cut_of (is ++ i ∷ []) ≡ pushed i (cut_of is)
cut_push [] i plain = plain.alone
cut_push (Remember ∷ is) i plain =
    ap (λ (x : Cut). let r : Cut = record { kept = unwrap_or x.after x.kept; after = x.after } in r) (cut_push is i plain)
    ∙ ap (λ (k : List Instruction). let r : Cut = record { kept = k; after = option_map (λ is. is ++ i ∷ []) (cut_of is).after } in r) (choose_pushed (cut_of is).after (cut_of is).kept i)
cut_push (Restore ∷ is) i plain = ap (λ (x : Cut). let r : Cut = record { kept = Restore ∷ x.kept; after = Some x.kept } in r) (cut_push is i plain)
cut_push (Nop ∷ is) i plain = cons_pushed (Nop) i (cut_of (is ++ i ∷ [])) (cut_of is) (cut_push is i plain)
cut_push (Advance n ∷ is) i plain = cons_pushed (Advance n) i (cut_of (is ++ i ∷ [])) (cut_of is) (cut_push is i plain)
cut_push (SetLocation n ∷ is) i plain = cons_pushed (SetLocation n) i (cut_of (is ++ i ∷ [])) (cut_of is) (cut_push is i plain)
cut_push (Write q r ∷ is) i plain = cons_pushed (Write q r) i (cut_of (is ++ i ∷ [])) (cut_of is) (cut_push is i plain)
cut_push (Reset q ∷ is) i plain = cons_pushed (Reset q) i (cut_of (is ++ i ∷ [])) (cut_of is) (cut_push is i plain)
cut_push (Cfa q n ∷ is) i plain = cons_pushed (Cfa q n) i (cut_of (is ++ i ∷ [])) (cut_of is) (cut_push is i plain)
cut_push (CfaColumn n ∷ is) i plain = cons_pushed (CfaColumn n) i (cut_of (is ++ i ∷ [])) (cut_of is) (cut_push is i plain)
cut_push (CfaOffset n ∷ is) i plain = cons_pushed (CfaOffset n) i (cut_of (is ++ i ∷ [])) (cut_of is) (cut_push is i plain)
cut_push (CfaExpression n ∷ is) i plain = cons_pushed (CfaExpression n) i (cut_of (is ++ i ∷ [])) (cut_of is) (cut_push is i plain)
cut_push (Arguments n ∷ is) i plain = cons_pushed (Arguments n) i (cut_of (is ++ i ∷ [])) (cut_of is) (cut_push is i plain)

pub kept_push : (is : List Instruction) (i : Instruction) → IsPlain i → kept_instructions (is ++ i ∷ []) ≡ kept_instructions is ++ i ∷ []
kept_push is i plain = ap (λ (c : Cut). c.kept) (cut_push is i plain)

abbrev pub push : RowInstructions → Instruction → RowInstructions
push run i = record run { own = run.own ++ i ∷ [] }

-- the rule of a column after one more instruction
pub rule_push : (run : RowInstructions) (i : Instruction) (c : ℕ) → IsPlain i → rule_of (push run i) c ≡ unwrap_or (says_of (initial_rule run c) c i) (rule_of run c)
rule_push run i c plain =
    ap (λ (is : List Instruction). unwrap_or (last_said (says_of (initial_rule run c) c) is) (initial_rule run c)) (kept_push run.own i plain)
    ∙ ap (λ o. unwrap_or o (initial_rule run c)) (last_said-push (says_of (initial_rule run c) c) (kept_instructions run.own) i)
    ∙ nested (says_of (initial_rule run c) c i) (last_said (says_of (initial_rule run c) c) (kept_instructions run.own)) (initial_rule run c)
  where
    nested : (a b : Option (Option Rule)) (d : Option Rule) → unwrap_or (option_or a b) d ≡ unwrap_or a (unwrap_or b d)
    nested None b d = refl
    nested (Some x) b d = refl

abbrev all_of : RowInstructions → List Instruction
all_of run = kept_instructions run.common ++ kept_instructions run.own

all_push : (run : RowInstructions) (i : Instruction) → IsPlain i → all_of (push run i) ≡ all_of run ++ i ∷ []
all_push run i plain = ap (λ (is : List Instruction). kept_instructions run.common ++ is) (kept_push run.own i plain) ∙ sym (append_assoc (kept_instructions run.common) (kept_instructions run.own) (i ∷ []))

-- a whole definition
pub cfa_whole : (run : RowInstructions) (c n : ℕ) → cfa_rule (push run (Cfa c n)) ≡ Some (ColumnAndOffset c n)
cfa_whole run c n = ap cfa_of (all_push run (Cfa c n) (record { alone = refl }))
    ∙ rw (last_said-push whole_cfa (all_of run) (Cfa c n), last_said-push cfa_column (all_of run) (Cfa c n), last_said-push cfa_offset (all_of run) (Cfa c n)) refl

partial : (w : Option CfaRule) (col off : Option ℕ) (c m n : ℕ) → cfa_from w col off ≡ Some (ColumnAndOffset c m) → cfa_from w col (Some n) ≡ Some (ColumnAndOffset c n)
partial None col off c m n e = absurd cc
partial (Some (ByExpression b)) col off c m n e = absurd cc
partial (Some (ColumnAndOffset c0 n0)) col off c m n e = let same : unwrap_or col c0 ≡ c = cc in rw same refl

-- a new offset
pub cfa_partial : (run : RowInstructions) (c m n : ℕ) → cfa_rule run ≡ Some (ColumnAndOffset c m) → cfa_rule (push run (CfaOffset n)) ≡ Some (ColumnAndOffset c n)
cfa_partial run c m n e =
    ap cfa_of (all_push run (CfaOffset n) (record { alone = refl }))
    ∙ rw (last_said-push whole_cfa (all_of run) (CfaOffset n), last_said-push cfa_column (all_of run) (CfaOffset n), last_said-push cfa_offset (all_of run) (CfaOffset n))
    (partial (last_said whole_cfa (all_of run)) (last_said cfa_column (all_of run)) (last_said cfa_offset (all_of run)) c m n e)

-- an instruction that says nothing of the CFA
pub cfa_same : (run : RowInstructions) (i : Instruction) → IsPlain i → whole_cfa i ≡ None → cfa_column i ≡ None → cfa_offset i ≡ None → cfa_rule (push run i) ≡ cfa_rule run
cfa_same run i plain a b d = ap cfa_of (all_push run i plain)
    ∙ rw (last_said-push whole_cfa (all_of run) i, last_said-push cfa_column (all_of run) i, last_said-push cfa_offset (all_of run) i, a, b, d) refl

pub location_push : (start : ℕ) (is : List Instruction) (n : ℕ) → location start (is ++ Advance n ∷ []) ≡ location start is + n
location_push start [] n = refl
location_push start (Advance k ∷ is) n = location_push (start + k) is n
location_push start (SetLocation a ∷ is) n = location_push a is n
location_push start (Nop ∷ is) n = location_push start is n
location_push start (Remember ∷ is) n = location_push start is n
location_push start (Restore ∷ is) n = location_push start is n
location_push start (Write q r ∷ is) n = location_push start is n
location_push start (Reset q ∷ is) n = location_push start is n
location_push start (Cfa q m ∷ is) n = location_push start is n
location_push start (CfaColumn m ∷ is) n = location_push start is n
location_push start (CfaOffset m ∷ is) n = location_push start is n
location_push start (CfaExpression m ∷ is) n = location_push start is n
location_push start (Arguments m ∷ is) n = location_push start is n

-- ---- the CFA and the arguments after any instruction that neither remembers nor restores
pub cfa_push : (run : RowInstructions) (i : Instruction) → IsPlain i →
    cfa_rule (push run i) ≡ cfa_from (option_or (whole_cfa i) (last_said whole_cfa (all_of run))) (option_or (cfa_column i) (last_said cfa_column (all_of run))) (option_or (cfa_offset i) (last_said cfa_offset (all_of run)))
cfa_push run i plain = ap cfa_of (all_push run i plain) ∙ rw (last_said-push whole_cfa (all_of run) i, last_said-push cfa_column (all_of run) i, last_said-push cfa_offset (all_of run) i) refl

by_column : (w : Option CfaRule) (col off : Option ℕ) (d c n : ℕ) → cfa_from w col off ≡ Some (ColumnAndOffset c n) → cfa_from w (Some d) off ≡ Some (ColumnAndOffset d n)
by_column None col off d c n e = absurd cc
by_column (Some (ByExpression b)) col off d c n e = absurd cc
by_column (Some (ColumnAndOffset c0 n0)) col off d c n e = let same : unwrap_or off n0 ≡ n = cc in rw same refl

-- a new column
pub cfa_by_column : (run : RowInstructions) (d c n : ℕ) → cfa_rule run ≡ Some (ColumnAndOffset c n) → cfa_rule (push run (CfaColumn d)) ≡ Some (ColumnAndOffset d n)
cfa_by_column run d c n e = cfa_push run (CfaColumn d) (record { alone = refl }) ∙ by_column (last_said whole_cfa (all_of run)) (last_said cfa_column (all_of run)) (last_said cfa_offset (all_of run)) d c n e

-- an expression
pub cfa_by_expression : (run : RowInstructions) (bytes : List ℕ) → cfa_rule (push run (CfaExpression bytes)) ≡ Some (ByExpression bytes)
cfa_by_expression run bytes = cfa_push run (CfaExpression bytes) (record { alone = refl })

-- the argument size
pub arguments_push : (run : RowInstructions) (i : Instruction) → IsPlain i → argument_size (push run i) ≡ unwrap_or (arguments i) (argument_size run)
arguments_push run i plain =
    ap (λ (is : List Instruction). unwrap_or (last_said arguments is) 0) (all_push run i plain)
    ∙ ap (λ o. unwrap_or o 0) (last_said-push arguments (all_of run) i)
    ∙ go (arguments i)
  where
    go : (o : Option ℕ) → unwrap_or (option_or o (last_said arguments (all_of run))) 0 ≡ unwrap_or o (argument_size run)
    go None = refl
    go (Some n) = refl
