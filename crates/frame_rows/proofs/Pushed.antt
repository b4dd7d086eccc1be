-- What one more instruction says.
use Rattle.std.proofs.Common.{◌≡◌, ℕ, ◌+◌, Bool, false, List, [], ◌∷◌, ◌++◌, Option, Some, None, refl, sym, ap, ◌∙◌, append_assoc}
use Rattle.std.specs.Option.{option_or, option_map, unwrap_or}
use Rattle.std.proofs.lemmas.List.{append-nil}
use Rattle.unwind_definitions.specs.Instructions.{Rule, Instruction, Nop, Remember, Restore, Advance, SetLocation, Write, Reset, Cfa, CfaColumn, CfaOffset, CfaExpression, Arguments}
use Rattle.unwind_definitions.specs.Row.{RowInstructions, last_said, kept_instructions, cut_of, Cut, says_of, initial_rule, rule_of, cfa_rule, cfa_of, cfa_from, whole_cfa, cfa_column, cfa_offset, arguments, argument_size, CfaRule, ColumnAndOffset, ByExpression, location, remembers, is_open}
use Rattle.frame_rows.specs.Running.{push, IsClosed, IsOpenSince}

or_none : {A : Type 0} (o : Option A) → option_or None o ≡ option_or o None
or_none None = refl
or_none (Some x) = refl

or_or : {A : Type 0} (a b c : Option A) → option_or (option_or a b) c ≡ option_or a (option_or b c)
or_or None b c = refl
or_or (Some x) b c = refl

pub last_said-push : {A : Type 0} (says : Instruction → Option A) (is : List Instruction) (i : Instruction) → last_said says (is ++ i ∷ []) ≡ option_or (says i) (last_said says is)
last_said-push says [] i = or_none (says i)
last_said-push says (k ∷ is) i = ap (λ o. option_or o (says k)) (last_said-push says is i) ∙ or_or (says i) (last_said says is) (says k)

-- an instruction that neither remembers nor restores
pub record IsPlain (i : Instruction) : Type 0 where
  pub alone : (is : List Instruction) → cut_of (i ∷ is) ≡ record { kept = i ∷ (cut_of is).kept; after = (cut_of is).after }
  pub still : remembers i ≡ None

abbrev pushed : Instruction → Cut → Cut
pushed i c = record { kept = c.kept ++ i ∷ []; after = option_map (λ is. is ++ i ∷ []) c.after }

choose_pushed : (after : Option (List Instruction)) (kept : List Instruction) (i : Instruction) → unwrap_or (option_map (λ is. is ++ i ∷ []) after) (kept ++ i ∷ []) ≡ unwrap_or after kept ++ i ∷ []
choose_pushed None kept i = refl
choose_pushed (Some b) kept i = refl

cons_pushed : (k i : Instruction) (c d : Cut) → c ≡ pushed i d → record { kept = k ∷ c.kept; after = c.after } ≡ pushed i (record { kept = k ∷ d.kept; after = d.after })
cons_pushed k i c d e = ap (λ (x : Cut). let r : Cut = record { kept = k ∷ x.kept; after = x.after } in r) e

cut_push : (is : List Instruction) (i : Instruction) → IsPlain i → cut_of (is ++ i ∷ []) ≡ pushed i (cut_of is)
cut_push [] i plain = plain.alone []
cut_push (Remember ∷ is) i plain =
    ap (λ (x : Cut). let r : Cut = record { kept = unwrap_or x.after x.kept; after = x.after } in r) (cut_push is i plain)
    ∙ ap (λ (k : List Instruction). let r : Cut = record { kept = k; after = option_map (λ is. is ++ i ∷ []) (cut_of is).after } in r) (choose_pushed (cut_of is).after (cut_of is).kept i)
cut_push (Restore ∷ is) i plain = ap (λ (x : Cut). let r : Cut = record { kept = Restore ∷ x.kept; after = Some x.kept } in r) (cut_push is i plain)
cut_push (Nop ∷ is) i plain = cons_pushed (Nop) i (cut_of (is ++ i ∷ [])) (cut_of is) (cut_push is i plain)
cut_push (Advance n ∷ is) i plain = cons_pushed (Advance n) i (cut_of (is ++ i ∷ [])) (cut_of is) (cut_push is i plain)
cut_push (SetLocation n ∷ is) i plain = cons_pushed (SetLocation n) i (cut_of (is ++ i ∷ [])) (cut_of is) (cut_push is i plain)
cut_push (Write q r ∷ is) i plain = cons_pushed (Write q r) i (cut_of (is ++ i ∷ [])) (cut_of is) (cut_push is i plain)
cut_push (Reset q ∷ is) i plain = cons_pushed (Reset q) i (cut_of (is ++ i ∷ [])) (cut_of is) (cut_push is i plain)
cut_push (Cfa q n ∷ is) i plain = cons_pushed (Cfa q n) i (cut_of (is ++ i ∷ [])) (cut_of is) (cut_push is i plain)
cut_push (CfaColumn n ∷ is) i plain = cons_pushed (CfaColumn n) i (cut_of (is ++ i ∷ [])) (cut_of is) (cut_push is i plain)
cut_push (CfaOffset n ∷ is) i plain = cons_pushed (CfaOffset n) i (cut_of (is ++ i ∷ [])) (cut_of is) (cut_push is i plain)
cut_push (CfaExpression n ∷ is) i plain = cons_pushed (CfaExpression n) i (cut_of (is ++ i ∷ [])) (cut_of is) (cut_push is i plain)
cut_push (Arguments n ∷ is) i plain = cons_pushed (Arguments n) i (cut_of (is ++ i ∷ [])) (cut_of is) (cut_push is i plain)

pub kept_push : (is : List Instruction) (i : Instruction) → IsPlain i → kept_instructions (is ++ i ∷ []) ≡ kept_instructions is ++ i ∷ []
kept_push is i plain = ap (λ (c : Cut). c.kept) (cut_push is i plain)

-- the rule of a column after one more instruction
pub rule_push : (run : RowInstructions) (i : Instruction) (c : ℕ) → IsPlain i → rule_of (push run i) c ≡ unwrap_or (says_of (initial_rule run c) c i) (rule_of run c)
rule_push run i c plain =
    ap (λ (is : List Instruction). unwrap_or (last_said (says_of (initial_rule run c) c) is) (initial_rule run c)) (kept_push run.own i plain)
    ∙ ap (λ o. unwrap_or o (initial_rule run c)) (last_said-push (says_of (initial_rule run c) c) (kept_instructions run.own) i)
    ∙ nested (says_of (initial_rule run c) c i) (last_said (says_of (initial_rule run c) c) (kept_instructions run.own)) (initial_rule run c)
  where
    nested : (a b : Option (Option Rule)) (d : Option Rule) → unwrap_or (option_or a b) d ≡ unwrap_or a (unwrap_or b d)
    nested None b d = refl
    nested (Some x) b d = refl

abbrev all_of : RowInstructions → List Instruction
all_of run = kept_instructions run.common ++ kept_instructions run.own

all_push : (run : RowInstructions) (i : Instruction) → IsPlain i → all_of (push run i) ≡ all_of run ++ i ∷ []
all_push run i plain = ap (λ (is : List Instruction). kept_instructions run.common ++ is) (kept_push run.own i plain) ∙ sym (append_assoc (kept_instructions run.common) (kept_instructions run.own) (i ∷ []))

words_push : (run : RowInstructions) (i : Instruction) → IsPlain i → cfa_rule (push run i) ≡
    cfa_from (option_or (whole_cfa i) (last_said whole_cfa (all_of run))) (option_or (cfa_column i) (last_said cfa_column (all_of run))) (option_or (cfa_offset i) (last_said cfa_offset (all_of run)))
words_push run i plain = ap cfa_of (all_push run i plain)
    ∙ rw (last_said-push whole_cfa (all_of run) i, last_said-push cfa_column (all_of run) i, last_said-push cfa_offset (all_of run) i) refl

pub cfa_whole : (run : RowInstructions) (c n : ℕ) → cfa_rule (push run (Cfa c n)) ≡ Some (ColumnAndOffset c n)
cfa_whole run c n = words_push run (Cfa c n) (record { alone = λ is. refl; still = refl })

pub cfa_by_expression : (run : RowInstructions) (b : List ℕ) → cfa_rule (push run (CfaExpression b)) ≡ Some (ByExpression b)
cfa_by_expression run b = words_push run (CfaExpression b) (record { alone = λ is. refl; still = refl })

partial_offset : (w : Option CfaRule) (col off : Option ℕ) (c m n : ℕ) → cfa_from w col off ≡ Some (ColumnAndOffset c m) → cfa_from w col (Some n) ≡ Some (ColumnAndOffset c n)
partial_offset None col off c m n e = absurd cc
partial_offset (Some (ByExpression b)) col off c m n e = absurd cc
partial_offset (Some (ColumnAndOffset c0 n0)) col off c m n e = let same : unwrap_or col c0 ≡ c = cc in rw same refl

partial_column : (w : Option CfaRule) (col off : Option ℕ) (c m q : ℕ) → cfa_from w col off ≡ Some (ColumnAndOffset c m) → cfa_from w (Some q) off ≡ Some (ColumnAndOffset q m)
partial_column None col off c m q e = absurd cc
partial_column (Some (ByExpression b)) col off c m q e = absurd cc
partial_column (Some (ColumnAndOffset c0 n0)) col off c m q e = let same : unwrap_or off n0 ≡ m = cc in rw same refl

-- a new offset, and a new column
pub cfa_new_offset : (run : RowInstructions) (c m n : ℕ) → cfa_rule run ≡ Some (ColumnAndOffset c m) → cfa_rule (push run (CfaOffset n)) ≡ Some (ColumnAndOffset c n)
cfa_new_offset run c m n e = words_push run (CfaOffset n) (record { alone = λ is. refl; still = refl })
    ∙ partial_offset (last_said whole_cfa (all_of run)) (last_said cfa_column (all_of run)) (last_said cfa_offset (all_of run)) c m n e

pub cfa_new_column : (run : RowInstructions) (c m q : ℕ) → cfa_rule run ≡ Some (ColumnAndOffset c m) → cfa_rule (push run (CfaColumn q)) ≡ Some (ColumnAndOffset q m)
cfa_new_column run c m q e = words_push run (CfaColumn q) (record { alone = λ is. refl; still = refl })
    ∙ partial_column (last_said whole_cfa (all_of run)) (last_said cfa_column (all_of run)) (last_said cfa_offset (all_of run)) c m q e

-- an instruction that says nothing of the CFA
pub cfa_same : (run : RowInstructions) (i : Instruction) → IsPlain i → whole_cfa i ≡ None → cfa_column i ≡ None → cfa_offset i ≡ None → cfa_rule (push run i) ≡ cfa_rule run
cfa_same run i plain a b d = words_push run i plain ∙ rw (a, b, d) refl

pub arguments_same : (run : RowInstructions) (i : Instruction) → IsPlain i → arguments i ≡ None → argument_size (push run i) ≡ argument_size run
arguments_same run i plain none = ap (λ (is : List Instruction). unwrap_or (last_said arguments is) 0) (all_push run i plain)
    ∙ rw (last_said-push arguments (all_of run) i, none) refl

pub arguments_new : (run : RowInstructions) (n : ℕ) → argument_size (push run (Arguments n)) ≡ n
arguments_new run n = ap (λ (is : List Instruction). unwrap_or (last_said arguments is) 0) (all_push run (Arguments n) (record { alone = λ is. refl; still = refl }))
    ∙ rw (last_said-push arguments (all_of run) (Arguments n)) refl

-- where one instruction leads
abbrev pub lead : ℕ → Instruction → ℕ
lead at (Advance n) = at + n
lead at (SetLocation a) = a
lead at _ = at

pub location_one : (start : ℕ) (i : Instruction) → location start (i ∷ []) ≡ lead start i
location_one start (Nop) = refl
location_one start (Remember) = refl
location_one start (Restore) = refl
location_one start (Advance n) = refl
location_one start (SetLocation n) = refl
location_one start (Write q r) = refl
location_one start (Reset q) = refl
location_one start (Cfa q n) = refl
location_one start (CfaColumn n) = refl
location_one start (CfaOffset n) = refl
location_one start (CfaExpression n) = refl
location_one start (Arguments n) = refl

pub location-push : (start : ℕ) (is : List Instruction) (i : Instruction) → location start (is ++ i ∷ []) ≡ lead (location start is) i
location-push start [] i = location_one start i
location-push start (Nop ∷ is) i = location-push start is i
location-push start (Remember ∷ is) i = location-push start is i
location-push start (Restore ∷ is) i = location-push start is i
location-push start (Advance n ∷ is) i = location-push (start + n) is i
location-push start (SetLocation n ∷ is) i = location-push n is i
location-push start (Write q r ∷ is) i = location-push start is i
location-push start (Reset q ∷ is) i = location-push start is i
location-push start (Cfa q n ∷ is) i = location-push start is i
location-push start (CfaColumn n ∷ is) i = location-push start is i
location-push start (CfaOffset n ∷ is) i = location-push start is i
location-push start (CfaExpression n ∷ is) i = location-push start is i
location-push start (Arguments n ∷ is) i = location-push start is i

-- whether a state is open after one more instruction
pub open-push : (is : List Instruction) (i : Instruction) → is_open (is ++ i ∷ []) ≡ unwrap_or (remembers i) (is_open is)
open-push is i = ap (λ o. unwrap_or o false) (last_said-push remembers is i) ∙ go (remembers i) (last_said remembers is)
  where
    go : (a b : Option Bool) → unwrap_or (option_or a b) false ≡ unwrap_or a (unwrap_or b false)
    go None b = refl
    go (Some x) b = refl

-- ---- remembered states

one_more : (own rest : List Instruction) (i : Instruction) → (own ++ i ∷ []) ++ rest ≡ own ++ i ∷ rest
one_more own rest i = append_assoc own (i ∷ []) rest

pub closed_at_start : IsClosed []
closed_at_start rest = refl

pub closed_plain : (own : List Instruction) (i : Instruction) → IsPlain i → IsClosed own → IsClosed (own ++ i ∷ [])
closed_plain own i plain closed rest =
    ap kept_instructions (one_more own rest i) ∙ closed (i ∷ rest)
    ∙ ap (λ (c : Cut). kept_instructions own ++ c.kept) (plain.alone rest)
    ∙ sym (append_assoc (kept_instructions own) (i ∷ []) (kept_instructions rest))
    ∙ ap (λ (is : List Instruction). is ++ kept_instructions rest) (sym (kept_push own i plain))

pub open_plain : (before own : List Instruction) (i : Instruction) → IsPlain i → IsOpenSince before own → IsOpenSince before (own ++ i ∷ [])
open_plain before own i plain opened rest kept after =
    ap kept_instructions (one_more own rest i) ∙ opened (i ∷ rest) kept (ap (λ (c : Cut). c.after) (plain.alone rest) ∙ after)

pub open_remember : (own : List Instruction) → IsClosed own → IsOpenSince own (own ++ Remember ∷ [])
open_remember own closed rest kept after =
    ap kept_instructions (one_more own rest Remember) ∙ closed (Remember ∷ rest) ∙ ap (λ (o : Option (List Instruction)). kept_instructions own ++ unwrap_or o (kept_instructions rest)) after

pub cut_remember : (own : List Instruction) → IsClosed own → kept_instructions (own ++ Remember ∷ []) ≡ kept_instructions own
cut_remember own closed = closed (Remember ∷ []) ∙ append-nil (kept_instructions own)

pub cut_restore : (before own : List Instruction) → IsOpenSince before own → kept_instructions (own ++ Restore ∷ []) ≡ kept_instructions before
cut_restore before own opened = opened (Restore ∷ []) [] refl ∙ append-nil (kept_instructions before)

pub closed_restore : (before own : List Instruction) → IsOpenSince before own → IsClosed (own ++ Restore ∷ [])
closed_restore before own opened rest =
    ap kept_instructions (one_more own rest Restore) ∙ opened (Restore ∷ rest) (kept_instructions rest) refl
    ∙ ap (λ (is : List Instruction). is ++ kept_instructions rest) (sym (cut_restore before own opened))
