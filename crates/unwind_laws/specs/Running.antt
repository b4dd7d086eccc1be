-- Running a frame program: the rules, the CFA and the argument size change instruction by instruction, and one state of them
-- may be remembered. DWARF 5 section 6.4.2.
use Rattle.std.specs.Prelude.{◌≡◌, ℕ, List, [], ◌∷◌, Option, Some, None, ◌==◌, if◌then◌else◌}
use Rattle.unwind_definitions.specs.Instructions.{Rule, Instruction, Remember, Restore, Write, Reset, Cfa, CfaColumn, CfaOffset, CfaExpression, Arguments}
use Rattle.unwind_definitions.specs.Row.{RowInstructions, CfaRule, ColumnAndOffset, ByExpression, rule_of, cfa_rule, argument_size, first_fault, from_common}

-- a row of the table that a program makes
pub record Running : Type 0 where
  pub rules : ℕ → Option Rule
  pub cfa : Option CfaRule
  pub arguments : ℕ

-- the row now, and the one that is remembered
pub record Memory : Type 0 where
  pub now : Running
  pub saved : Option Running

-- no rules, and no CFA
abbrev pub nothing : Running
nothing = record { rules = λ c. None; cfa = None; arguments = 0 }

abbrev pub with_rule : ℕ → Option Rule → Running → Running
with_rule c rule r = record r { rules = λ k. if c == k then rule else r.rules k }

-- a CFA by a column and an offset, with another column, or another offset
abbrev pub with_cfa_column : ℕ → Option CfaRule → Option CfaRule
with_cfa_column c None = None
with_cfa_column c (Some (ColumnAndOffset d n)) = Some (ColumnAndOffset c n)
with_cfa_column c (Some (ByExpression bytes)) = Some (ByExpression bytes)

abbrev pub with_cfa_offset : ℕ → Option CfaRule → Option CfaRule
with_cfa_offset n None = None
with_cfa_offset n (Some (ColumnAndOffset c m)) = Some (ColumnAndOffset c n)
with_cfa_offset n (Some (ByExpression bytes)) = Some (ByExpression bytes)

-- what an instruction makes of a row, by the initial rules
abbrev pub row_after : (ℕ → Option Rule) → Instruction → Running → Running
row_after initial (Write c rule) r = with_rule c (Some rule) r
row_after initial (Reset c) r = with_rule c (initial c) r
row_after initial (Cfa c n) r = record r { cfa = Some (ColumnAndOffset c n) }
row_after initial (CfaColumn c) r = record r { cfa = with_cfa_column c r.cfa }
row_after initial (CfaOffset n) r = record r { cfa = with_cfa_offset n r.cfa }
row_after initial (CfaExpression bytes) r = record r { cfa = Some (ByExpression bytes) }
row_after initial (Arguments n) r = record r { arguments = n }
row_after initial _ r = r

-- the remembered row again, or the one now where none is
abbrev pub restored_from : Running → Option Running → Running
restored_from now None = now
restored_from now (Some r) = r

abbrev pub run_one : (ℕ → Option Rule) → Instruction → Memory → Memory
run_one initial Remember m = record { now = m.now; saved = Some m.now }
run_one initial Restore m = record { now = restored_from m.now m.saved; saved = None }
run_one initial i m = record m { now = row_after initial i m.now }

abbrev pub run_all : (ℕ → Option Rule) → List Instruction → Memory → Memory
run_all initial [] m = m
run_all initial (i ∷ is) m = run_all initial is (run_one initial i m)

-- a row without a remembered one
abbrev pub fresh : Running → Memory
fresh r = record { now = r; saved = None }

-- what a common program makes, whose rules are the initial ones of the other
abbrev pub after_common : List Instruction → Running
after_common common = (run_all (λ c. None) common (fresh nothing)).now

-- what both programs make
abbrev pub after_both : List Instruction → List Instruction → Running
after_both common own = (run_all (after_common common).rules own (fresh (after_common common))).now

-- a row says what the definition without a changing state says
pub record SaysRow (r : Running) (run : RowInstructions) : Type 0 where
  pub rules : (c : ℕ) → r.rules c ≡ rule_of run c
  pub cfa : r.cfa ≡ cfa_rule run
  pub size : r.arguments ≡ argument_size run

-- neither program meets a fault
pub record HasNoFault (start : ℕ) (common own : List Instruction) : Type 0 where
  pub common_runs : first_fault 0 (from_common []) common ≡ None
  pub own_runs : first_fault start (from_common common) own ≡ None
