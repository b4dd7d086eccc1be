-- The rules of a row as a list of columns with their rules, by ascending column.
use Rattle.std.specs.Prelude.{ℕ, suc, ◌+◌, ◌^◌, ◌≤◌, Bool, ◌||◌, List, [], ◌∷◌, length, Option, Some, None, Result, Ok, Err, is_some, nat_lt, ◌==◌, if◌then◌else◌}
use Rattle.unwind_definitions.specs.Instructions.{Rule, Undefined, SameValue, Offset, ValOffset, InRegister, Expression, ValExpression}
use Rattle.unwind_definitions.specs.Row.{CfaRule, ColumnAndOffset, ByExpression}
use Rattle.frame_rows.specs.declared.rule.CfaRule.{CfaRule as CodedCfa}
use Rattle.frame_rows.specs.declared.rule.CfaRule.TheVariants as cfa
use Rattle.unwind_arch.specs.declared.register.Register.{Register}
use Rattle.frame_rows.specs.declared.rule.RegisterRule.{RegisterRule}
use Rattle.frame_rows.specs.declared.rule.RegisterRule.TheVariants as rules

abbrev pub rule_meaning : RegisterRule → Rule
rule_meaning rules.Undefined = Undefined
rule_meaning rules.SameValue = SameValue
rule_meaning (rules.Offset n) = Offset n
rule_meaning (rules.ValOffset n) = ValOffset n
rule_meaning (rules.Register r) = InRegister r.0
rule_meaning (rules.Expression bytes) = Expression bytes.now
rule_meaning (rules.ValExpression bytes) = ValExpression bytes.now

abbrev pub entry_of : Register × RegisterRule → ℕ × Rule
entry_of e = (e.0.0, rule_meaning e.1)

-- the rule of a column
abbrev pub rule_in : List (ℕ × Rule) → ℕ → Option Rule
rule_in [] c = None
rule_in (e ∷ es) c = if e.0 == c then Some e.1 else rule_in es c

-- columns ascend, from one on, below 2 ^ 16
abbrev pub AscendsFrom : ℕ → List (ℕ × Rule) → Type 0
AscendsFrom low [] = low ≤ 2 ^ 16
AscendsFrom low (e ∷ es) = (low ≤ e.0) × AscendsFrom (suc e.0) es

-- where a column stands among entries of which so many stand before: `Ok` at its entry, or `Err` where one can be put
abbrev pub find_in : ℕ → ℕ → List (ℕ × Rule) → Result ℕ ℕ
find_in c i [] = Err i
find_in c i (e ∷ es) = if nat_lt e.0 c then find_in c (i + 1) es else (if e.0 == c then Ok i else Err i)

-- what entries say of a column once a column has this rule, or none
abbrev pub with_rule : ℕ → Option Rule → List (ℕ × Rule) → ℕ → Option Rule
with_rule column rule es c = if column == c then rule else rule_in es c

-- whether a column can get a rule: it has one, or there are less than 32
abbrev pub is_room : ℕ → List (ℕ × Rule) → Bool
is_room column es = is_some (rule_in es column) || nat_lt (length es) 32

abbrev pub cfa_meaning : CodedCfa → CfaRule
cfa_meaning (cfa.RegisterAndOffset register offset) = ColumnAndOffset register.0 offset
cfa_meaning (cfa.Expression bytes) = ByExpression bytes.now
