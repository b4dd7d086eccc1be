-- What a row says, without the bytes of expressions. DWARF 5 section 6.4.1.
use Rattle.std.specs.Prelude.{Option, Some, None}
use Rattle.unwind_definitions.specs.Instructions.{Rule, Undefined, SameValue, Offset, ValOffset, InRegister, Expression, ValExpression}
use Rattle.unwind_definitions.specs.Row.{CfaRule, ColumnAndOffset, ByExpression}
use Rattle.fact_checks.specs.declared.said.SaidCfa.{SaidCfa}
use Rattle.fact_checks.specs.declared.said.SaidCfa.TheVariants as cfa
use Rattle.fact_checks.specs.declared.said.SaidRule.{SaidRule}
use Rattle.fact_checks.specs.declared.said.SaidRule.TheVariants as said

-- where the CFA is
abbrev pub said_cfa : CfaRule → SaidCfa
said_cfa (ColumnAndOffset c n) = cfa.Above (record { 0 = c }) n
said_cfa (ByExpression bytes) = cfa.Expression

-- a column's rule, or that it has none
abbrev pub said_rule : Option Rule → SaidRule
said_rule None = said.Nothing
said_rule (Some Undefined) = said.Undefined
said_rule (Some SameValue) = said.SameValue
said_rule (Some (Offset n)) = said.Offset n
said_rule (Some (ValOffset n)) = said.ValOffset n
said_rule (Some (InRegister c)) = said.Register (record { 0 = c })
said_rule (Some (Expression bytes)) = said.Expression
said_rule (Some (ValExpression bytes)) = said.ValExpression
