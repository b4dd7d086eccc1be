-- What a row says, and which rows a description has.
use Rattle.std.specs.Prelude.{ℕ, List}
use Rattle.unwind_definitions.specs.Instructions.{Rule}
use Rattle.unwind_definitions.specs.Row.{CfaRule}

-- the rule of the CFA, the columns that have a rule, by ascending column, and the size of the arguments on the stack
pub record RowValue : Type 0 where
  pub cfa : CfaRule
  pub rules : List (ℕ × Rule)
  pub saved_args_size : ℕ
