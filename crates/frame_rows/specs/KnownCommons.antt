-- What the program of a common information entry ended with that was run before. No public clause cites this.
use Rattle.std.specs.Prelude.{◌≡◌, ℕ, List, None}
use Rattle.unwind_definitions.specs.Input.{Input}
use Rattle.unwind_definitions.specs.Instructions.{Coding, program}
use Rattle.frame_rows.specs.Running.{IsEndOf}
use Rattle.frame_rows.specs.declared.machine.RowState.{RowState}

-- a common information entry's program that has these bytes ends with this row, wherever it stands, where it is read by these factors
pub record KnowsEnd (bytes : List ℕ) (code units : ℕ) (state : RowState) : Type 0 where
  pub ends : (coding : Coding) (common : Input) → coding.code_factor ≡ code → coding.data_factor ≡ units → common.bytes ≡ bytes → IsEndOf state None (program coding common)
