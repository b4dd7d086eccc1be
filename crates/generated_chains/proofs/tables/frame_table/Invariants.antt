use Rattle.std.proofs.Common.{◌≡◌, take}
use Rattle.generated_chains.specs.Tables.{frame_table}
use Rattle.generated_chains.proofs.tables.frame_table.Given as goal

abbrev pub invariant-loop-function : goal.invariant-loop-function
invariant-loop-function l = l.bytes.items ≡ frame_table (take l.function-index l.functions)
