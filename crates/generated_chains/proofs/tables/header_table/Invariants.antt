use Rattle.std.proofs.Common.{◌≡◌, ◌+◌, ◌++◌, ◌∷◌, take, length}
use Rattle.std.specs.List.{flat_map}
use Rattle.generated_chains.specs.Spelled.{half}
use Rattle.generated_chains.specs.Tables.{header_place, frames_place, relative, pair_bytes}
use Rattle.generated_chains.proofs.tables.header_table.Given as goal

abbrev pub invariant-loop-function : goal.invariant-loop-function
invariant-loop-function l = l.bytes.items ≡ 1 ∷ 0x1b ∷ 3 ∷ 0x3b ∷ (relative (header_place + 4) frames_place ++ (half (length l.functions) ++ flat_map pair_bytes (take l.function-index l.functions)))
