use Rattle.std.proofs.Common.{◌≡◌, map, take}
use Rattle.std.specs.List.{AllByRecursion}
use Rattle.table_check.proofs.cies.are_nops.Given as goal

abbrev pub invariant-loop-byte : goal.invariant-loop-byte
invariant-loop-byte l = AllByRecursion (λ b. b ≡ 0) (map (λ b. b) (take l.byte-index l.program))
