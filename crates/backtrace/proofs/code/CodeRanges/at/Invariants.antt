use Rattle.std.proofs.Common.{◌≡◌, drop}
use Rattle.backtrace.specs.Code.{code_at}
use Rattle.backtrace.proofs.code.CodeRanges.at.Given as goal

abbrev pub invariant-loop-range : goal.invariant-loop-range
invariant-loop-range l = code_at (drop l.range-index l.self) l.address ≡ code_at l.self l.address
